use Rattle.std.proofs.Common.{◌+◌, ◌-◌, ◌*◌, ◌≤◌, ◌≡◌, length}
use Rattle.verity_store.specs.Stores.{IsOnlyRead}
use Rattle.verity_report.specs.Stores.{GivesOwn, gave_between, listed_in}
use Rattle.verity_report.specs.Descent.{AreRows, AreSeenTo, IsSoFar, places}
use Rattle.verity_report.proofs.report.go_through.Given as goal

abbrev pub invariant-loop-n : goal.invariant-loop-n
invariant-loop-n g l =
    let D = g.D.BlockStore in
    let H = g.H.BlockStore in
    let t = l.fn.tree in
    record {
      rows : AreRows t l.rows;
      seen : AreSeenTo t l.n l.rows;
      within : l.n ≤ t.data_blocks;
      found : IsSoFar t (listed_in t (gave_between D l.fn.data_store l.data_store) (gave_between H l.fn.hash_store l.hash_store))
          l.rows l.unchecked
          (D.failures l.fn.data_store + H.failures l.fn.hash_store) (D.failures l.data_store + H.failures l.hash_store);
      data_own : GivesOwn D l.fn.data_store l.data_store;
      hash_own : GivesOwn H l.fn.hash_store l.hash_store;
      counted : l.unchecked + (D.reads l.data_store + H.reads l.hash_store)
          ≡ D.reads l.fn.data_store + H.reads l.fn.hash_store + places t l.rows;
      most : l.unchecked ≤ l.n * 15;
      data_keeps : IsOnlyRead D l.fn.data_store l.data_store;
      hash_keeps : IsOnlyRead H l.fn.hash_store l.hash_store;
      run : t.data_block_size ≤ length l.run;
      block : length l.hash_block ≡ t.hash_block_size;
      same : l.tree ≡ t;
    }

abbrev pub decreases-loop-n : goal.decreases-loop-n
decreases-loop-n g l = l.count - l.n
