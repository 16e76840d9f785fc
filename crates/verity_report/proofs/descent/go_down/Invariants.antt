use Rattle.std.proofs.Common.{ℕ, ◌+◌, ◌≤◌, ◌≡◌, List, length, drop}
use Rattle.verity_store.specs.Stores.{IsOnlyRead}
use Rattle.verity_chain.specs.Table.{height}
use Rattle.verity_report.specs.Stores.{GivesOwn, listed_in}
use Rattle.verity_report.specs.Descent.{AreRows, IsDownTo, IsSoFar, places}
use Rattle.verity_report.proofs.descent.go_down.Given as goal

abbrev pub invariant-loop-level : goal.invariant-loop-level
invariant-loop-level g l =
    let H = g.H.BlockStore in
    let t = l.fn.tree in
    record {
      rows : AreRows t l.rows;
      down : IsDownTo t l.n l.level l.rows;
      low : l.level ≤ height t;
      found : (mark : ℕ) → mark ≤ length (H.given l.fn.hash_store) → (gave : List (ℕ × List ℕ)) (base other : ℕ)
          → IsSoFar t (listed_in t gave (drop mark (H.given l.fn.hash_store))) l.fn.rows l.fn.unchecked base
          (other + H.failures l.fn.hash_store)
          → IsSoFar t (listed_in t gave (drop mark (H.given l.hash_store))) l.rows l.unchecked base (other + H.failures l.hash_store);
      own : GivesOwn H l.fn.hash_store l.hash_store;
      counted : l.unchecked + H.reads l.hash_store + places t l.fn.rows ≡ l.fn.unchecked + H.reads l.fn.hash_store + places t l.rows;
      most : l.unchecked + l.level ≤ l.fn.unchecked + height t;
      keeps : IsOnlyRead H l.fn.hash_store l.hash_store;
      block : length l.hash_block ≡ t.hash_block_size;
      same : l.tree ≡ t;
    }

abbrev pub decreases-loop-level : goal.decreases-loop-level
decreases-loop-level g l = l.level
