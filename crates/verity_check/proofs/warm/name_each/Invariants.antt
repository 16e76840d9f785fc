use Rattle.std.proofs.Common.{◌≡◌, ℕ, ◌+◌, ◌*◌, ◌<◌, ◌≤◌, [], length, slice_index_or}
use Rattle.verity_store.specs.Stores.{IsOnlyRead}
use Rattle.verity_chain.specs.Table.{height}
use Rattle.verity_chain.specs.Chain.{Names}
use Rattle.verity_chain.specs.Stores.{hash_given}
use Rattle.verity_check.specs.Cache.{IsChained}
use Rattle.verity_check.proofs.warm.name_each.Given as goal

abbrev pub invariant-each : goal.invariant-each
invariant-each g l =
    let H = g.H.BlockStore in
    let t = l.fn.tree in
    let given = hash_given H t l.since.of_hash l.hash_store in
    record {
      named : (k : ℕ) → k < l.j → Names t given 0 (slice_index_or l.numbers k 0) (slice_index_or l.names k []);
      chained : IsChained t given l.cache;
      keeps : IsOnlyRead H l.fn.hash_store l.hash_store;
      reads : H.reads l.hash_store ≤ H.reads l.fn.hash_store + l.j * height t;
      same : l.tree ≡ t;
      whole : length l.hash_block ≡ t.hash_block_size;
    }
