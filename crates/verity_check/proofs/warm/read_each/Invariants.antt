use Rattle.std.proofs.Common.{◌≡◌, ℕ, ◌+◌, ◌<◌, ◌≤◌, [], true, length, slice_index_or}
use Rattle.std.specs.Fork.{slice_chunk}
use Rattle.verity_store.specs.Given.{GaveSince}
use Rattle.verity_store.specs.Stores.{IsOnlyRead}
use Rattle.verity_check.proofs.warm.read_each.Given as goal

abbrev pub invariant-each : goal.invariant-each
invariant-each g l =
    let S = g.S.BlockStore in
    record {
      given : (mark : ℕ) → mark ≤ length (S.given l.fn.store) → (k : ℕ) → k < l.j →
          GaveSince (S.given l.store) mark (slice_index_or l.numbers k 0) (slice_chunk l.out l.size k);
      right : S.tells l.fn.store ≡ true → (k : ℕ) → k < l.j →
          slice_index_or (S.content l.fn.store) (slice_index_or l.numbers k 0) [] ≡ slice_chunk l.out l.size k;
      counted : S.reads l.store ≤ S.reads l.fn.store + l.j;
      read : IsOnlyRead S l.fn.store l.store;
    }
