use Rattle.std.proofs.Common.{◌≡◌, ℕ, ◌+◌, ◌<◌, ◌≤◌, [], true, length, slice_index_or}
use Rattle.std.specs.Fork.{slice_chunk}
use Rattle.verity_store.specs.Given.{GaveSince}
use Rattle.verity_store.specs.Stores.{IsOnlyRead}
use Rattle.verity_report.specs.Stores.{GivesOwn}
use Rattle.verity_report.proofs.ahead.read_ahead.Given as goal

abbrev pub invariant-each : goal.invariant-each
invariant-each g l =
    let S = g.S.BlockStore in
    let size = S.size l.fn.store in
    record {
      given : (mark : ℕ) → mark ≤ length (S.given l.fn.store) → (k : ℕ) → k < l.j
          → GaveSince (S.given l.store) mark (l.first + k) (slice_chunk l.out size k);
      right : S.tells l.fn.store ≡ true → (k : ℕ) → k < l.j
          → slice_index_or (S.content l.fn.store) (l.first + k) [] ≡ slice_chunk l.out size k;
      own : GivesOwn S l.fn.store l.store;
      counted : S.reads l.store ≡ S.reads l.fn.store + l.j;
      read : IsOnlyRead S l.fn.store l.store;
    }
