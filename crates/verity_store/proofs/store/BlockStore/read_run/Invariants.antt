use Rattle.std.proofs.Common.{◌≡◌, ℕ, ◌+◌, ◌<◌, ◌++◌, [], true, slice_index_or}
use Rattle.std.specs.Fork.{slice_chunk}
use Rattle.verity_store.specs.Given.{run_of}
use Rattle.verity_store.specs.Stores.{IsOnlyRead}
use Rattle.verity_store.proofs.store.BlockStore.read_run.Given as goal

abbrev pub invariant-each : goal.invariant-each
invariant-each g l =
    let S = g.Self.BlockStore in
    let size = S.size l.fn.self in
    record {
      given : S.given l.self ≡ S.given l.fn.self ++ run_of l.first size l.j l.out;
      right : S.tells l.fn.self ≡ true → (k : ℕ) → k < l.j →
          slice_index_or (S.content l.fn.self) (l.first + k) [] ≡ slice_chunk l.out size k;
      unfailed : S.failures l.self ≡ S.failures l.fn.self;
      counted : S.reads l.self ≡ S.reads l.fn.self + l.j;
      read : IsOnlyRead S l.fn.self l.self;
    }
