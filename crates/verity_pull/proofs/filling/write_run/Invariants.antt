use Rattle.std.proofs.Common.{◌≡◌, ℕ, ◌+◌, ◌<◌, [], true, get_or}
use Rattle.std.specs.Fork.{slice_chunk}
use Rattle.verity_store.specs.Moves.{ChangesWithin}
use Rattle.verity_store.specs.Stores.{IsOnlyWritten}
use Rattle.verity_pull.proofs.filling.write_run.Given as goal

abbrev pub invariant-each : goal.invariant-each
invariant-each g l =
    let L = g.L.BlockStore in
    record {
      written : L.tells l.fn.local ≡ true → (k : ℕ) → k < l.j → get_or (L.content l.local) (l.n + k) [] ≡ slice_chunk l.run l.size k;
      writes : L.changes l.local ≡ L.changes l.fn.local + l.j;
      others : ChangesWithin l.n l.j (L.content l.fn.local) (L.content l.local);
      keeps : IsOnlyWritten L l.fn.local l.local;
    }
