use Rattle.std.proofs.Common.{◌≡◌, ℕ, ◌-◌, ◌<◌, ◌≤◌, true, [], get_or}
use Rattle.verity_store.specs.Stores.{IsOnlyWritten}
use Rattle.verity_store.specs.Moves.{ChangesWithin}
use Rattle.verity_pending.proofs.writes.write_zeros.Given as goal

abbrev pub invariant-loop-n : goal.invariant-loop-n
invariant-loop-n g l = record {
  zeroed : g.D.BlockStore.tells l.initial.store ≡ true → (q : ℕ) → l.from ≤ q → q < l.n →
      get_or (g.D.BlockStore.content l.store) q [] ≡ l.zero;
  others : ChangesWithin l.from (l.n - l.from) (g.D.BlockStore.content l.initial.store) (g.D.BlockStore.content l.store);
  unfailed : g.D.BlockStore.failures l.store ≡ g.D.BlockStore.failures l.initial.store;
  written_only : IsOnlyWritten g.D.BlockStore l.initial.store l.store;
}
