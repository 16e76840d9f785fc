use Rattle.std.proofs.Common.{◌≡◌, true, length}
use Rattle.verity_store.specs.Stores.{IsOnlyWritten}
use Rattle.verity_pending.specs.Applied.{overwritten, FitStore}
use Rattle.verity_pending.proofs.writes.write_pending.Given as goal

abbrev pub invariant-loop-n : goal.invariant-loop-n
invariant-loop-n g l = record {
  fits : FitStore (length (g.D.BlockStore.content l.initial.store)) (g.D.BlockStore.size l.initial.store) l.n-iterator;
  written : g.D.BlockStore.tells l.initial.store ≡ true →
      overwritten l.n-iterator (g.D.BlockStore.content l.store) ≡ overwritten l.written.entries (g.D.BlockStore.content l.initial.store);
  len : length (g.D.BlockStore.content l.store) ≡ length (g.D.BlockStore.content l.initial.store);
  unfailed : g.D.BlockStore.failures l.store ≡ g.D.BlockStore.failures l.initial.store;
  written_only : IsOnlyWritten g.D.BlockStore l.initial.store l.store;
}
