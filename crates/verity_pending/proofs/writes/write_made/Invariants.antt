use Rattle.std.proofs.Common.{◌≡◌, true, length}
use Rattle.verity_store.specs.Stores.{IsOnlyWritten}
use Rattle.verity_pending.specs.Written.{AreWritten, OnlyPlanned}
use Rattle.verity_pending.proofs.writes.write_made.Given as goal

abbrev pub invariant-loop-made : goal.invariant-loop-made
invariant-loop-made g l = record {
  written : g.H.BlockStore.tells l.initial.hash_store ≡ true → AreWritten l.made-index l.plan (g.H.BlockStore.content l.hash_store);
  others : OnlyPlanned l.made-index l.plan (g.H.BlockStore.content l.initial.hash_store) (g.H.BlockStore.content l.hash_store);
  len : length (g.H.BlockStore.content l.hash_store) ≡ length (g.H.BlockStore.content l.initial.hash_store);
  unfailed : g.H.BlockStore.failures l.hash_store ≡ g.H.BlockStore.failures l.initial.hash_store;
  written_only : IsOnlyWritten g.H.BlockStore l.initial.hash_store l.hash_store;
}
