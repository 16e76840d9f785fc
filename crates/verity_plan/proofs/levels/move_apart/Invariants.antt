use Rattle.std.proofs.Common.{◌≡◌, ℕ, ◌+◌, ◌<◌, ◌≤◌, true, [], length, get_or}
use Rattle.verity_geometry.specs.Geometry.{levels_of, len_of, start_of}
use Rattle.verity_store.specs.Stores.{StaysStore}
use Rattle.verity_plan.specs.Levels.{KeepsFront, moved_below}
use Rattle.verity_plan.proofs.levels.move_apart.Given as goal

abbrev pub invariant-loop-level : goal.invariant-loop-level
invariant-loop-level g l = record {
  moved : g.H.BlockStore.tells l.initial.hash_store ≡ true → (m i : ℕ) → m < l.level → m < levels_of l.old → i < len_of l.old m
      → get_or (g.H.BlockStore.content l.hash_store) (l.first + start_of l.new m + i) [] ≡ get_or
      (g.H.BlockStore.content l.initial.hash_store) (l.first + start_of l.old m + i) [];
  rest : (m i : ℕ) → l.level ≤ m → m < levels_of l.old → i < len_of l.old m
      → get_or (g.H.BlockStore.content l.hash_store) (l.first + start_of l.old m + i) [] ≡ get_or
      (g.H.BlockStore.content l.initial.hash_store) (l.first + start_of l.old m + i) [];
  front : KeepsFront l.first (g.H.BlockStore.content l.initial.hash_store) (g.H.BlockStore.content l.hash_store);
  len : length (g.H.BlockStore.content l.hash_store) ≡ length (g.H.BlockStore.content l.initial.hash_store);
  moved_reads : g.H.BlockStore.reads l.hash_store ≤ g.H.BlockStore.reads l.initial.hash_store + moved_below l.old l.new l.level;
  unfailed : g.H.BlockStore.failures l.hash_store ≡ g.H.BlockStore.failures l.initial.hash_store;
  store : StaysStore g.H.BlockStore l.initial.hash_store l.hash_store;
}
