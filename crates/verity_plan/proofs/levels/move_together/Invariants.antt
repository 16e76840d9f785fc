use Rattle.std.proofs.Common.{◌≡◌, ℕ, ◌+◌, ◌<◌, ◌≤◌, true, [], length, get_or}
use Rattle.verity_geometry.specs.Geometry.{levels_of, len_of, start_of}
use Rattle.verity_store.specs.Stores.{StaysStore}
use Rattle.verity_plan.specs.Levels.{KeepsFront, moved_below}
use Rattle.verity_plan.proofs.levels.move_together.Given as goal

abbrev pub invariant-loop-left : goal.invariant-loop-left
invariant-loop-left g l = record {
  most : l.left ≤ levels_of l.new;
  moved : g.H.BlockStore.tells l.initial.hash_store ≡ true → (m i : ℕ) → l.left ≤ m → m < levels_of l.new → i < len_of l.new m
      → get_or (g.H.BlockStore.content l.hash_store) (l.first + start_of l.new m + i) [] ≡ get_or
      (g.H.BlockStore.content l.initial.hash_store) (l.first + start_of l.old m + i) [];
  rest : (m i : ℕ) → m < l.left → m < levels_of l.new → i < len_of l.new m
      → get_or (g.H.BlockStore.content l.hash_store) (l.first + start_of l.old m + i) [] ≡ get_or
      (g.H.BlockStore.content l.initial.hash_store) (l.first + start_of l.old m + i) [];
  front : KeepsFront l.first (g.H.BlockStore.content l.initial.hash_store) (g.H.BlockStore.content l.hash_store);
  stays : l.new ≡ l.old → g.H.BlockStore.reads l.hash_store ≡ g.H.BlockStore.reads l.initial.hash_store;
  len : length (g.H.BlockStore.content l.hash_store) ≡ length (g.H.BlockStore.content l.initial.hash_store);
  moved_reads : g.H.BlockStore.reads l.hash_store + moved_below l.old l.new l.left ≤ g.H.BlockStore.reads l.initial.hash_store
      + moved_below l.old l.new (levels_of l.new);
  unfailed : g.H.BlockStore.failures l.hash_store ≡ g.H.BlockStore.failures l.initial.hash_store;
  store : StaysStore g.H.BlockStore l.initial.hash_store l.hash_store;
}

abbrev pub decreases-loop-left : goal.decreases-loop-left
decreases-loop-left g l = l.left
