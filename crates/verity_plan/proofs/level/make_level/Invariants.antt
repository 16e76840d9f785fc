use Rattle.std.proofs.Common.{◌≡◌, ℕ, ◌+◌, ◌≤◌, ◌++◌, List, length, map, take}
use Rattle.verity_digest.specs.Hash.{hashing}
use Rattle.verity_store.specs.Stores.{IsOnlyRead}
use Rattle.verity_plan.specs.Seen.{GivesAt, Shows}
use Rattle.verity_pending.specs.Slots.{AreSized}
use Rattle.verity_plan.specs.Level.{Holds, Renews, IsOldOf}
use Rattle.verity_pending.specs.Plan.{numbers_of, places, ArePlanned, made_blocks, made_digests}
use Rattle.verity_plan.proofs.level.make_level.Given as goal

abbrev pub invariant-loop-index : goal.invariant-loop-index
invariant-loop-index g l = record {
  made : (content : List (List ℕ)) → Shows g.H.BlockStore l.hash_store content → (old new : List (List ℕ)) → let h =
      hashing l.initial.hasher.salted (length l.initial.block) in
      length new ≡ l.level.digests → Holds h old l.level.old content →
      Renews l.level.digest_size old new l.children.items
      → (l.plan.items ≡ l.initial.plan.items ++ made_blocks h new l.level.start (take l.index-index l.numbers)) ×
      (l.next.items ≡ made_digests h new (take l.index-index l.numbers));
  numbers : numbers_of l.next.items ≡ take l.index-index l.numbers;
  next_sized : AreSized l.level.digest_size l.next.items;
  places : places l.plan.items ≡ places l.initial.plan.items ++ map (λ i. l.level.start + i) (take l.index-index l.numbers);
  planned : ArePlanned (length l.initial.block) l.initial.plan.items → ArePlanned (length l.initial.block) l.plan.items;
  salted : l.hasher.salted ≡ l.initial.hasher.salted;
  hashed : l.hasher.hashed ≡ l.initial.hasher.hashed + l.index-index;
  unfailed : g.H.BlockStore.failures l.hash_store ≡ g.H.BlockStore.failures l.initial.hash_store;
  reads : g.H.BlockStore.reads l.hash_store ≤ g.H.BlockStore.reads l.initial.hash_store + l.index-index;
  gives : GivesAt (IsOldOf l.level l.numbers) (g.H.BlockStore.given l.initial.hash_store) (g.H.BlockStore.given l.hash_store);
  read_only : IsOnlyRead g.H.BlockStore l.initial.hash_store l.hash_store;
}
