use Rattle.std.proofs.Common.{◌≡◌, ℕ, ◌+◌, ◌≤◌, List, [], length, get_or}
use Rattle.verity_digest.specs.Hash.{hashing, size_of}
use Rattle.verity_digest.specs.Shape.{row_len}
use Rattle.verity_geometry.specs.Geometry.{digests_per_block}
use Rattle.verity_store.specs.Stores.{IsOnlyRead}
use Rattle.verity_pending.specs.Edits.{Edits}
use Rattle.verity_pending.specs.Digests.{digests_of}
use Rattle.verity_plan.specs.Seen.{GivesAt, Shows}
use Rattle.verity_pending.specs.Slots.{AreNamed, AreSized, AreWithin}
use Rattle.verity_pending.specs.Plan.{numbers_of, places, ArePlanned}
use Rattle.verity_plan.specs.Making.{renewed, touched_below, touched_places, touched_blocks, IsEdited, IsTouchedPlace, StandsFor}
use Rattle.verity_plan.proofs.tree.make_tree.Given as goal

abbrev pub invariant-loop-level : goal.invariant-loop-level
invariant-loop-level g l = record {
  within : AreWithin (row_len (digests_per_block l.change.new) l.change.new.blocks l.level) l.children.items;
  sized : AreSized (size_of l.initial.hasher.salted.algorithm) l.children.items;
  numbers : (e : Edits) → IsEdited e l.change.old.blocks l.change.new.blocks l.fn.leaves.items →
      numbers_of l.children.items ≡ renewed (digests_per_block l.change.new) e l.level;
  places : (e : Edits) → IsEdited e l.change.old.blocks l.change.new.blocks l.fn.leaves.items
      → places l.plan.items ≡ touched_places (digests_per_block l.change.new) e l.change.first l.change.new.blocks l.level;
  made : (content : List (List ℕ)) → Shows g.H.BlockStore l.hash_store content → (e : Edits) →
      IsEdited e l.change.old.blocks l.change.new.blocks l.fn.leaves.items
      → let h = hashing l.initial.hasher.salted (length l.initial.block) in
      StandsFor h e l.change.first content l.change.root l.fn.leaves.items
      → (l.plan.items ≡ touched_blocks h e l.change.first l.change.new.blocks l.level) ×
      AreNamed (λ j. get_or (digests_of h e.working l.level) j []) l.children.items;
  planned : ArePlanned (length l.initial.block) l.plan.items;
  salted : l.hasher.salted ≡ l.initial.hasher.salted;
  hashed : (e : Edits) → IsEdited e l.change.old.blocks l.change.new.blocks l.fn.leaves.items
      → l.hasher.hashed ≡ l.initial.hasher.hashed + touched_below (digests_per_block l.change.new) e l.level;
  unfailed : g.H.BlockStore.failures l.hash_store ≡ g.H.BlockStore.failures l.initial.hash_store;
  reads : (e : Edits) → IsEdited e l.change.old.blocks l.change.new.blocks l.fn.leaves.items
      → g.H.BlockStore.reads l.hash_store ≤ g.H.BlockStore.reads l.initial.hash_store + touched_below
      (digests_per_block l.change.new) e l.level;
  gives : (e : Edits) → IsEdited e l.change.old.blocks l.change.new.blocks l.fn.leaves.items
      → GivesAt (IsTouchedPlace l.change e) (g.H.BlockStore.given l.initial.hash_store) (g.H.BlockStore.given l.hash_store);
  read_only : IsOnlyRead g.H.BlockStore l.initial.hash_store l.hash_store;
}
