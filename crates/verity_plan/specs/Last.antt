-- The last data block where the count fell.
use Rattle.std.specs.Prelude.{◌≡◌, ℕ, ◌+◌, ◌-◌, ◌/◌, ◌<◌, List, [], ◌∷◌, ◌++◌, length, drop, slice_index_or}
use Rattle.verity_digest.specs.Tree.{Hashing, IsHashing, tree}
use Rattle.verity_digest.specs.Shape.{place}
use Rattle.verity_geometry.specs.Geometry.{digests_per_block}
use Rattle.verity_pending.specs.declared.child.Child.{Child}
use Rattle.verity_plan.specs.declared.tree.Change.{Change}
use Rattle.verity_pending.specs.Draft.{Draft, edits_of}
use Rattle.verity_pending.specs.Touched.{changed_blocks}
use Rattle.verity_pending.specs.Parents.{edited_blocks}
use Rattle.verity_pending.specs.Slots.{AreNamed}
use Rattle.verity_pending.specs.Plan.{AddsChild, numbers_of}
use Rattle.verity_plan.specs.Standing.{BeginsWith}

-- a child of this number is added, whose digest has `size` bytes
abbrev pub AddsLast : ℕ → ℕ → List Child → List Child → Type 0
AddsLast size number old new = AddsChild size old new number

-- with the digest of the committed image's block, where the image's tree stands in the store
abbrev pub NamesLast : Change → List (List ℕ) → List Child → List Child → Type 0
NamesLast c content old new = (h : Hashing) (image : List (List ℕ)) → IsHashing h → h.block_size ≡ c.old.hash_size → h.digest_size
    ≡ c.old.digest_size
    → length image ≡ c.old.blocks → BeginsWith (drop c.first content) (tree h image)
    → new ≡ old ++ record { number = c.new.blocks - 1; digest = h.digest (slice_index_or image (c.new.blocks - 1) []) } ∷ []

-- the number is that of the block of level 0 of the old tree above the last block of the new count, which fell
abbrev pub IsAboveLast : Change → ℕ → Type 0
IsAboveLast c n = (c.new.blocks < c.old.blocks)
    × (n ≡ c.first + place (digests_per_block c.old) c.old.blocks 0 ((c.new.blocks - 1) / digests_per_block c.old))

-- these are the leaves of the changed blocks
abbrev pub AreChanged : Draft → List Child → Type 0
AreChanged d leaves = (image : List (List ℕ)) → numbers_of leaves ≡ changed_blocks (edits_of image d)

-- these are the leaves of the changed blocks and, where the count fell, of the last one
abbrev pub AreEdited : Draft → List Child → Type 0
AreEdited d leaves = (image : List (List ℕ)) → length image ≡ d.committed → numbers_of leaves ≡ edited_blocks (edits_of image d)

-- where the tree of the committed image stands in a store, and leaves had the digests of the working image's blocks, they still have
abbrev pub NamesEdited : Change → List (List ℕ) → Draft → List Child → List Child → Type 0
NamesEdited c content d old new = (h : Hashing) (image : List (List ℕ)) → IsHashing h → h.block_size ≡ c.old.hash_size → h.digest_size
    ≡ c.old.digest_size
    → length image ≡ c.old.blocks → BeginsWith (drop c.first content) (tree h image)
    → AreNamed (λ n. h.digest (slice_index_or (edits_of image d).working n [])) old
    → AreNamed (λ n. h.digest (slice_index_or (edits_of image d).working n [])) new
