-- The rows of an image and its hash tree, and the levels of its rounds.
-- For the layers above: `length-row`, `slot-row` (the digest that a block holds), `root-row`; `length-levels`, `level-row`
-- and `level_block-row` (a level is a row), `length-level_of`, `length-tree`, `tree-place` (where the blocks of the tree
-- stand), `tree_by_places` (what is the tree), `digests_at-row`, `length-digests_at-row`, `block_at-run` (a hash block by the
-- digests that it holds).
use Rattle.std.proofs.Common.{◌≡◌, ℕ, zero, suc, ◌+◌, ◌-◌, ◌/◌, ◌%◌, ◌<◌, ◌≤◌, List, [], length, map, drop, get_or, ⊎_elim, refl}
use Rattle.std.proofs.Common.{sym, ap, ◌∙◌, subst, arith}
use Rattle.std.specs.Int.{div_ceil}
use Rattle.std.specs.Fork.{slice_chunk}
use Rattle.std.proofs.lemmas.Bool.{cases_lt}
use Rattle.std.proofs.lemmas.List.{length-map, get_or-map, ext_get_or}
use Rattle.verity_digest.specs.Tree.{Hashing, per_block, pack, hash_block, digests_at, slot, root, tree, IsHashing, IsLevelCount}
use Rattle.verity_digest.specs.Shape.{level_count, row_len, level_len, blocks_of_levels, level_start, place, total}
use Rattle.verity_digest.specs.Rows.{row, block_at, tree_levels, level_block}
use Rattle.verity_digest.proofs.Packing.{length-pack, get_or-pack}
use Rattle.verity_digest.proofs.Rounds.{rounds-few}
use Rattle.verity_digest.proofs.Levels.{digests_at-suc, get_or-rounds, length-rounds, last_digests-rounds}
use Rattle.verity_digest.proofs.Slots.{AreSized-digests, slot-pack}
use Rattle.verity_digest.proofs.Places.{joined_from_last, get_or-joined_from_last, length-joined_from_last, sum_by-drop}
use Rattle.verity_digest.proofs.Numbers.{level_count_is}
use Rattle.verity_digest.proofs.Counts.{row_len-zero, row_len-suc, row_len_top, placed}

pub length-row : (h : Hashing) (image : List (List ℕ)) (r : ℕ) → 0 < per_block h →
    length (row h image r) ≡ row_len (per_block h) (length image) r
length-row h image zero some = sym (row_len-zero (per_block h) (length image))
length-row h image (suc r) some =
    length-pack h (map h.digest (row h image r))
    ∙ ap (λ n. div_ceil n (per_block h)) (length-map (row h image r) h.digest ∙ length-row h image r some)
    ∙ sym (row_len-suc (per_block h) (length image) r some)

-- a level holds the digests of the row below
pub digests_at-row : (h : Hashing) (image : List (List ℕ)) (l : ℕ) → digests_at h l (map h.digest image) ≡ map h.digest (row h image l)
unfolding digests_at
digests_at-row h image zero = refl
digests_at-row h image (suc l) = digests_at-suc h l (map h.digest image) ∙ ap (λ ds. map h.digest (pack h ds)) (digests_at-row h image l)

pub length-digests_at-row : (h : Hashing) (image : List (List ℕ)) (l : ℕ) → 0 < per_block h
    → length (digests_at h l (map h.digest image)) ≡ row_len (per_block h) (length image) l
length-digests_at-row h image l some = ap length (digests_at-row h image l) ∙ length-map (row h image l) h.digest
    ∙ length-row h image l some

-- block i of the next row holds the digests from block i * k of this row on
pub block_at-run : (h : Hashing) (image : List (List ℕ)) (r i : ℕ) → 0 < per_block h → i < row_len (per_block h) (length image) (suc r)
    → block_at h image (suc r) i ≡ hash_block h (slice_chunk (map h.digest (row h image r)) (per_block h) i)
block_at-run h image r i some below =
    let long : length (pack h (map h.digest (row h image r))) ≡ row_len (per_block h) (length image) (suc r) =
    length-row h image (suc r) some in
    get_or-pack h (map h.digest (row h image r)) i (omega (arith, length-pack h (map h.digest (row h image r))))

-- the digest of block i of a row stands in block i / k of the next row, slot i % k
pub slot-row : (h : Hashing) (image : List (List ℕ)) (r i : ℕ) → IsHashing h → i < length (row h image r)
    → slot h (block_at h image (suc r) (i / per_block h)) (i % per_block h) ≡ h.digest (block_at h image r i)
slot-row h image r i ok below =
    slot-pack h (map h.digest (row h image r)) i (AreSized-digests h (row h image r) ok) (omega (arith, ok.branching)) (rw length-map below)
    ∙ get_or-map h.digest (row h image r) i [] [] below

none_counted : (h : Hashing) (image : List (List ℕ)) → 2 ≤ per_block h → length image ≡ 0 → length (tree_levels h image) ≡ 0
none_counted h image two none = ap length (rounds-few h (map h.digest image) (rw length-map (omega arith)))

-- as many levels as it takes
pub IsLevelCount-levels : (h : Hashing) (image : List (List ℕ)) → 2 ≤ per_block h →
    IsLevelCount (per_block h) (length image) (length (tree_levels h image))
IsLevelCount-levels h image two =
    let P : ℕ → Type 0 = λ n. IsLevelCount (per_block h) n (length (tree_levels h image)) in
    ⊎_elim
    (λ some. subst P (length-map image h.digest) (length-rounds h (map h.digest image) two (rw length-map some)))
    (λ none.
    let zeros : length image ≡ 0 = omega arith in
    let empty : length (tree_levels h image) ≡ 0 = none_counted h image two zeros in
    record { enough = omega arith; least = λ l below. absurd (omega arith) })
    (cases_lt 0 (length image))

pub length-levels : (h : Hashing) (image : List (List ℕ)) → 2 ≤ per_block h →
    length (tree_levels h image) ≡ level_count (per_block h) (length image)
length-levels h image two = level_count_is (per_block h) (length image) (length (tree_levels h image)) two (IsLevelCount-levels h image two)

-- level l is row l + 1
pub level-row : (h : Hashing) (image : List (List ℕ)) (l : ℕ) → 2 ≤ per_block h → l < level_count (per_block h) (length image)
    → get_or (tree_levels h image) l [] ≡ row h image (suc l)
level-row h image l two below =
    let count = length-levels h image two in
    get_or-rounds h l (map h.digest image) two (omega arith) ∙ ap (λ ds. pack h ds) (digests_at-row h image l)

pub level_block-row : (h : Hashing) (image : List (List ℕ)) (l i : ℕ) → 2 ≤ per_block h → l < level_count (per_block h) (length image)
    → level_block h image l i ≡ block_at h image (suc l) i
level_block-row h image l i two below = ap (λ level. get_or level i []) (level-row h image l two below)

pub length-level_of : (h : Hashing) (image : List (List ℕ)) (l : ℕ) → 2 ≤ per_block h → l < level_count (per_block h) (length image)
    → length (get_or (tree_levels h image) l []) ≡ level_len (per_block h) (length image) l
length-level_of h image l two below = ap length (level-row h image l two below) ∙ length-row h image (suc l) (omega arith)

part_len : (h : Hashing) (image : List (List ℕ)) (l : ℕ) → 2 ≤ per_block h → l ≤ level_count (per_block h) (length image)
    → length (joined_from_last (drop l (tree_levels h image))) ≡ blocks_of_levels (per_block h) (length image) l
    (level_count (per_block h) (length image) - l)
unfolding blocks_of_levels
part_len h image l two within =
    let k : ℕ = per_block h in
    let n : ℕ = length image in
    let count = length-levels h image two in
    length-joined_from_last (drop l (tree_levels h image))
    ∙ sum_by-drop (λ level. length level) (level_len k n) (tree_levels h image) [] (level_count k n - l) l (omega arith)
    (λ i below. length-level_of h image i two (omega arith))

pub length-tree : (h : Hashing) (image : List (List ℕ)) → 2 ≤ per_block h → length (tree h image) ≡ total (per_block h) (length image)
length-tree h image two =
    let all : level_count (per_block h) (length image) - 0 ≡ level_count (per_block h) (length image) = omega arith in
    part_len h image 0 two (omega arith) ∙ ap (λ m. blocks_of_levels (per_block h) (length image) 0 m) all

-- where block i of level l stands in the tree
pub tree-place : (h : Hashing) (image : List (List ℕ)) (l i : ℕ) → 2 ≤ per_block h → l < level_count (per_block h) (length image)
    → i < level_len (per_block h) (length image) l → get_or (tree h image) (place (per_block h) (length image) l i) [] ≡ level_block
    h image l i
tree-place h image l i two below inside =
    let levels : List (List (List ℕ)) = tree_levels h image in
    let count = length-levels h image two in
    let long = length-level_of h image l two below in
    let at : suc l ≡ l + 1 = omega arith in
    let start : level_start (per_block h) (length image) l ≡ length (joined_from_last (drop (l + 1) levels)) =
    sym (part_len h image (suc l) two below) ∙ ap (λ m. length (joined_from_last (drop m levels))) at in
    ap (λ s. get_or (tree h image) (s + i) []) start
    ∙ get_or-joined_from_last levels l i [] (omega arith) (omega arith)

-- a list with each block of the tree in its place is the tree
pub tree_by_places : (h : Hashing) (image blocks : List (List ℕ)) → 2 ≤ per_block h → length blocks ≡ total (per_block h) (length image)
    → ((l i : ℕ) → l < level_count (per_block h) (length image) → i < level_len (per_block h) (length image) l
    → get_or blocks (place (per_block h) (length image) l i) [] ≡ level_block h image l i)
    → blocks ≡ tree h image
tree_by_places h image blocks two long each =
    ext_get_or [] blocks (tree h image) (long ∙ sym (length-tree h image two))
    (λ p below.
    let here = placed (per_block h) (length image) p (omega arith) in
    ap (λ q. get_or blocks q []) (sym here.at)
    ∙ each here.level here.index here.there here.within
    ∙ sym (tree-place h image here.level here.index two here.there here.within)
    ∙ ap (λ q. get_or (tree h image) q []) here.at)

-- the root is the digest of the one block of the top row
pub root-row : (h : Hashing) (image : List (List ℕ)) → 2 ≤ per_block h → 0 < length image
    → root h image ≡ h.digest (block_at h image (level_count (per_block h) (length image)) 0)
root-row h image two some =
    let L : ℕ = level_count (per_block h) (length image) in
    let one : length (row h image L) ≡ 1 = length-row h image L (omega arith) ∙ row_len_top (per_block h) (length image) two some in
    ap (λ ds. get_or ds 0 []) (last_digests-rounds h (map h.digest image) two)
    ∙ ap (λ m. get_or (digests_at h m (map h.digest image)) 0 []) (length-levels h image two)
    ∙ ap (λ ds. get_or ds 0 []) (digests_at-row h image L)
    ∙ get_or-map h.digest (row h image L) 0 [] [] (omega arith)
