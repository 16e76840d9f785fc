-- Behind the last data block: the root is there, and a store with each closed block in its place holds
-- the tree.
use Rattle.std.proofs.Common.{◌≡◌, ℕ, suc, ◌+◌, ◌-◌, ◌/◌, ◌<◌, ◌≤◌, min, List, [], ◌∷◌, ◌++◌, length, take, drop, replicate}
use Rattle.std.proofs.Common.{get_or, set, ⊎_elim, sym, ap, ◌∙◌, arith}
use Rattle.std.specs.Prelude.{Option, None, Some}
use Rattle.std.proofs.lemmas.Bool.{cases_lt}
use Rattle.std.proofs.lemmas.List.{ext_get_or, get_or-drop, get_or-take, get_or_append_left, get_or-append-add, length-append}
use Rattle.std.proofs.lemmas.List.{length-drop, length-take, length-replicate, get_or-replicate, take-append-drop, drop_more}
use Rattle.std.proofs.lemmas.List.{get_or-set_same, get_or-set_other, length-set}
use Rattle.verity_digest.specs.Hash.{Salted, size_of, hashing}
use Rattle.verity_digest.specs.Tree.{Hashing, per_block, tree, root}
use Rattle.verity_digest.specs.Rows.{block_at}
use Rattle.verity_digest.specs.Shape.{row_len, level_count}
use Rattle.verity_digest.proofs.Counts.{row_len_top}
use Rattle.verity_digest.proofs.Rows.{root-row}
use Rattle.verity_profile.specs.Profile.{zero_block}
use Rattle.verity_geometry.specs.Geometry.{Shape, IsShape, IsOfShape, digests_per_block, levels_of, len_of, place_of, total_of}
use Rattle.verity_geometry.proofs.OfShape.{IsOfShape-hashing, tree-shape_place, tree_by_shape_places}
use Rattle.verity_geometry.proofs.Shapes.{wide, some}
use Rattle.verity_store.specs.Blocks.{resized}
use Rattle.verity_tree.specs.Open.{Open}
use Rattle.verity_tree.specs.Climb.{open_at}
use Rattle.verity_build.specs.Progress.{came, Grown, IsRight}
use Rattle.verity_build.specs.Device.{AreStored}
use Rattle.verity_build.proofs.Settles.{grown_all}

module _ (s : Shape) (opens : List Open) (known : Option (List ℕ)) (shaped : IsShape s) (levels : length opens ≡ levels_of s)
    (grown : Grown (digests_per_block s) s.blocks opens known) where
  finish_some : 0 < digests_per_block s
  finish_some = let w = wide s shaped in omega arith

  -- every level has closed all its blocks
  pub all_closed : (l : ℕ) → l < levels_of s → (open_at opens l).index ≡ len_of s l
  all_closed l there = grown_all (digests_per_block s) s.blocks opens known finish_some grown (suc l) (omega arith)

  -- the root is known
  pub root_known : known ≡ None → ⊥
  root_known none =
      let w = wide s shaped in
      let more = some s shaped in
      let top : came s.blocks opens (length opens) ≡ 1 =
      grown_all (digests_per_block s) s.blocks opens known finish_some grown (length opens) (omega arith)
      ∙ ap (λ l. row_len (digests_per_block s) s.blocks l) levels
      ∙ row_len_top (digests_per_block s) s.blocks (omega arith) more in
      let nothing = grown.rooted none in
      absurd (omega arith)

  module _ (salted : Salted) (image : List (List ℕ)) (sized : size_of salted.algorithm ≡ s.digest_size)
      (count : length image ≡ s.blocks) where
    finish_of : IsOfShape s (hashing salted s.hash_size) image
    finish_of = IsOfShape-hashing s salted image shaped sized count

    -- .. and is the image's
    pub root_right : (digest : List ℕ) → IsRight (hashing salted s.hash_size) image opens known → known ≡ Some digest →
        digest ≡ root (hashing salted s.hash_size) image
    root_right digest right is =
        let h : Hashing = hashing salted s.hash_size in
        let width : per_block h ≡ digests_per_block s = ap (λ d. s.hash_size / d) sized in
        let w = wide s shaped in
        let more = some s shaped in
        let top : length opens ≡ level_count (per_block h) (length image) = levels ∙ sym (λ i. level_count (width i) (count i)) in
        right.rooted digest is ∙ ap (λ l. h.digest (block_at h image l 0)) top ∙ sym (root-row h image (omega arith) (omega arith))

    -- a store whose blocks from `start` on are as many as the tree's, with each closed block in its place
    pub holds_tree : (start : ℕ) (content : List (List ℕ)) →
        AreStored s start (tree (hashing salted s.hash_size) image) opens content → length content ≡ start + total_of s
        → drop start content ≡ tree (hashing salted s.hash_size) image
    holds_tree start content stored len =
        let h : Hashing = hashing salted s.hash_size in
        tree_by_shape_places s h image (drop start content) finish_of (length-drop start content
        ∙ (let e : length content - start ≡ total_of s = omega arith in e))
        (λ l i there inside.
        get_or-drop start content (place_of s l i) []
        ∙ stored l i (omega arith) (let closed = all_closed l there in omega arith)
        ∙ tree-shape_place s h image l i finish_of there inside)

-- a front of `count` blocks: the old ones, and zero blocks behind them
pub length-resized : (size count : ℕ) (blocks : List (List ℕ)) → length (resized size count blocks) ≡ count
length-resized size count blocks =
    let some : length (take count blocks ++ replicate (count - length blocks) (zero_block size)) ≡ count =
    simp (length-append, length-take, length-replicate) (omega arith) in
    some

pub get_or-resized_old : (size count : ℕ) (blocks : List (List ℕ)) (q : ℕ) → q < count → q < length blocks →
    get_or (resized size count blocks) q [] ≡ get_or blocks q []
get_or-resized_old size count blocks q below inside =
    let there : q < length (take count blocks) = rw length-take (omega arith) in
    get_or_append_left (take count blocks) (replicate (count - length blocks) (zero_block size)) [] q there
    ∙ get_or-take count blocks q [] below

pub get_or-resized_new : (size count : ℕ) (blocks : List (List ℕ)) (q : ℕ) → q < count → length blocks ≤ q →
    get_or (resized size count blocks) q [] ≡ zero_block size
get_or-resized_new size count blocks q below behind =
    let all : length (take count blocks) ≡ length blocks = length-take count blocks
    ∙ (let e : min count (length blocks) ≡ length blocks = omega arith in e) in
    let at : q ≡ length (take count blocks) + (q - length blocks) = omega arith in
    ap (λ i. get_or (resized size count blocks) i []) at
    ∙ get_or-append-add (take count blocks) (replicate (count - length blocks) (zero_block size)) (q - length blocks) []
    ∙ get_or-replicate (count - length blocks) (q - length blocks) (zero_block size) [] (omega arith)

-- two sizes agree on what both have
pub resized_agree : (size a b : ℕ) (blocks : List (List ℕ)) (q : ℕ) → q < a → q < b →
    get_or (resized size a blocks) q [] ≡ get_or (resized size b blocks) q []
resized_agree size a b blocks q p r =
    ⊎_elim
    (λ inside. get_or-resized_old size a blocks q p inside ∙ sym (get_or-resized_old size b blocks q r inside))
    (λ behind. get_or-resized_new size a blocks q p behind ∙ sym (get_or-resized_new size b blocks q r behind))
    (cases_lt q (length blocks))

-- a content in three parts
pub in_parts : (n : ℕ) (front content : List (List ℕ)) → n < length content → length front ≡ n →
    ((q : ℕ) → q < n → get_or content q [] ≡ get_or front q [])
    → content ≡ front ++ (get_or content n [] ∷ drop (n + 1) content)
in_parts n front content inside len same =
    let short : length (take n content) ≡ n = rw length-take (omega arith) in
    sym (take-append-drop n content)
    ∙ ap (λ xs. xs ++ drop n content) (ext_get_or [] (take n content) front (short ∙ sym len)
    (λ q below. get_or-take n content q [] (omega arith) ∙ same q (omega arith)))
    ∙ ap (λ xs. front ++ xs) (drop_more content n [] inside)

-- the hash device: the front, the superblock's block and the tree
pub device_is : (s : Shape) (start : ℕ) (blocks old mid new : List (List ℕ)) (superblock : List ℕ) → 1 ≤ start →
    length mid ≡ start + total_of s
    → ((q : ℕ) → q < start → get_or mid q [] ≡ get_or (resized s.hash_size (start + total_of s) old) q [])
    → new ≡ set mid (start - 1) superblock → drop start new ≡ blocks → new ≡ resized s.hash_size (start - 1) old ++ (superblock ∷ blocks)
device_is s start blocks old mid new superblock some len front is tree_there =
    let n : ℕ = start - 1 in
    let behind : n + 1 ≡ start = omega arith in
    let long : length new ≡ length mid = ap length is ∙ length-set mid n superblock in
    let here : get_or new n [] ≡ superblock = ap (λ c. get_or c n []) is ∙ get_or-set_same mid n superblock [] (omega arith) in
    in_parts n (resized s.hash_size n old) new (omega arith) (length-resized s.hash_size n old)
    (λ q below.
    ap (λ c. get_or c q []) is
    ∙ get_or-set_other mid n q superblock [] (λ e. absurd (omega arith))
    ∙ front q (omega arith)
    ∙ resized_agree s.hash_size (start + total_of s) n old q (omega arith) below)
    ∙ ap (λ b. resized s.hash_size n old ++ (b ∷ drop (n + 1) new)) here
    ∙ ap (λ m. resized s.hash_size n old ++ (superblock ∷ drop m new)) behind
    ∙ ap (λ bs. resized s.hash_size n old ++ (superblock ∷ bs)) tree_there

-- a write in front of the tree leaves its blocks
pub stored_behind : (s : Shape) (start : ℕ) (blocks : List (List ℕ)) (opens : List Open) (mid new : List (List ℕ))
    (superblock : List ℕ) → 1 ≤ start → new ≡ set mid (start - 1) superblock
    → AreStored s start blocks opens mid → AreStored s start blocks opens new
stored_behind s start blocks opens mid new superblock some is stored l i there below =
    ap (λ c. get_or c (start + place_of s l i) []) is
    ∙ get_or-set_other mid (start - 1) (start + place_of s l i) superblock [] (λ e. absurd (omega arith))
    ∙ stored l i there below
