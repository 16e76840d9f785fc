-- How many hash blocks were closed, of all levels together.
use Rattle.std.proofs.Common.{◌≡◌, ◌≢◌, ℕ, zero, suc, ◌+◌, ◌<◌, ◌≤◌, List, [], ◌∷◌, length, ⊎_elim, refl, sym, ap, ◌∙◌, subst, arith}
use Rattle.std.specs.Prelude.{Option}
use Rattle.std.proofs.lemmas.Bool.{cases_eq}
use Rattle.verity_digest.specs.Tree.{Hashing}
use Rattle.verity_digest.specs.Shape.{level_len, blocks_of_levels}
use Rattle.verity_digest.proofs.Counts.{blocks_of_levels-first}
use Rattle.verity_geometry.specs.Geometry.{Shape, IsShape, digests_per_block, levels_of, total_of}
use Rattle.verity_geometry.proofs.Shapes.{wide}
use Rattle.verity_tree.specs.Open.{Open}
use Rattle.verity_tree.specs.Climb.{open_at, Comes, Closes}
use Rattle.verity_build.specs.Progress.{closed, Growing, Grown, Settling}
use Rattle.verity_build.proofs.Settles.{Reaches, came_most, index_below, settling_reaches, growing_reaches, grown_reaches, same_index}

-- where no index changes none was closed
pub closed_same : (old new : List Open) → length new ≡ length old →
    ((l : ℕ) → l < length old → (open_at new l).index ≡ (open_at old l).index) → closed new ≡ closed old
closed_same [] [] len same = refl
closed_same [] (b ∷ new) len same = absurd (omega arith)
closed_same (a ∷ old) [] len same = absurd (omega arith)
closed_same (a ∷ old) (b ∷ new) len same =
    let here : b.index ≡ a.index = same 0 (omega arith) in
    let rest = closed_same old new (omega arith) (λ l inside. same (suc l) (omega arith)) in
    omega arith

-- where one index rises by one, one more was closed
pub closed_one : (j : ℕ) (old new : List Open) → length new ≡ length old → j < length old →
    (open_at new j).index ≡ (open_at old j).index + 1
    → ((l : ℕ) → l ≢ j → l < length old → (open_at new l).index ≡ (open_at old l).index) → closed new ≡ closed old + 1
closed_one j [] new len there one same = absurd (omega arith)
closed_one j (a ∷ old) [] len there one same = absurd (omega arith)
closed_one zero (a ∷ old) (b ∷ new) len there one same =
    let here : b.index ≡ a.index + 1 = one in
    let rest = closed_same old new (omega arith) (λ l inside. same (suc l) (λ e. absurd (omega arith)) (omega arith)) in
    omega arith
closed_one (suc j) (a ∷ old) (b ∷ new) len there one same =
    let here : b.index ≡ a.index = same 0 (λ e. absurd (omega arith)) (omega arith) in
    let rest = closed_one j old new (omega arith) (omega arith) one (λ l apart inside. same (suc l) (λ e. apart (omega arith))
    (omega arith)) in
    omega arith

pub closed_none : (opens : List Open) → ((l : ℕ) → l < length opens → (open_at opens l).index ≡ 0) → closed opens ≡ 0
closed_none [] none = refl
closed_none (a ∷ opens) none =
    let here : a.index ≡ 0 = none 0 (omega arith) in
    let rest = closed_none opens (λ l inside. none (suc l) (omega arith)) in
    omega arith

module _ (k n : ℕ) where
  -- the levels from l on closed no more blocks than they have
  closed_most : (l : ℕ) (opens : List Open) → ((m : ℕ) → m < length opens → (open_at opens m).index ≤ level_len k n (l + m)) →
      closed opens ≤ blocks_of_levels k n l (length opens)
  closed_most l [] most = omega arith
  closed_most l (a ∷ opens) most =
      let P : ℕ → Type 0 = λ e. a.index ≤ level_len k n e in
      let here : a.index ≤ level_len k n l = subst P (let e : l + 0 ≡ l = omega arith in e) (most 0 (omega arith)) in
      let rest = closed_most (l + 1) opens (λ m inside.
      let Q : ℕ → Type 0 = λ e. (open_at opens m).index ≤ level_len k n e in
      subst Q (let e : l + suc m ≡ l + 1 + m = omega arith in e) (most (suc m) (omega arith))) in
      let first = blocks_of_levels-first k n l (length opens) in
      omega arith

  -- .. and fewer where one has a block left
  closed_less : (j l : ℕ) (opens : List Open) → j < length opens → (open_at opens j).index < level_len k n (l + j)
      → ((m : ℕ) → m < length opens → (open_at opens m).index ≤ level_len k n (l + m)) →
      closed opens < blocks_of_levels k n l (length opens)
  closed_less j l [] there less most = absurd (omega arith)
  closed_less zero l (a ∷ opens) there less most =
      let P : ℕ → Type 0 = λ e. a.index < level_len k n e in
      let here : a.index < level_len k n l = subst P (let e : l + 0 ≡ l = omega arith in e) less in
      let rest = closed_most (l + 1) opens (λ m inside.
      let Q : ℕ → Type 0 = λ e. (open_at opens m).index ≤ level_len k n e in
      subst Q (let e : l + suc m ≡ l + 1 + m = omega arith in e) (most (suc m) (omega arith))) in
      let first = blocks_of_levels-first k n l (length opens) in
      omega arith
  closed_less (suc j) l (a ∷ opens) there less most =
      let P : ℕ → Type 0 = λ e. a.index ≤ level_len k n e in
      let here : a.index ≤ level_len k n l = subst P (let e : l + 0 ≡ l = omega arith in e) (most 0 (omega arith)) in
      let R : ℕ → Type 0 = λ e. (open_at opens j).index < level_len k n e in
      let rest = closed_less j (l + 1) opens (omega arith) (subst R (let e : l + suc j ≡ l + 1 + j = omega arith in e) less) (λ m inside.
      let Q : ℕ → Type 0 = λ e. (open_at opens m).index ≤ level_len k n e in
      subst Q (let e : l + suc m ≡ l + 1 + m = omega arith in e) (most (suc m) (omega arith))) in
      let first = blocks_of_levels-first k n l (length opens) in
      omega arith

  module _ (all : ℕ) (opens : List Open) (root : Option (List ℕ)) (some : 0 < k) (few : n ≤ all) where
    not_more : Reaches k n opens → (m : ℕ) → m < length opens → (open_at opens m).index ≤ level_len k all (0 + m)
    not_more reaches m inside =
        let P : ℕ → Type 0 = λ e. (open_at opens m).index ≤ level_len k all e in
        subst P (let e : m ≡ 0 + m = omega arith in e) (came_most k n all opens some few reaches (suc m) (omega arith))

-- so at no time more than the tree has, and fewer where a block is about to be closed
module _ (s : Shape) (n : ℕ) (opens : List Open) (root : Option (List ℕ)) (shaped : IsShape s) (levels : length opens ≡ levels_of s)
    (few : n ≤ s.blocks) where
  room_there : 0 < digests_per_block s
  room_there = let w = wide s shaped in omega arith

  all_levels : blocks_of_levels (digests_per_block s) s.blocks 0 (length opens) ≡ total_of s
  all_levels = ap (λ m. blocks_of_levels (digests_per_block s) s.blocks 0 m) levels

  reaches_total : Reaches (digests_per_block s) n opens → closed opens ≤ total_of s
  reaches_total reaches =
      let most = closed_most (digests_per_block s) s.blocks 0 opens (not_more (digests_per_block s) n s.blocks opens root room_there
      few reaches) in
      omega (arith, all_levels)

  pub settling_total : (j : ℕ) → Settling (digests_per_block s) n s.blocks j opens root → closed opens ≤ total_of s
  settling_total j settling = reaches_total (settling_reaches (digests_per_block s) n s.blocks j opens root room_there settling)

  pub settling_before : (j : ℕ) → Settling (digests_per_block s) n s.blocks j opens root → j < length opens → closed opens < total_of s
  settling_before j settling there =
      let k : ℕ = digests_per_block s in
      let P : ℕ → Type 0 = λ e. (open_at opens j).index < level_len k s.blocks e in
      let less = closed_less k s.blocks j 0 opens there (subst P (let e : j ≡ 0 + j = omega arith in
      e) (index_below k n s.blocks j opens root room_there few settling there))
      (not_more k n s.blocks opens root room_there few (settling_reaches k n s.blocks j opens root room_there settling)) in
      omega (arith, all_levels)

  pub growing_total : Growing (digests_per_block s) n opens root → closed opens ≤ total_of s
  growing_total growing = reaches_total (growing_reaches (digests_per_block s) n opens root room_there growing)

  pub grown_total : Grown (digests_per_block s) n opens root → closed opens ≤ total_of s
  grown_total grown = reaches_total (grown_reaches (digests_per_block s) n opens root grown)

-- a block that is closed is one more
pub closes_one : (h : Hashing) (j : ℕ) (old new : List Open) (old_root new_root : Option (List ℕ)) →
    Closes h j old new old_root new_root → j < length old → closed new ≡ closed old + 1
closes_one h j old new old_root new_root closes there =
    closed_one j old new closes.len there (ap (λ o. o.index) closes.here)
    (λ l apart inside. ⊎_elim
    (λ next. ap (λ m. (open_at new m).index) next ∙ ap (λ o. o.index) (closes.above (omega arith))
    ∙ ap (λ m. (open_at old m).index) (sym next))
    (λ other. ap (λ o. o.index) (closes.others l apart other))
    (cases_eq l (suc j)))

-- a data block's digest closes none
pub comes_none : (k n : ℕ) (d : List ℕ) (old new : List Open) (old_root new_root : Option (List ℕ)) → Growing k n old old_root →
    Comes 0 d old new old_root new_root → closed new ≡ closed old
comes_none k n d old new old_root new_root growing comes =
    closed_same old new comes.len (same_index k n d old new old_root new_root growing comes)
