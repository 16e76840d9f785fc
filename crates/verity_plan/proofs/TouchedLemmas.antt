-- The blocks of the old tree that lie above edited blocks, which are those that a plan reads.
use Rattle.std.proofs.Common.{◌≡◌, ℕ, suc, ◌+◌, ◌-◌, ◌/◌, ◌<◌, true, ◌&&◌, eqb}
use Rattle.std.proofs.Common.{List, length, Contains, ⊎_elim, refl, sym, ap, ◌∙◌, subst, arith}
use Rattle.std.specs.List.{list_any}
use Rattle.std.specs.Cmp.{nat_eq_equiv}
use Rattle.std.proofs.lemmas.Bool.{cases_lt, eqb-true, eq-eqb, lt-ltb, or_right, and_from}
use Rattle.std.proofs.lemmas.Map.Views.{list_any-from_Contains, Contains-from_any}
use Rattle.verity_digest.specs.Shape.{level_count, level_len, place, above}
use Rattle.verity_digest.proofs.Growth.{above_within, above-zero, above-suc}
use Rattle.verity_geometry.specs.Geometry.{digests_per_block}
use Rattle.verity_geometry.proofs.Shapes.{branching, some}
use Rattle.verity_pending.specs.Edits.{Edits}
use Rattle.verity_pending.specs.Touched.{changed_blocks, has_fallen, is_touched, touched}
use Rattle.verity_plan.specs.Level.{IsOldOf}
use Rattle.verity_plan.specs.Making.{old_level, level_of, IsChange, IsTouchedPlace}
use Rattle.verity_plan.specs.Last.{IsAboveLast}
use Rattle.verity_plan.specs.declared.tree.Change.{Change}
use Rattle.verity_plan.specs.declared.level.OldLevel.{OldLevel}
use Rattle.verity_pending.proofs.ParentLemmas.{Has, any_has, has_any, in_filter, touched_above, above_touched}
use Rattle.verity_plan.proofs.MakingLemmas.{old-there, old-top, old-above}
use Rattle.verity_plan.proofs.LastLemmas.{level_some}

-- two ways to say that a number is in a list
pub contains_has : (xs : List ℕ) (n : ℕ) → Contains xs n → Has xs n
contains_has xs n has =
    let r = any_has (eqb n) xs (list_any-from_Contains nat_eq_equiv n xs has) in
    subst (Has xs) (sym (eqb-true n r.0 r.2)) r.1

pub has_contains : (xs : List ℕ) (n : ℕ) → Has xs n → Contains xs n
has_contains xs n has = Contains-from_any (λ x y e. eqb-true x y e) n xs (has_any (eqb n) xs n has (eq-eqb n n refl))

-- the old width is the new one
pub same_width : (c : Change) (blocks size digest : ℕ) → IsChange c blocks size digest → digests_per_block c.new ≡ digests_per_block c.old
same_width c blocks size digest ok = λ i. (ok.new_size ∙ sym ok.old_size) i / (ok.new_digest ∙ sym ok.old_digest) i

-- a block that stood at a level is one of the old tree
old_there : (k first n l i m : ℕ) (r : List ℕ) → i < (old_level k first n r l).len → m ≡ (old_level k first n r l).start + i
    → (l < level_count k n) × (i < level_len k n l) × (m ≡ first + place k n l i)
old_there k first n l i m r below at =
    ⊎_elim
    (λ low.
    let is = old-there k first n l r low in
    (low, subst (λ (o : OldLevel). i < o.len) is below, (let e = at ∙ ap (λ o. o.start + i) is in omega arith)))
    (λ high. ⊎_elim
    (λ over. (let none = ap (λ o. o.len) (old-above k first n l r over) in absurd (omega arith)))
    (λ under. (let top : l ≡ level_count k n = omega arith in
    let none = ap (λ o. o.len) (old-top k first n l r top) in absurd (omega arith)))
    (cases_lt (level_count k n) l))
    (cases_lt l (level_count k n))

-- what is read of a level above the edited blocks
pub touched_place : (c : Change) (blocks size digest : ℕ) (e : Edits) (l n : ℕ) (numbers : List ℕ) → IsChange c blocks size digest
    → numbers ≡ touched (digests_per_block c.new) e l → IsOldOf (level_of c l) numbers n → IsTouchedPlace c e n
touched_place c blocks size digest e l n numbers ok is old =
    let i : ℕ = old.0 in
    let k : ℕ = digests_per_block c.new in
    let has : Has (touched k e l) i = contains_has (touched k e l) i (subst (λ ns. Contains ns i) is old.1) in
    let passes : is_touched k e l i ≡ true = (in_filter (is_touched k e l) (level_len k (length e.working) l) 0 i has).passes in
    let there = old_there (digests_per_block c.old) c.first c.old.blocks l i n c.root old.2.0 old.2.1 in
    record {
      level = l;
      index = i;
      there = there.0;
      inside = there.1;
      touched = subst (λ w. is_touched w e l i ≡ true) (same_width c blocks size digest ok) passes;
      is = there.2;
    }

-- and of level 0 above the last block, where the count fell
pub touched_last : (c : Change) (blocks size digest : ℕ) (e : Edits) (n : ℕ) → IsChange c blocks size digest
    → length e.committed ≡ c.old.blocks → length e.working ≡ c.new.blocks → IsAboveLast c n → IsTouchedPlace c e n
touched_last c blocks size digest e n ok committed working last =
    let k : ℕ = digests_per_block c.old in
    let b : ℕ = c.new.blocks - 1 in
    let left = some c.new ok.new_shape in
    let fell = last.0 in
    let two = branching c.old ok.old_shape in
    let zero_is : above k 0 b ≡ b / k = above-zero k b in
    let fallen : has_fallen e ≡ true = lt-ltb (length e.working) (length e.committed) (omega arith) in
    let here : eqb (above k 0 (length e.working - 1)) (b / k) ≡ true =
    eq-eqb (above k 0 (length e.working - 1)) (b / k) (ap (λ m. above k 0 (m - 1)) working ∙ zero_is) in
    record {
      level = 0;
      index = b / k;
      there = level_some k c.old.blocks two (omega arith);
      inside = subst (λ i. i < level_len k c.old.blocks 0) zero_is (above_within k c.old.blocks 0 b (omega arith) (omega arith));
      touched = or_right (list_any (λ m. eqb (above k 0 m) (b / k)) (changed_blocks e))
          (has_fallen e && eqb (above k 0 (length e.working - 1)) (b / k))
          (and_from (has_fallen e) (eqb (above k 0 (length e.working - 1)) (b / k)) fallen here);
      is = last.1;
    }

-- with each touched place there is the one above it
pub touched_upward : (k : ℕ) (e : Edits) (l i : ℕ) → 0 < length e.working → is_touched k e l i ≡ true →
    is_touched k e (suc l) (i / k) ≡ true
touched_upward k e l i some touched =
    let a = touched_above k e l i some touched in
    above_touched k e (suc l) (i / k) (record {
      block = a.block;
      within = a.within;
      edited = a.edited;
      at = above-suc k l a.block ∙ ap (λ m. m / k) a.at;
    })
