-- The digests of each level after the edits.
use Rattle.std.proofs.Common.{◌≡◌, ℕ, suc, ◌-◌, ◌*◌, ◌/◌, ◌^◌, ◌<◌, ◌≤◌, true, false, ◌&&◌, eqb, List, [], ◌∷◌, length, get_or}
use Rattle.std.proofs.Common.{⊎_elim, refl, sym, ap, ◌∙◌, subst, arith}
use Rattle.std.specs.Int.{div_ceil}
use Rattle.std.specs.List.Sorted.{IsNonDecreasingBy}
use Rattle.std.proofs.Math.Nat.{pow-suc, pow-zero, one-le-pow, div-one, div-eq_of_lt, mul-le-mul_left, mul-le-mul_right}
use Rattle.std.proofs.lemmas.Bool.{cases_lt, cases_Bool, both_ways, or_left, or_right, and_from, eq-eqb, lt-ltb, false_from_ne_true}
use Rattle.std.proofs.lemmas.List.{length-map, get_or-map}
use Rattle.verity_digest.specs.Tree.{Hashing, per_block, IsHashing}
use Rattle.verity_digest.specs.Shape.{row_len, level_len}
use Rattle.verity_digest.specs.Rows.{row}
use Rattle.verity_pending.specs.Digests.{digests_of}
use Rattle.verity_pending.specs.Plan.{numbers_of}
use Rattle.verity_pending.specs.declared.child.Child.{Child}
use Rattle.verity_pending.specs.Edits.{Edits}
use Rattle.verity_pending.specs.Touched.{has_fallen, is_touched, touched}
use Rattle.verity_pending.specs.Parents.{is_edited, edited_blocks}
use Rattle.verity_pending.specs.Slots.{child_at, AreNamed}
use Rattle.verity_plan.specs.Level.{Renews}
use Rattle.verity_pending.specs.Kept.{KeepsUnchanged}
use Rattle.verity_pending.proofs.Untouched.{Untouched, begins, length-level_digests}
use Rattle.verity_pending.proofs.ParentLemmas.{Has, AboveEdited, above_touched, filter_has}
use Rattle.verity_plan.proofs.Kept.{keeps_untouched, all_digests, Untouched-from}

-- every block of a level that the committed image's tree doesn't have is touched
pub touched_above_old : (h : Hashing) (e : Edits) (l i : ℕ) → 2 ≤ per_block h → KeepsUnchanged e →
    length e.committed ≤ per_block h ^ l → length e.committed < length e.working
    → i < level_len (per_block h) (length e.working) l → is_touched (per_block h) e l i ≡ true
unfolding row_len
touched_above_old h e l i two kept small grown below =
    let k : ℕ = per_block h in
    let n : ℕ = length e.committed in
    ⊎_elim (λ t. t)
    (λ f.
    let p : 0 < k = omega arith in
    let w : 0 < k ^ suc l = one-le-pow (suc l) k p in
    let some : 0 < k ^ l = one-le-pow l k p in
    let twice : k ^ l * 2 ≤ k ^ l * k = mul-le-mul_left (k ^ l) two in
    let wide : n < k ^ suc l = rw pow-suc (omega arith) in
    let there = keeps_untouched h e p kept l i below f in
    let inside : i * k ^ suc l < n = begins n (k ^ suc l) i w there.0 in
    let first : i ≡ 0 = ⊎_elim (λ more. let m : 1 * k ^ suc l ≤ i * k ^ suc l = mul-le-mul_right (k ^ suc l) more in
    absurd (omega arith)) (λ z. omega arith) (cases_lt 0 i) in
    let edited : e.changed n ≡ true = ⊎_elim (λ t. t) (λ c. let lost = kept n grown c in let less = lost.0 in
    absurd (omega arith)) (cases_Bool (e.changed n)) in
    let above : AboveEdited k e l i = record {
      block = n;
      within = grown;
      edited = or_left (e.changed n) (has_fallen e && eqb n (length e.working - 1)) edited;
      at = div-eq_of_lt wide ∙ sym first;
    } in
    absurd (both_ways (is_touched k e l i) f (above_touched k e l i above)))
    (cases_Bool (is_touched k e l i))

has_child : (children : List Child) (n : ℕ) → Has (numbers_of children) n → (c : ℕ) × (c < length children) ×
    ((child_at children c).number ≡ n)
has_child [] n h = absurd h
has_child (x ∷ children) n h = ⊎_elim (λ e. (0, omega arith, sym e)) (λ t. let r = has_child children n t in
    (suc r.0, (let l = r.1 in omega arith), r.2)) h

abbrev NoChild : List Child → ℕ → Type 0
NoChild children j = (c : ℕ) → c < length children → (child_at children c).number ≡ j → ⊥

not_touched : (k : ℕ) (e : Edits) (l j : ℕ) (children : List Child) → numbers_of children ≡ touched k e l →
    j < div_ceil (length e.working) (k ^ suc l) → NoChild children j → is_touched k e l j ≡ false
unfolding row_len
not_touched k e l j children are below none =
    false_from_ne_true (is_touched k e l j) (λ t.
    let h : Has (touched k e l) j = filter_has (is_touched k e l) (div_ceil (length e.working) (k ^ suc l)) 0 j
    (record { low = omega arith; high = omega arith; passes = t }) in
    let P : List ℕ → Type 0 = λ ns. Has ns j in
    let r = has_child children j (subst P (sym are) h) in none r.0 r.1 r.2)

Untouched-data : (k : ℕ) (e : Edits) (j : ℕ) (children : List Child) → 0 < length e.working →
    numbers_of children ≡ edited_blocks e → NoChild children j → Untouched k e 0 j
Untouched-data k e j children some are none =
    let at : (n : ℕ) → n / k ^ 0 ≡ n = λ n. ap (λ w. n / w) (pow-zero k) ∙ div-one n in
    let last : ℕ = length e.working - 1 in
    let found : (n : ℕ) → n < length e.working → is_edited e n ≡ true → n ≡ j → ⊥ = λ n within t same.
    let h : Has (edited_blocks e) n = filter_has (is_edited e) (length e.working) 0 n
    (record { low = omega arith; high = omega arith; passes = t }) in
    let P : List ℕ → Type 0 = λ ns. Has ns n in
    let r = has_child children n (subst P (sym are) h) in none r.0 r.1 (r.2 ∙ same) in
    record {
      changed = λ n within is to. found n within (or_left (e.changed n) (has_fallen e && eqb n last) is) (sym (at n) ∙ to);
      last = λ fell to. found last (omega arith) (or_right (e.changed last) (has_fallen e && eqb last last)
          (and_from (has_fallen e) (eqb last last) (lt-ltb (length e.working) (length e.committed) fell) (eq-eqb last last refl)))
          (sym (at last) ∙ to);
    }

sized_digests : (h : Hashing) (l : ℕ) (image : List (List ℕ)) → IsHashing h → (j : ℕ) → j < length (digests_of h image l) →
    length (get_or (digests_of h image l) j []) ≡ h.digest_size
sized_digests h l image ok j below =
    let blocks : List (List ℕ) = row h image l in
    let inside : j < length blocks = rw length-map at below in
    ap length (get_or-map h.digest blocks j [] [] inside) ∙ ok.sized (get_or blocks j [])

-- level l's digests, from the children that are edited or touched
renews_by : (h : Hashing) (e : Edits) (l : ℕ) (children : List Child) → IsHashing h → KeepsUnchanged e
    → ((j : ℕ) → j < length (digests_of h e.working l) → NoChild children j → Untouched (per_block h) e l j)
    → AreNamed (λ j. get_or (digests_of h e.working l) j []) children → IsNonDecreasingBy (λ child. child.number) children
    → Renews h.digest_size (digests_of h e.committed l) (digests_of h e.working l) children
renews_by h e l children ok kept free named rising =
    let p : 0 < per_block h = (let b = ok.branching in omega arith) in
    record {
      sized = λ j below. sized_digests h l e.working ok j below;
      old_sized = λ j below. sized_digests h l e.committed ok j below;
      named = named;
      rising = rising;
      others = λ j below none. let s = all_digests h e l p kept in s.same j below (free j below none);
    }

pub renews_data : (h : Hashing) (e : Edits) (children : List Child) → IsHashing h → KeepsUnchanged e → 0 < length e.working →
    numbers_of children ≡ edited_blocks e
    → AreNamed (λ j. get_or (digests_of h e.working 0) j []) children → IsNonDecreasingBy (λ child. child.number) children
    → Renews h.digest_size (digests_of h e.committed 0) (digests_of h e.working 0) children
renews_data h e children ok kept some are named rising =
    renews_by h e 0 children ok kept (λ j below none. Untouched-data (per_block h) e j children some are none) named rising

pub renews_level : (h : Hashing) (e : Edits) (l : ℕ) (children : List Child) → IsHashing h → KeepsUnchanged e →
    numbers_of children ≡ touched (per_block h) e l
    → AreNamed (λ j. get_or (digests_of h e.working (suc l)) j []) children → IsNonDecreasingBy (λ child. child.number) children
    → Renews h.digest_size (digests_of h e.committed (suc l)) (digests_of h e.working (suc l)) children
unfolding row_len
renews_level h e l children ok kept are named rising =
    let p : 0 < per_block h = (let b = ok.branching in omega arith) in
    renews_by h e (suc l) children ok kept
    (λ j below none. Untouched-from (per_block h) e l j
    (not_touched (per_block h) e l j children are (let len = length-level_digests h (suc l) e.working p in omega arith) none))
    named rising

-- .. and where the committed image's tree ends below it, from the children alone
pub renews_above : (h : Hashing) (e : Edits) (l : ℕ) (children : List Child) → IsHashing h → KeepsUnchanged e →
    numbers_of children ≡ touched (per_block h) e l
    → length e.committed ≤ per_block h ^ l → length e.committed < length e.working
    → AreNamed (λ j. get_or (digests_of h e.working (suc l)) j []) children → IsNonDecreasingBy (λ child. child.number) children
    → Renews h.digest_size [] (digests_of h e.working (suc l)) children
unfolding row_len
renews_above h e l children ok kept are small grown named rising =
    let p : 0 < per_block h = (let b = ok.branching in omega arith) in
    record {
      sized = λ j below. sized_digests h (suc l) e.working ok j below;
      old_sized = λ j below. absurd (omega arith);
      named = named;
      rising = rising;
      others = λ j below none.
          let inside : j < div_ceil (length e.working) (per_block h ^ suc l) =
          (let len = length-level_digests h (suc l) e.working p in omega arith) in
          absurd (both_ways (is_touched (per_block h) e l j) (not_touched (per_block h) e l j children are inside none)
          (touched_above_old h e l j ok.branching kept small grown inside));
    }
