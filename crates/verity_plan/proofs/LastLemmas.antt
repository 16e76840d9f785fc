-- The last data block, where the count fell.
use Rattle.std.proofs.Common.{◌≡◌, ℕ, zero, suc, ◌+◌, ◌-◌, ◌/◌, ◌%◌, ◌<◌, ◌≤◌, true, false, ◌&&◌, eqb, leb, List, [], ◌∷◌, ◌++◌}
use Rattle.std.proofs.Common.{length, drop, get_or, ⊎_elim, ◌⊎◌, inl, inr, refl, sym, ap, ◌∙◌, subst, arith}
use Rattle.std.proofs.Math.Nat.{pow-zero}
use Rattle.std.proofs.lemmas.Bool.{cases_lt, or_left, or_right, or_cases, or_parts, and_parts, and_from, lt-ltb, ltb-true, leb-true}
use Rattle.std.proofs.lemmas.Bool.{leb-false, eq-eqb, eqb-true, both_ways}
use Rattle.std.proofs.lemmas.List.{length-append, get_or_append_left, get_or-append_right}
use Rattle.verity_digest.specs.Tree.{Hashing, IsHashing, IsLevelCount, per_block, slot, tree}
use Rattle.verity_digest.specs.Shape.{level_count, level_len, place}
use Rattle.verity_digest.proofs.Numbers.{IsLevelCount-level_count}
use Rattle.verity_digest.proofs.Rows.{slot-row}
use Rattle.verity_pending.specs.declared.child.Child.{Child}
use Rattle.verity_pending.specs.Edits.{Edits}
use Rattle.verity_pending.specs.Draft.{Draft, IsDraft, edits_of, is_changed, keeps_last}
use Rattle.verity_pending.specs.Slots.{nobody, AreNamed}
use Rattle.verity_pending.specs.Touched.{has_fallen, changed_blocks}
use Rattle.verity_pending.specs.Parents.{is_edited, edited_blocks}
use Rattle.verity_plan.specs.Standing.{BeginsWith}
use Rattle.verity_pending.proofs.ParentLemmas.{Rising, Has, same_rising, Rising-filter, filter_has, in_filter}
use Rattle.verity_pending.proofs.Drafts.{length-working, KeepsUnchanged-draft}
use Rattle.verity_plan.proofs.Trees.{stands_at}

level_some_by : (k n L : ℕ) → 1 < n → IsLevelCount k n L → 0 < L
level_some_by k n zero more counted = absurd (omega (arith, counted.enough, pow-zero k))
level_some_by k n (suc L) more counted = omega arith

-- two data blocks have a level above them
pub level_some : (k n : ℕ) → 2 ≤ k → 1 < n → 0 < level_count k n
level_some k n two more = level_some_by k n (level_count k n) more (IsLevelCount-level_count k n two)

-- the digest of a data block, where the image's tree stands in a store
pub slot_stands : (h : Hashing) (image content : List (List ℕ)) (first b : ℕ) → IsHashing h →
    BeginsWith (drop first content) (tree h image) → 0 < level_count (per_block h) (length image)
    → b < length image → b / per_block h < level_len (per_block h) (length image) 0
    → slot h (get_or content (first + place (per_block h) (length image) 0 (b / per_block h)) []) (b % per_block h) ≡ h.digest
    (get_or image b [])
slot_stands h image content first b ok stands some below inside =
    ap (λ block. slot h block (b % per_block h)) (stands_at h image content first 0 (b / per_block h) ok.branching stands some inside)
    ∙ slot-row h image 0 b ok below

-- the numbers of the edited blocks, from those of the changed ones

changed_edited : (e : Edits) (n : ℕ) → Has (changed_blocks e) n → Has (edited_blocks e) n
changed_edited e n h =
    let i = in_filter e.changed (length e.working) 0 n h in
    filter_has (is_edited e) (length e.working) 0 n
    (record { low = i.low; high = i.high; passes = or_left (e.changed n) (has_fallen e && eqb n (length e.working - 1)) i.passes })

edited_cases : (e : Edits) (n : ℕ) → Has (edited_blocks e) n → Has (changed_blocks e) n ⊎
    ((has_fallen e ≡ true) × (n ≡ length e.working - 1))
edited_cases e n h =
    let i = in_filter (is_edited e) (length e.working) 0 n h in
    ⊎_elim
    (λ c. inl (filter_has e.changed (length e.working) 0 n (record { low = i.low; high = i.high; passes = c })))
    (λ f. let p = and_parts (has_fallen e) (eqb n (length e.working - 1)) f in inr (p.0, eqb-true n (length e.working - 1) p.1))
    (or_cases (e.changed n) (has_fallen e && eqb n (length e.working - 1)) i.passes)

-- where the count didn't fall, or the last block was changed, they are the same
pub edited_same : (e : Edits) → (has_fallen e ≡ true → Has (changed_blocks e) (length e.working - 1)) → changed_blocks e ≡ edited_blocks e
edited_same e last =
    same_rising 0 (changed_blocks e) (edited_blocks e) (Rising-filter e.changed (length e.working) 0)
    (Rising-filter (is_edited e) (length e.working) 0)
    (changed_edited e)
    (λ n h. ⊎_elim (λ c. c) (λ f. let P : ℕ → Type 0 = Has (changed_blocks e) in subst P (sym f.1) (last f.0)) (edited_cases e n h))

Rising-last : (lo n : ℕ) (ns : List ℕ) → lo ≤ n → Rising lo ns → ((m : ℕ) → Has ns m → m < n) → Rising lo (ns ++ n ∷ [])
Rising-last lo n [] le r below = (le, tt)
Rising-last lo n (m ∷ ns) le r below = let low = below m (inl refl) in
    (r.0, Rising-last (suc m) n ns (omega arith) r.1 (λ q h. below q (inr h)))

has_last : (ns : List ℕ) (n m : ℕ) → Has (ns ++ n ∷ []) m → Has ns m ⊎ (m ≡ n)
has_last [] n m h = ⊎_elim (λ e. inr e) (λ t. absurd t) h
has_last (q ∷ ns) n m h = ⊎_elim (λ e. inl (inl e)) (λ t. ⊎_elim (λ a. inl (inr a)) (λ e. inr e) (has_last ns n m t)) h

last_has : (ns : List ℕ) (n m : ℕ) → Has ns m ⊎ (m ≡ n) → Has (ns ++ n ∷ []) m
last_has [] n m h = ⊎_elim (λ a. absurd a) (λ e. inl e) h
last_has (q ∷ ns) n m h = ⊎_elim (λ a. ⊎_elim (λ e. inl e) (λ t. inr (last_has ns n m (inl t))) a) (λ e. inr (last_has ns n m (inr e))) h

-- else the last block comes behind them
pub edited_last : (e : Edits) → 0 < length e.working → has_fallen e ≡ true → (Has (changed_blocks e) (length e.working - 1) → ⊥) →
    changed_blocks e ++ (length e.working - 1) ∷ [] ≡ edited_blocks e
edited_last e some fell none =
    let n : ℕ = length e.working - 1 in
    let below : (m : ℕ) → Has (changed_blocks e) m → m < n = λ m h.
    let i = in_filter e.changed (length e.working) 0 m h in let high = i.high in
    ⊎_elim (λ l. l) (λ g. let same : m ≡ n = omega arith in let P : ℕ → Type 0 = Has (changed_blocks e) in
    absurd (none (subst P same h))) (cases_lt m n) in
    same_rising 0 (changed_blocks e ++ n ∷ []) (edited_blocks e)
    (Rising-last 0 n (changed_blocks e) (omega arith) (Rising-filter e.changed (length e.working) 0) below)
    (Rising-filter (is_edited e) (length e.working) 0)
    (λ m h. ⊎_elim (changed_edited e m)
    (λ is. let P : ℕ → Type 0 = Has (edited_blocks e) in subst P (sym is)
    (filter_has (is_edited e) (length e.working) 0 n (record {
      low = omega arith;
      high = omega arith;
      passes = or_right (e.changed n) (has_fallen e && eqb n n) (and_from (has_fallen e) (eqb n n) fell (eq-eqb n n refl));
    })))
    (has_last (changed_blocks e) n m h))
    (λ m h. last_has (changed_blocks e) n m (⊎_elim (λ c. inl c) (λ f. inr f.1) (edited_cases e m h)))

-- the leaves of a draft

pub keeps_last_edited : (image : List (List ℕ)) (d : Draft) → IsDraft d → length image ≡ d.committed → keeps_last d ≡ true →
    changed_blocks (edits_of image d) ≡ edited_blocks (edits_of image d)
keeps_last_edited image d ok len kept =
    let e : Edits = edits_of image d in
    let n = length-working image d in
    let some = ok.some in
    edited_same e
    (λ fell.
    let less = ltb-true (length e.working) (length e.committed) fell in
    ⊎_elim
    (λ stays. let more = leb-true d.committed d.working stays in absurd (omega arith))
    (λ is.
    let at : d.working - 1 ≡ length e.working - 1 = omega arith in
    filter_has e.changed (length e.working) 0 (length e.working - 1) (record {
      low = omega arith;
      high = omega arith;
      passes = subst (λ (m : ℕ). is_changed d m ≡ true) at is;
    }))
    (or_cases (leb d.committed d.working) (is_changed d (d.working - 1)) kept))

pub record IsCut (image : List (List ℕ)) (d : Draft) : Type 0 where
  pub numbers : changed_blocks (edits_of image d) ++ (length (edits_of image d).working - 1) ∷ [] ≡ edited_blocks (edits_of image d)
  pub same : get_or (edits_of image d).working (length (edits_of image d).working - 1) [] ≡ get_or image
      (length (edits_of image d).working - 1) []

pub cut_last : (image : List (List ℕ)) (d : Draft) → IsDraft d → length image ≡ d.committed → keeps_last d ≡ false → IsCut image d
cut_last image d ok len cut =
    let e : Edits = edits_of image d in
    let n = length-working image d in
    let some = ok.some in
    let parts = or_parts (leb d.committed d.working) (is_changed d (d.working - 1)) cut in
    let less = leb-false d.committed d.working parts.0 in
    let fell : has_fallen e ≡ true = lt-ltb (length e.working) (length e.committed) (omega arith) in
    let at : d.working - 1 ≡ length e.working - 1 = omega arith in
    let plain : e.changed (length e.working - 1) ≡ false = subst (λ (m : ℕ). is_changed d m ≡ false) at parts.1 in
    record {
      numbers = edited_last e (omega arith) fell
          (λ has. let i = in_filter e.changed (length e.working) 0 (length e.working - 1) has in
          both_ways (e.changed (length e.working - 1)) plain i.passes);
      same = (KeepsUnchanged-draft image d ok len (length e.working - 1) (omega arith) plain).1;
    }

-- one leaf more
pub AreNamed-last : (named : ℕ → List ℕ) (old new : List Child) (x : Child) → new ≡ old ++ x ∷ [] → x.digest ≡ named x.number →
    AreNamed named old → AreNamed named new
AreNamed-last named old new x is here before =
    let all : AreNamed named (old ++ x ∷ []) = record {
      each = λ c below.
          let P : Child → Type 0 = λ child. child.digest ≡ named child.number in
          ⊎_elim
          (λ low. subst P (sym (get_or_append_left old (x ∷ []) nobody c low)) (before.each c low))
          (λ high.
          let len = length-append old (x ∷ []) in
          let at : c - length old ≡ 0 = omega arith in
          subst P (sym (get_or-append_right old (x ∷ []) (length old) c nobody refl high ∙ ap (λ q. get_or (x ∷ []) q nobody) at)) here)
          (cases_lt c (length old));
    } in
    subst (AreNamed named) (sym is) all
