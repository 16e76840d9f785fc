-- What isn't touched is kept.
use Rattle.std.proofs.Common.{◌≡◌, ℕ, zero, suc, ◌+◌, ◌-◌, ◌/◌, ◌^◌, ◌<◌, ◌≤◌, Bool, true, false, ◌||◌, ◌&&◌, eqb, cond, List, []}
use Rattle.std.proofs.Common.{◌∷◌, length, ⊎_elim, sym, ap, ◌∙◌, subst, arith}
use Rattle.std.specs.Int.{div_ceil}
use Rattle.std.specs.List.{filter, list_any, range_with_len}
use Rattle.std.proofs.Math.Nat.{pow-zero, pow-suc, one-le-pow, div-one}
use Rattle.std.proofs.lemmas.Bool.{cases_eq, cases_Bool, or_parts, and_from, eqb-false, eq-eqb, lt-ltb, false_from_ne_true, both_ways}
use Rattle.std.proofs.lemmas.List.{length-map, get_or-map}
use Rattle.verity_digest.specs.Tree.{Hashing, per_block}
use Rattle.verity_digest.specs.Shape.{row_len}
use Rattle.verity_pending.specs.Digests.{digests_of}
use Rattle.verity_digest.proofs.Ceil.{div_ceil-div_ceil}
use Rattle.verity_pending.specs.Edits.{Edits}
use Rattle.verity_pending.specs.Touched.{changed_blocks, has_fallen, is_touched}
use Rattle.verity_pending.specs.Kept.{KeepsUnchanged, KeepsUntouched}
use Rattle.verity_pending.proofs.Untouched.{Untouched, SameDigests, same_block, SameDigests-next, length-level_digests}

-- no number that passes is in the range, where none is found
none_among : (p q : ℕ → Bool) (n a m : ℕ) → list_any q (filter p (range_with_len a n)) ≡ false → a ≤ m → m < a + n → p m ≡ true →
    q m ≡ false
none_among p q zero a m none low high is = absurd (omega arith)
none_among p q (suc n) a m none low high is =
    let rest : List ℕ = filter p (range_with_len (a + 1) n) in
    let P : Bool → Type 0 = λ b. list_any q (cond b (a ∷ rest) rest) ≡ false in
    let tail : list_any q rest ≡ false = ⊎_elim
    (λ t. let h : (q a || list_any q rest) ≡ false = subst P t none in (or_parts (q a) (list_any q rest) h).1)
    (λ f. subst P f none) (cases_Bool (p a)) in
    ⊎_elim
    (λ here. let t : p a ≡ true = ap p here ∙ is in
    let h : (q a || list_any q rest) ≡ false = subst P t none in
    ap q (sym here) ∙ (or_parts (q a) (list_any q rest) h).0)
    (λ apart. none_among p q n (a + 1) m tail (omega arith) (omega arith) is)
    (cases_eq a m)

pub Untouched-from : (k : ℕ) (e : Edits) (l i : ℕ) → is_touched k e l i ≡ false → Untouched k e (suc l) i
Untouched-from k e l i free =
    let parts = or_parts (list_any (λ n. eqb (n / k ^ suc l) i) (changed_blocks e))
    (has_fallen e && eqb ((length e.working - 1) / k ^ suc l) i) free in
    record {
      changed = λ n within is at.
          eqb-false (n / k ^ suc l) i (none_among e.changed (λ m. eqb (m / k ^ suc l) i) (length e.working) 0 n parts.0
          (omega arith) (omega arith) is) at;
      last = λ fell at.
          both_ways (has_fallen e && eqb ((length e.working - 1) / k ^ suc l) i) parts.1
          (and_from (has_fallen e) (eqb ((length e.working - 1) / k ^ suc l) i) (lt-ltb (length e.working) (length e.committed)
          fell) (eq-eqb ((length e.working - 1) / k ^ suc l) i at));
    }

SameDigests-data : (h : Hashing) (e : Edits) → KeepsUnchanged e → SameDigests h e 0
SameDigests-data h e kept = record {
  same = λ j inside u.
      let k : ℕ = per_block h in
      let at : j / k ^ 0 ≡ j = ap (λ w. j / w) (pow-zero k) ∙ div-one j in
      let within : j < length e.working = rw length-map at inside in
      let plain : e.changed j ≡ false = false_from_ne_true (e.changed j) (λ t. u.changed j within t at) in
      let same = kept j within plain in
      let there : j < length e.committed = same.0 in (
        rw length-map there,
        get_or-map h.digest e.working j [] [] within ∙ ap h.digest same.1
            ∙ sym (get_or-map h.digest e.committed j [] [] there),
      );
}

pub all_digests : (h : Hashing) (e : Edits) (l : ℕ) → 0 < per_block h → KeepsUnchanged e → SameDigests h e l
all_digests h e zero p kept = SameDigests-data h e kept
all_digests h e (suc l) p kept = SameDigests-next h e l p (all_digests h e l p kept)

-- how many blocks hold the digests of a level
blocks_at : (h : Hashing) (l : ℕ) (image : List (List ℕ)) → 0 < per_block h →
    div_ceil (length (digests_of h image l)) (per_block h) ≡ div_ceil (length image) (per_block h ^ suc l)
blocks_at h l image p =
    ap (λ n. div_ceil n (per_block h)) (length-level_digests h l image p)
    ∙ div_ceil-div_ceil (length image) (per_block h ^ l) (per_block h) (one-le-pow l (per_block h) p) p
    ∙ ap (λ w. div_ceil (length image) w) (sym (pow-suc (per_block h) l))

pub keeps_untouched : (h : Hashing) (e : Edits) → 0 < per_block h → KeepsUnchanged e → KeepsUntouched h e
unfolding row_len
keeps_untouched h e p kept l i below free =
    let block = same_block h e l i p (all_digests h e l p kept) (rw (blocks_at h l e.working p) below)
    (Untouched-from (per_block h) e l i free) in
    (rw (← blocks_at h l e.committed p) block.0, block.1)
