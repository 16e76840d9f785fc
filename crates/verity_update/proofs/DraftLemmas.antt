-- The working image of an editor.
use Rattle.std.proofs.Common.{ℕ, ◌≡◌, ◌<◌, true, false, ◌||◌, refl, List, [], length, get_or, leb, ltb}
use Rattle.std.proofs.Common.{Result, Ok, Err, OnOk, OnErr, sym, ap, ◌∙◌, arith}
use Rattle.std.proofs.Math.Bool.{or-false}
use Rattle.std.proofs.lemmas.Bool.{lt-ltb, lt-leb, eq-eqb, ne_eqb, and_left, cond-true}
use Rattle.std.proofs.lemmas.List.{ext_get_or, length-set}
use Rattle.std.proofs.lemmas.List.FromFn.{length-map-range_with_len, get_or-map-range_with_len}
use Rattle.verity_profile.specs.Profile.{zero_block}
use Rattle.verity_edit.specs.Draft.{Draft, block_at, edits_of, is_changed}
use Rattle.verity_edit.specs.Edits.{Edits, with_growth, with_shrink, with_write}
use Rattle.verity_edit.specs.Editing.{fresh}

pub length_working : (image : List (List ℕ)) (d : Draft) → length (edits_of image d).working ≡ d.working
length_working image d = length-map-range_with_len (block_at image d) 0 d.working

-- where nothing is pending it is the committed one
pub working_fresh : (image : List (List ℕ)) (size n : ℕ) → length image ≡ n → (edits_of image (fresh size n)).working ≡ image
working_fresh image size n len =
    let d : Draft = fresh size n in
    ext_get_or [] (edits_of image d).working image (length_working image d ∙ sym len)
    (λ i below.
    let inside : i < n = omega (arith, length_working image d) in
    get_or-map-range_with_len (block_at image d) 0 n i i [] inside (omega arith)
    ∙ cond-true (ltb i n) (get_or image i []) (zero_block size) (lt-ltb i n inside))

-- what follows where a call is done
pub ok_weaker : {T E P Q : Type 0} (r : Result T E) → (P → Q) → OnOk r P → OnOk r Q
ok_weaker (Ok x) f p = f p
ok_weaker (Err e) f p = tt

-- what a call leaves of the count and of what is changed
pub count_written : {T E X : Type 0} (r : Result T E) (old new : X) (draft : X → Draft) (n : ℕ) (block : List ℕ)
    → OnOk r ((image : List (List ℕ)) → edits_of image (draft new) ≡ with_write n block (edits_of image (draft old)))
    → OnErr r (new ≡ old) → (draft new).working ≡ (draft old).working
count_written (Ok x) old new draft n block done same =
    sym (length_working [] (draft new)) ∙ ap (λ (e : Edits). length e.working) (done [])
    ∙ length-set (edits_of [] (draft old)).working n block ∙ length_working [] (draft old)
count_written (Err e) old new draft n block done same = ap (λ x. (draft x).working) same

pub changed_elsewhere : (old new : Draft) (n i : ℕ) (block : List ℕ) → edits_of [] new ≡ with_write n block (edits_of [] old)
    → (i ≡ n → ⊥) → is_changed new i ≡ is_changed old i
changed_elsewhere old new n i block is other =
    ap (λ (e : Edits). e.changed i) is ∙ ap (λ b. b || is_changed old i) (ne_eqb i n other)

pub changed_here : (old new : Draft) (n : ℕ) (block : List ℕ) → edits_of [] new ≡ with_write n block (edits_of [] old)
    → is_changed new n ≡ true
changed_here old new n block is =
    ap (λ (e : Edits). e.changed n) is ∙ ap (λ b. b || is_changed old n) (eq-eqb n n refl)

pub changed_below : (old new : Draft) (count i : ℕ) → edits_of [] new ≡ with_growth old.size count (edits_of [] old) → i < old.working
    → is_changed new i ≡ is_changed old i
changed_below old new count i is low =
    let many : ℕ = length (edits_of [] old).working in
    let inside : i < many = omega (arith, length_working [] old, low) in
    ap (λ (e : Edits). e.changed i) is
    ∙ ap (λ b. is_changed old i || b) (and_left (leb many i) (ltb i count) (lt-leb many i inside)) ∙ or-false (is_changed old i)

pub changed_less : (old new : Draft) (count i : ℕ) → edits_of [] new ≡ with_shrink count (edits_of [] old) → is_changed old i ≡ false
    → is_changed new i ≡ false
changed_less old new count i is none =
    ap (λ (e : Edits). e.changed i) is ∙ and_left (is_changed old i) (ltb i count) none
