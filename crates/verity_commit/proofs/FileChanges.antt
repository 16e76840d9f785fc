-- What the changes of a side make of a file, one after the other.
use Rattle.std.proofs.Common.{◌≡◌, ℕ, zero, suc, ◌+◌, ◌<◌, ◌≤◌, List, [], ◌∷◌, length, get_or, drop}
use Rattle.std.proofs.Common.{length-append, length-take, length-drop, Option, None, Some, option_map, refl, sym, ap, subst, ◌∙◌, arith}
use Rattle.std.proofs.lemmas.List.{drop_more, length-replicate}
use Rattle.verity_store.specs.RawFile.{overwritten, with_length, HasLength, known_len, Writes, SetsLength}
use Rattle.verity_journal.specs.Plan.{Side, Fit, IsSide, changed, made}

length-over : (at : ℕ) (new bytes : List ℕ) → at + length new ≤ length bytes → length (overwritten at new bytes) ≡ length bytes
length-over at new bytes fits = simp (length-append, length-take, length-drop) (omega arith)

length-with : (n : ℕ) (bytes : List ℕ) → length (with_length n bytes) ≡ n
length-with n bytes = simp (length-append, length-take, length-replicate) (omega arith)

fit_at : (changes : List (ℕ × List ℕ)) (len k : ℕ) → k < length changes → Fit len changes
    → (get_or changes k (0, [])).0 + length (get_or changes k (0, [])).1 ≤ len
fit_at [] len k h fit = absurd (omega arith)
fit_at (change ∷ changes) len zero h fit = fit.0
fit_at (change ∷ changes) len (suc k) h fit = fit_at changes len k (omega arith) fit.1

pub fits_at : (side : Side) (k : ℕ) (change : ℕ × List ℕ) → IsSide side → k < length side.changes
    → change ≡ get_or side.changes k (0, []) → change.0 + length change.1 ≤ side.len
fits_at side k change is h e = omega (
  arith,
  fit_at side.changes side.len k h is.fit,
  ap (λ (p : ℕ × List ℕ). p.0) e,
  ap (λ (p : ℕ × List ℕ). length p.1) e,
)

changed_more : (changes : List (ℕ × List ℕ)) (k : ℕ) (change : ℕ × List ℕ) (b c : List ℕ) → k < length changes
    → change ≡ get_or changes k (0, [])
    → c ≡ overwritten change.0 change.1 b → changed (drop (k + 1) changes) c ≡ changed (drop k changes) b
changed_more changes k change b c h is over =
    ap (λ (l : List ℕ). changed (drop (k + 1) changes) l) (over ∙ (λ i. overwritten (is i).0 (is i).1 b))
    ∙ ap (λ (l : List (ℕ × List ℕ)). changed l b) (sym (drop_more changes k (0, []) h))

-- known bytes that are so long have room for a change
pub fits_known : (known : Option (List ℕ)) (len at size : ℕ) → HasLength known len → at + size ≤ len
    → at + size ≤ known_len known (at + size)
fits_known None len at size has fits = omega arith
fits_known (Some bytes) len at size has fits = omega (arith, has, fits)

-- one change more was made of them
pub written_more : (old new : Option (List ℕ)) (changes : List (ℕ × List ℕ)) (k : ℕ) (change : ℕ × List ℕ) → k < length changes
    → change ≡ get_or changes k (0, []) → Writes old new change.0 change.1
    → option_map (changed (drop (k + 1) changes)) new ≡ option_map (changed (drop k changes)) old
written_more None new changes k change h is wrote = ap (option_map (changed (drop (k + 1) changes))) wrote
written_more (Some bytes) new changes k change h is wrote = ap (option_map (changed (drop (k + 1) changes))) wrote
    ∙ ap Some (changed_more changes k change bytes (overwritten change.0 change.1 bytes) h is refl)

-- and they are as long as they were
pub written_long : (old new : Option (List ℕ)) (len at : ℕ) (written : List ℕ) → HasLength old len → at + length written ≤ len
    → Writes old new at written → HasLength new len
written_long None new len at written has fits wrote =
    let P : Option (List ℕ) → Type 0 = λ known. HasLength known len in subst P (sym wrote) refl
written_long (Some bytes) new len at written has fits wrote =
    let P : Option (List ℕ) → Type 0 = λ known. HasLength known len in
    subst P (sym wrote) (length-over at written bytes (omega (arith, has, fits)) ∙ has)

-- known bytes were cut or grown, and then again
pub twice_long : (old mid new : Option (List ℕ)) (keep len : ℕ) → SetsLength old mid keep → SetsLength mid new len
    → new ≡ option_map (λ bytes. with_length len (with_length keep bytes)) old
twice_long None mid new keep len one two =
    let P : Option (List ℕ) → Type 0 = λ known. SetsLength known new len in
    let then : new ≡ None = subst P one two in then
twice_long (Some bytes) mid new keep len one two =
    let P : Option (List ℕ) → Type 0 = λ known. SetsLength known new len in
    let then : new ≡ Some (with_length len (with_length keep bytes)) = subst P one two in then

-- they have the new length
pub set_long : (old new : Option (List ℕ)) (len : ℕ) → SetsLength old new len → HasLength new len
set_long None new len set = let P : Option (List ℕ) → Type 0 = λ known. HasLength known len in subst P (sym set) refl
set_long (Some bytes) new len set =
    let P : Option (List ℕ) → Type 0 = λ known. HasLength known len in subst P (sym set) (length-with len bytes)

-- changes after both changes of length are what a side makes
pub made_of : (side : Side) (old mid new : Option (List ℕ))
    → mid ≡ option_map (λ bytes. with_length side.len (with_length side.keep bytes)) old
    → new ≡ option_map (changed side.changes) mid → new ≡ option_map (made side) old
made_of side None mid new one two = two ∙ ap (option_map (changed side.changes)) one
made_of side (Some bytes) mid new one two = two ∙ ap (option_map (changed side.changes)) one

-- what is made of known bytes is known
pub made_known : (side : Side) (old new : Option (List ℕ)) (bytes held : List ℕ) → new ≡ option_map (made side) old
    → made side bytes ≡ held → old ≡ Some bytes → new ≡ Some held
made_known side old new bytes held is makes is_known = is ∙ ap (option_map (made side)) is_known ∙ ap Some makes
