-- Texts that are cut at the first of a byte are cut in one way.
use Rattle.std.proofs.Common.{refl, ◌≡◌, ℕ, suc, Bool, true, false, Option, None}
use Rattle.std.proofs.Common.{Some, List, [], ◌∷◌, ◌++◌, length, drop, slice_index, arith}
use Rattle.std.proofs.Common.{sym, ap, ◌∙◌, subst, length-append, Bor}
use lib.Seq.{get_or-append_seam}
use Rattle.std.specs.Prelude.{MatchOption, IfSome, IfNone}
use Rattle.std.specs.List.{list_all}
use Rattle.std.proofs.lemmas.List.Sums.{AllPass-from_list_all}
use Rattle.remote_url.specs.Grammar.{Lacks}

-- what `split_once` is known to give
module _ (c : ℕ) (text : List ℕ) (r : Option (Bor (List ℕ) × Bor (List ℕ))) where
  abbrev Given : Type 0
  Given = MatchOption r (Lacks c text) (λ x. (text ≡ x.0.now ++ (c ∷ x.1.now)) × Lacks c x.0.now)

pub parts_of : (c : ℕ) (text : List ℕ) (r : Option (Bor (List ℕ) × Bor (List ℕ))) → Given c text r
    → IfSome r (λ x. text ≡ x.0.now ++ (c ∷ x.1.now))
parts_of c text None given = tt
parts_of c text (Some x) given = given.0

pub before_first_mark : (c : ℕ) (text : List ℕ) (r : Option (Bor (List ℕ) × Bor (List ℕ))) → Given c text r
    → IfSome r (λ x. Lacks c x.0.now)
before_first_mark c text None given = tt
before_first_mark c text (Some x) given = given.1

pub no_mark : (c : ℕ) (text : List ℕ) (r : Option (Bor (List ℕ) × Bor (List ℕ))) → Given c text r → IfNone r (Lacks c text)
no_mark c text None given = given
no_mark c text (Some x) given = tt

-- a text with the byte in it doesn't lack it
pub lacks_mid : (c : ℕ) (xs ys : List ℕ) → ¬ (Lacks c (xs ++ (c ∷ ys)))
lacks_mid c xs ys lacks =
    lacks (length xs) (omega (arith, length-append xs (c ∷ ys))) (get_or-append_seam xs c ys 0)

-- the first of a byte is at one place
pub first_split : (c : ℕ) (xs ys us vs : List ℕ) → xs ++ (c ∷ ys) ≡ us ++ (c ∷ vs) → Lacks c xs → Lacks c us → (xs ≡ us) × (ys ≡ vs)
first_split c [] ys [] vs e l m = (refl, ap (drop 1) e)
first_split c [] ys (u ∷ us) vs e l m = absurd (m 0 (omega arith) (sym (ap (λ ns. slice_index ns 0) e)))
first_split c (x ∷ xs) ys [] vs e l m = absurd (l 0 (omega arith) (ap (λ ns. slice_index ns 0) e))
first_split c (x ∷ xs) ys (u ∷ us) vs e l m =
    let more = first_split c xs ys us vs (ap (drop 1) e) (λ i within. l (suc i) (omega arith)) (λ i within. m (suc i) (omega arith)) in
    let head : x ≡ u = ap (λ ns. slice_index ns 0) e in
    (ap (λ n. n ∷ xs) head ∙ ap (λ ns. u ∷ ns) more.0, more.1)

differ : false ≡ true → ⊥
differ e = (cc)

-- a text of bytes that pass a test lacks each that doesn't
pub all_lack : (test : ℕ → Bool) (c : ℕ) (text : List ℕ) → test c ≡ false → list_all test text ≡ true → Lacks c text
all_lack test c text not all =
    λ i within is.
    let passes : test c ≡ true = subst (λ b. test b ≡ true) is (AllPass-from_list_all test text all i 0 within) in
    differ (sym not ∙ passes)
