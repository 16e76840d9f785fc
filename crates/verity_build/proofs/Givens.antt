-- An image that is given block by block.
use Rattle.std.proofs.Common.{◌≡◌, ℕ, ◌+◌, ◌<◌, List, [], ◌∷◌, ◌++◌, length, take, get_or, inl, inr, refl, sym, ap, ◌∙◌, subst, arith}
use Rattle.std.specs.Prelude.{Option, None}
use Rattle.std.proofs.Math.Seq.{take-length, take-append_seam}
use Rattle.std.proofs.lemmas.Bool.{cases_lt}
use Rattle.std.proofs.lemmas.List.{take-take, get_or-take, get_or_push, get_or_append_left, length_push}
use Rattle.std.proofs.lemmas.List.Elements.{All-nil, All-push}
use Rattle.verity_digest.specs.Hash.{Salted}
use Rattle.verity_digest.specs.Tree.{Hashing}
use Rattle.verity_store.specs.Given.{GoesOn, GaveSince}
use Rattle.verity_store.proofs.GivenLemmas.{since_on}
use Rattle.verity_store.specs.declared.store.BlockStore as store
use Rattle.verity_tree.specs.Ahead.{IsOfGiven}
use Rattle.verity_tree.specs.Open.{Open}
use Rattle.verity_tree.specs.Climb.{AreEmpty}
use Rattle.verity_build.specs.Progress.{IsRight}
use Rattle.verity_build.specs.Given.{IsGivenImage, IsGivenTo}
use Rattle.verity_build.proofs.Rightly.{right_empty}

module _ {S : Type 0} (facts : store.Ghosts S) (old : S) (h : Hashing) (all : ℕ) where
  -- nothing yet
  pub given_none : (opens : List Open) (top : Option (List ℕ)) → AreEmpty opens → top ≡ None → IsGivenTo facts old old h all 0 opens top
  given_none opens top empty none = record {
    made = [];
    len = refl;
    given = record { sized = All-nil (λ block. length block ≡ facts.size old); gave = λ n low. absurd (omega (arith, low)) };
    right = λ image count front. subst (λ r. IsRight h image opens r) (sym none) (right_empty h image opens empty);
  }

  -- one block more
  pub given_more : (now new : S) (n : ℕ) (salted : Salted) (digest : List ℕ) (opens opens' : List Open) (top top' : Option (List ℕ))
      (one : IsOfGiven facts salted (length (facts.given old)) n new digest) → facts.size new ≡ facts.size old
      → GoesOn (facts.given now) (facts.given new) → n < all
      → ((image : List (List ℕ)) → length image ≡ all → get_or image n [] ≡ one.block → IsRight h image opens top
      → IsRight h image opens' top')
      → IsGivenTo facts old now h all n opens top → IsGivenTo facts old new h all (n + 1) opens' top'
  given_more now new n salted digest opens opens' top top' one size on low then d = record {
    made = d.made ++ one.block ∷ [];
    len = whole;
    given = record {
      sized = All-push (λ block. length block ≡ facts.size old) d.made one.block d.given.sized (one.sized ∙ size);
      gave = λ q below. elim (cases_lt q n) [
        | inl before ↦
            let inside : q < length d.made = omega (arith, before, d.len) in
            subst (λ y. GaveSince (facts.given new) (length (facts.given old)) q y)
            (sym (get_or_append_left d.made (one.block ∷ []) [] q inside))
            (since_on (facts.given now) (facts.given new) on (length (facts.given old)) q (get_or d.made q []) (d.given.gave q inside))
        | inr from ↦
            let same : n ≡ q = omega (arith, from, below, whole) in
            subst (λ m. GaveSince (facts.given new) (length (facts.given old)) m (get_or (d.made ++ one.block ∷ []) m [])) same
            (subst (λ y. GaveSince (facts.given new) (length (facts.given old)) n y) (sym (get_or_push d.made one.block [] n d.len))
            one.gave)
      ];
    };
    right = λ image count front.
        let before : take n image ≡ d.made =
        sym (take-take n (n + 1) image (omega arith)) ∙ ap (λ xs. take n xs) front
        ∙ ap (λ m. take m (d.made ++ one.block ∷ [])) (sym d.len) ∙ take-append_seam d.made (one.block ∷ []) in
        let here : get_or image n [] ≡ one.block =
        sym (get_or-take (n + 1) image n [] (omega arith)) ∙ ap (λ xs. get_or xs n []) front ∙ get_or_push d.made one.block [] n d.len in
        then image count here (d.right image count before);
  } where
    whole : length (d.made ++ one.block ∷ []) ≡ n + 1
    whole = length_push d.made one.block ∙ ap (λ m. m + 1) d.len

  -- all of it
  pub given_all : (new : S) (n : ℕ) (opens : List Open) (top : Option (List ℕ)) → n ≡ all → length (facts.content old) ≡ all
      → IsGivenTo facts old new h all n opens top
      → (image : List (List ℕ)) × IsGivenImage facts old new image × IsRight h image opens top
  given_all new n opens top whole count d = (
    d.made,
    record { blocks = d.len ∙ whole ∙ sym count; given = d.given },
    d.right d.made (d.len ∙ whole) (ap (λ m. take m d.made) (sym d.len) ∙ take-length d.made),
  )
