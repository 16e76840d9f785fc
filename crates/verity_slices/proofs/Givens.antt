-- Blocks that a store gave for numbers in a row.
use Rattle.std.proofs.Common.{◌≡◌, ℕ, ◌+◌, ◌-◌, ◌<◌, ◌≤◌, inl, inr, List, [], ◌∷◌, ◌++◌, length, get_or, sym, ap, ◌∙◌, subst, arith}
use Rattle.std.proofs.lemmas.Bool.{cases_lt}
use Rattle.std.proofs.lemmas.List.{get_or_append_left, get_or-append-add, length-append}
use Rattle.verity_store.specs.Given.{GoesOn, GaveSince}
use Rattle.verity_store.proofs.GivenLemmas.{since_on}
use Rattle.verity_store.specs.declared.store.BlockStore as store
use Rattle.verity_digest.specs.Tree.{Hashing, root}
use Rattle.verity_slices.specs.Given.{AreGivenFrom, IsRootOfGivenLevel}
use Rattle.verity_slices.proofs.Parts.{since_before}

module _ {S : Type 0} (facts : store.Ghosts S) where
  pub given_nothing : (old now : S) (first : ℕ) → AreGivenFrom facts old now first []
  given_nothing old now first = record {
    sized = λ j below. absurd (omega (arith, below));
    gave = λ j below. absurd (omega (arith, below));
  }

  -- what was given stays so
  pub given_on : (old now new : S) (first : ℕ) (blocks : List (List ℕ)) → GoesOn (facts.given now) (facts.given new)
      → AreGivenFrom facts old now first blocks → AreGivenFrom facts old new first blocks
  given_on old now new first blocks on given = record {
    sized = given.sized;
    gave = λ j below. since_on (facts.given now) (facts.given new) on (length (facts.given old)) (first + j) (get_or blocks j [])
        (given.gave j below);
  }

  -- .. and since any earlier moment
  pub given_earlier : (old now new : S) (first : ℕ) (blocks : List (List ℕ)) → length (facts.given old) ≤ length (facts.given now)
      → facts.size now ≡ facts.size old → AreGivenFrom facts now new first blocks → AreGivenFrom facts old new first blocks
  given_earlier old now new first blocks earlier size given = record {
    sized = λ j below. given.sized j below ∙ size;
    gave = λ j below. since_before (facts.given new) (length (facts.given now)) (length (facts.given old)) (first + j)
        (get_or blocks j []) earlier (given.gave j below);
  }

  -- and then others
  pub given_then : (old new : S) (first : ℕ) (blocks others : List (List ℕ)) → AreGivenFrom facts old new first blocks
      → AreGivenFrom facts old new (first + length blocks) others → AreGivenFrom facts old new first (blocks ++ others)
  given_then old new first blocks others given more = record {
    sized = λ j below. elim (cases_lt j (length blocks)) [
      | inl early ↦ ap length (get_or_append_left blocks others [] j early) ∙ given.sized j early
      | inr late ↦ ap length (other j late) ∙ more.sized (j - length blocks) (omega (arith, late, below, length-append blocks others))
    ];
    gave = λ j below. elim (cases_lt j (length blocks)) [
      | inl early ↦
          subst (λ y. GaveSince (facts.given new) (length (facts.given old)) (first + j) y)
          (sym (get_or_append_left blocks others [] j early)) (given.gave j early)
      | inr late ↦
          let at : first + length blocks + (j - length blocks) ≡ first + j = omega (arith, late) in
          subst (λ y. GaveSince (facts.given new) (length (facts.given old)) (first + j) y) (sym (other j late))
          (subst (λ m. GaveSince (facts.given new) (length (facts.given old)) m (get_or others (j - length blocks) [])) at
          (more.gave (j - length blocks) (omega (arith, late, below, length-append blocks others))))
    ];
  } where
    other : (j : ℕ) → length blocks ≤ j → get_or (blocks ++ others) j [] ≡ get_or others (j - length blocks) []
    other j late =
        let at : j ≡ length blocks + (j - length blocks) = omega (arith, late) in
        ap (λ m. get_or (blocks ++ others) m []) at ∙ get_or-append-add blocks others (j - length blocks) []

  -- one block
  pub given_one : (old new : S) (first : ℕ) (block : List ℕ) → length block ≡ facts.size old
      → GaveSince (facts.given new) (length (facts.given old)) first block → AreGivenFrom facts old new first (block ∷ [])
  given_one old new first block sized gave = record {
    sized = λ j below. let none : j ≡ 0 = omega (arith, below) in
        subst (λ m. length (get_or (block ∷ []) m []) ≡ facts.size old) (sym none) sized;
    gave = λ j below.
        let none : j ≡ 0 = omega (arith, below) in
        let at : first ≡ first + 0 = omega arith in
        subst (λ m. GaveSince (facts.given new) (length (facts.given old)) (first + m) (get_or (block ∷ []) m [])) (sym none)
        (subst (λ m. GaveSince (facts.given new) (length (facts.given old)) m block) at gave);
  }

-- a root hash of a level that was given since an earlier moment too
pub root_earlier : {S : Type 0} (facts : store.Ghosts S) (old now new : S) (first first' count count' : ℕ) (h h' : Hashing)
    (digest : List ℕ) → facts.given now ≡ facts.given old → facts.size now ≡ facts.size old → first ≡ first' → count ≡ count'
    → h ≡ h' → IsRootOfGivenLevel facts now new first count h digest → IsRootOfGivenLevel facts old new first' count' h' digest
root_earlier facts old now new first first' count count' h h' digest same size firsts counts hashes x = record {
  level = x.level;
  len = x.len ∙ counts;
  given = subst (λ n. AreGivenFrom facts old new n x.level) firsts
      (given_earlier facts old now new first x.level (omega (arith, ap length same)) size x.given);
  is = x.is ∙ ap (λ y. root y x.level) hashes;
}
