-- Blocks of a run of level 0 as they are written, and what stays beside them.
use Rattle.std.proofs.Common.{◌≡◌, ℕ, ◌+◌, ◌<◌, ◌≤◌, ◌⊎◌, inl, inr, max, List, [], length, get_or, set, sym, ap, ◌∙◌, subst, arith}
use Rattle.std.proofs.lemmas.Bool.{cases_lt}
use Rattle.std.proofs.lemmas.List.{get_or-set_same, get_or-set_other}
use Rattle.verity_digest.specs.Tree.{Hashing}
use Rattle.verity_geometry.specs.Geometry.{Shape, start_of, total_of}
use Rattle.verity_slice.specs.declared.run.Run.{Run}
use Rattle.verity_store.specs.Blocks.{resized}
use Rattle.verity_store.specs.Given.{GoesOn}
use Rattle.verity_store.specs.declared.store.BlockStore as store
use Rattle.verity_slices.specs.Given.{IsGivenLeaf}
use Rattle.verity_slices.specs.Leaves.{GrowsBeside, KeepsOthers, WritesPart}
use Rattle.verity_slices.proofs.Givens.{given_on, given_earlier}

-- one block more of a run stands
pub run_more : (P : ℕ → List ℕ → Type 0) (start z from n : ℕ) (old new : List (List ℕ)) (block : List ℕ)
    → start + (z + n) < length old → new ≡ set old (start + (z + n)) block → P n block
    → ((i : ℕ) → from ≤ i → i < n → P i (get_or old (start + (z + i)) []))
    → (i : ℕ) → from ≤ i → i < n + 1 → P i (get_or new (start + (z + i)) [])
run_more P start z from n old new block inside is here before i low below = elim (cases_lt i n) [
  | inl early ↦
      let same : get_or new (start + (z + i)) [] ≡ get_or old (start + (z + i)) [] =
      ap (λ c. get_or c (start + (z + i)) []) is
      ∙ get_or-set_other old (start + (z + n)) (start + (z + i)) block [] (λ e. absurd (omega (arith, e, early))) in
      subst (λ b. P i b) (sym same) (before i low early)
  | inr late ↦
      let same : n ≡ i = omega (arith, late, below) in
      let put : get_or new (start + (z + n)) [] ≡ block =
      ap (λ c. get_or c (start + (z + n)) []) is ∙ get_or-set_same old (start + (z + n)) block [] inside in
      subst (λ m. P m (get_or new (start + (z + m)) [])) same (subst (λ b. P n b) (sym put) here)
]

module _ {S : Type 0} (facts : store.Ghosts S) where
  pub leaf_on : (old now new : S) (h : Hashing) (first count : ℕ) (block : List ℕ) → GoesOn (facts.given now) (facts.given new)
      → IsGivenLeaf facts old now h first count block → IsGivenLeaf facts old new h first count block
  leaf_on old now new h first count block on leaf = record {
    made = leaf.made;
    len = leaf.len;
    given = given_on facts old now new first leaf.made on leaf.given;
    is = leaf.is;
  }

  pub leaf_earlier : (old now new : S) (h : Hashing) (first count : ℕ) (block : List ℕ)
      → length (facts.given old) ≤ length (facts.given now) → facts.size now ≡ facts.size old
      → IsGivenLeaf facts now new h first count block → IsGivenLeaf facts old new h first count block
  leaf_earlier old now new h first count block earlier size leaf = record {
    made = leaf.made;
    len = leaf.len;
    given = given_earlier facts old now new first leaf.made earlier size leaf.given;
    is = leaf.is;
  }

  -- a store that was made long enough, and then written to at a run
  pub grows_written : (s : Shape) (start : ℕ) (run : Run) (old : List (List ℕ)) (mid new : S)
      → facts.content mid ≡ resized s.hash_size (max (length old) (start + total_of s)) old
      → length (facts.content mid) ≡ max (length old) (start + total_of s)
      → WritesPart facts (start + start_of s 0 + run.first) (start + start_of s 0 + run.end) mid new
      → GrowsBeside s start run old (facts.content new)
  grows_written s start run old mid new grown long writes = record {
    len = writes.len ∙ long;
    others = λ q apart. writes.others q apart ∙ ap (λ (c : List (List ℕ)). get_or c q []) grown;
  }

  pub keeps_written : (s : Shape) (start : ℕ) (run : Run) (old : List (List ℕ)) (mid new : S) → length old ≤ length (facts.content mid)
      → ((q : ℕ) → q < length old → get_or (facts.content mid) q [] ≡ get_or old q [])
      → WritesPart facts (start + start_of s 0 + run.first) (start + start_of s 0 + run.end) mid new
      → KeepsOthers s start run old (facts.content new)
  keeps_written s start run old mid new longer kept writes = record {
    len = omega (arith, longer, writes.len);
    others = λ q inside apart. writes.others q apart ∙ kept q inside;
  }
