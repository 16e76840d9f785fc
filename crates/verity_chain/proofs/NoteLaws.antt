-- Blocks that were read and checked under a table line that is the image's are the image's own, or there is a clash.
use Rattle.std.proofs.Common.{ℕ, zero, suc, ◌<◌, ◌≤◌, ◌≡◌, ◌⊎◌, List, [], length, get_or, Contains}
use Rattle.std.proofs.Common.{sym, ap, ◌∙◌, subst, inl, inr, ⊎_elim, arith}
use Rattle.std.proofs.lemmas.List.Elements.{Contains-get_or}
use Rattle.std.proofs.lemmas.List.{get_or_default}
use Rattle.std.proofs.lemmas.Bool.{cases_lt}
use Rattle.verity_digest.proofs.Counts.{starts_in_order}
use Rattle.verity_chain.specs.Table.{Table, IsTable, branching, height, row_len, hash_place}
use Rattle.verity_chain.specs.Chain.{AreSized}
use Rattle.verity_chain.specs.Right.{Fits, own, Clash}
use Rattle.verity_chain.specs.Notes.{Note, noted, IsNoteOf, AreChecked, AreOwn}
use Rattle.verity_chain.proofs.ChainLaw.{own_or_clash}

-- one place has one number
level_before : (t : Table) (l m i j : ℕ) → l < m → m < height t → j < row_len t (suc m) → hash_place t l i ≡ hash_place t m j → ⊥
level_before t l m i j less there inside same =
    let order = starts_in_order (branching t) t.data_blocks l m less there in
    absurd (omega arith)

pub same_level : (t : Table) (l m i j : ℕ) → l < height t → m < height t → i < row_len t (suc l) → j < row_len t (suc m) →
    hash_place t l i ≡ hash_place t m j → l ≡ m
same_level t l m i j a b inside inside2 same =
    ⊎_elim (λ less. absurd (level_before t l m i j less b inside2 same))
    (λ no. ⊎_elim (λ less. absurd (level_before t m l j i less a inside (sym same))) (λ no2. omega arith) (cases_lt m l))
    (cases_lt l m)

pub same_index : (t : Table) (l m i j : ℕ) → l ≡ m → hash_place t l i ≡ hash_place t m j → i ≡ j
same_index t l m i j is same =
    let at : hash_place t l i ≡ hash_place t l j = same ∙ ap (λ n. hash_place t n j) (sym is) in
    omega arith

-- the block size of what is noted
pub noted_sized : (t : Table) (notes : List Note) → ((note : Note) → Contains notes note → length note.block ≡ t.hash_block_size) →
    AreSized t (noted t notes)
noted_sized t notes sized = record {
  data_blocks = λ i y gave. absurd gave;
  hash_blocks = λ l i y gave. sized (record { number = hash_place t l i; block = y }) gave;
}

-- what was checked is the image's own, or there is a clash
module _ (t : Table) (image : List (List ℕ)) (ok : IsTable t) (fits : Fits t image) (notes : List Note) (checked : AreChecked t notes) where
  one_own : (note : Note) → Contains notes note → ((l : ℕ) × (i : ℕ) × IsNoteOf t l i note × (note.block ≡ own t image (suc l) i)) ⊎
      Clash t (noted t notes) image
  one_own note has =
      let found = checked note has in
      let sized = noted_sized t notes (λ n h. (checked n h).2.sized) in
      ⊎_elim
      (λ is. inl (found.0, found.1, found.2, is))
      inr
      (own_or_clash t image ok fits (noted t notes) sized (suc found.0) found.1 found.3.0 note.block found.2.index
      found.3.1.above_it found.3.1.link)

  first_own : (m : ℕ) → m ≤ length notes →
      ((c : ℕ) → c < m → (l : ℕ) × (i : ℕ) × IsNoteOf t l i (get_or notes c (record { number = 0; block = [] })) ×
      (get_or notes c (record { number = 0; block = [] })).block ≡ own t image (suc l) i)
      ⊎ Clash t (noted t notes) image
  first_own zero le = inl (λ c below. absurd (omega arith))
  first_own (suc m) le =
      let none : Note = record { number = 0; block = [] } in
      ⊎_elim
      (λ before. ⊎_elim
      (λ here. inl (λ c below. ⊎_elim (λ less. before c less)
      (λ no. let at : m ≡ c = omega arith in
      subst (λ n. (l : ℕ) × (i : ℕ) × IsNoteOf t l i (get_or notes n none) × (get_or notes n none).block ≡ own t image (suc l) i) at here)
      (cases_lt c m)))
      inr
      (one_own (get_or notes m none) (Contains-get_or notes m none (omega arith))))
      inr
      (first_own m (omega arith))

  pub own_or_clashes : AreOwn t image notes ⊎ Clash t (noted t notes) image
  own_or_clashes =
      let none : Note = record { number = 0; block = [] } in
      ⊎_elim
      (λ all. inl (λ note has.
      let is : get_or notes has.0 none ≡ note = at_index notes note has in
      subst (λ n. (l : ℕ) × (i : ℕ) × IsNoteOf t l i n × (n.block ≡ own t image (suc l) i)) is (all has.0 has.1)))
      inr
      (first_own (length notes) (omega arith)) where
        at_index : (xs : List Note) (x : Note) (h : Contains xs x) → get_or xs h.0 (record { number = 0; block = [] }) ≡ x
        at_index xs x h = get_or_default xs h.0 (record { number = 0; block = [] }) x h.1 ∙ h.2
