-- Notes that begin anew, and what the image's own tree names.
use Rattle.std.proofs.Common.{ℕ, suc, ◌/◌, ◌%◌, ◌<◌, ◌≡◌, ◌⊎◌, List, [], ◌∷◌, length, sym, ap, ◌∙◌, subst}
use Rattle.std.proofs.Common.{inl, inr, ⊎_elim, arith}
use Rattle.verity_digest.specs.Tree.{slot}
use Rattle.verity_digest.proofs.Rows.{slot-row, root-row}
use Rattle.verity_store.specs.declared.store.BlockStore as store
use Rattle.verity_chain.specs.Table.{Table, IsTable, hashing_of, branching, height, row_len}
use Rattle.verity_chain.specs.Chain.{Given, AreSized, Above, Names, named}
use Rattle.verity_chain.specs.Right.{Fits, own, Clash}
use Rattle.verity_chain.specs.Notes.{Note, AreChecked, WereGiven}
use Rattle.verity_chain.proofs.ChainLaw.{parent_below, own_or_clash}
use Rattle.verity_chain.proofs.TableLaws.{is_hashing, some_block, top_index, length-own_row}

-- no note, or the same notes
pub checked_bounded : (t : Table) (old new : List Note) → (new ≡ old) ⊎ (new ≡ []) → AreChecked t old → AreChecked t new
checked_bounded t old new bound checked =
    ⊎_elim (λ same. subst (AreChecked t) (sym same) checked)
    (λ none. subst (AreChecked t) (sym none) (λ note has. absurd (omega (arith, has.1)))) bound

pub given_bounded : {H : Type 0} (hash : store.Ghosts H) (mark : ℕ) (h : H) (old new : List Note) → (new ≡ old) ⊎ (new ≡ []) →
    WereGiven hash mark h old → WereGiven hash mark h new
given_bounded hash mark h old new bound given =
    ⊎_elim (λ same. subst (WereGiven hash mark h) (sym same) given)
    (λ none. subst (WereGiven hash mark h) (sym none) (λ note has. absurd (omega (arith, has.1)))) bound

module _ (t : Table) (image : List (List ℕ)) (ok : IsTable t) (fits : Fits t image) where
  -- the image's own block names the digest of the block below it
  own_named : (r i : ℕ) → i < row_len t r → slot (hashing_of t) (own t image (suc r) (i / branching t)) (i % branching t) ≡
      (hashing_of t).digest (own t image r i)
  own_named r i below = slot-row (hashing_of t) image r i (is_hashing t ok) (omega (arith, length-own_row t ok image fits r))

  -- the root is the digest of the image's top block
  own_root : (r i : ℕ) → r ≡ height t → i < row_len t r → t.root ≡ (hashing_of t).digest (own t image r i)
  own_root r i top below =
      let some : 0 < length image = omega (arith, fits.blocks, some_block t ok) in
      sym fits.root ∙ root-row (hashing_of t) image (is_hashing t ok).branching some
      ∙ ap (λ n. (hashing_of t).digest (own t image (height (record t { data_blocks = n })) 0)) fits.blocks
      ∙ ap (λ j. (hashing_of t).digest (own t image (height t) j)) (sym (top_index t ok r i top below))
      ∙ ap (λ j. (hashing_of t).digest (own t image j i)) (sym top)

  -- a digest that is named is that of the image's own block, or there is a clash
  by_above : (given : Given) → AreSized t given → (r i : ℕ) (d : List ℕ) (above : List (List ℕ)) → i < row_len t r
      → Above t given r i above → d ≡ named t i above → (d ≡ (hashing_of t).digest (own t image r i)) ⊎ Clash t given image
  by_above given sized r i d [] below a is = inl (is ∙ own_root r i a below)
  by_above given sized r i d (p ∷ above) below a is =
      ⊎_elim (λ parent. inl (is ∙ ap (λ b. slot (hashing_of t) b (i % branching t)) parent ∙ own_named r i below)) inr
      (own_or_clash t image ok fits given sized (suc r) (i / branching t) above p (parent_below t ok r i below) a.1 a.0)

  pub names_own : (given : Given) → AreSized t given → (r i : ℕ) (d : List ℕ) → i < row_len t r → Names t given r i d
      → (d ≡ (hashing_of t).digest (own t image r i)) ⊎ Clash t given image
  names_own given sized r i d below n = by_above given sized r i d n.above below n.above_it n.is
