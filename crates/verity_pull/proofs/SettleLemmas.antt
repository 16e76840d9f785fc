-- Data blocks over the volume of an old line.
use Rattle.std.proofs.Common.{suc, zero, ℕ, ◌+◌, ◌/◌, ◌<◌, ◌≤◌, ◌≡◌, ◌≢◌, ◌⊎◌, true, List, [], length, get_or}
use Rattle.std.proofs.Common.{inl, inr, ⊎_elim, refl, sym, ap, subst, ◌∙◌, arith}
use Rattle.std.proofs.Common.{Result, Ok, Err, IfOk}
use Rattle.verity_store.specs.declared.store.BlockStore as store
use Rattle.verity_digest.proofs.Counts.{row_len-zero}
use Rattle.verity_chain.specs.Table.{Table, branching, height}
use Rattle.verity_chain.specs.declared.place.Place.{Place}
use Rattle.verity_chain.proofs.TableLaws.{path_index-suc}
use Rattle.verity_report.specs.Descent.{Known, known, seen_in, AreRows, IsDownTo}
use Rattle.verity_pull.specs.Walk.{IsName, IsTaken, IsMixedIn, IsWrongIn, IsWrongBelow}
use Rattle.verity_pull.specs.Over.{rooted, IsOldName, IsOnPath, IsKeptData}
use Rattle.verity_pull.proofs.OverLemmas.{name_rows}

-- the parent of the data block that comes next
pub parent_one : (t : Table) (n j : ℕ) (rows : List Known) → IsOnPath t n 0 rows → n ≤ j → j < n + 1 → 0 < height t
    → seen_in rows 1 ≡ suc (j / branching t)
parent_one t n j rows on from upto some =
    let same : n ≡ j = omega (arith, from, upto) in
    on 0 (omega arith) some ∙ ap (λ i. suc i) (path_index-suc t n 0) ∙ ap (λ i. suc (i / branching t)) same

module _ (t : Table) (n : ℕ) (rows rows' : List Known) (len : length rows' ≡ length rows) (first : seen_in rows' 0 ≡ n)
    (others : (q : ℕ) → q ≢ 0 → known rows' q ≡ known rows q) where
  pub above_same : (v : ℕ) → known rows' (suc v) ≡ known rows (suc v)
  above_same v = others (suc v) (λ z. omega (arith, z))

  -- the rows stand at the next data block
  pub stood_rows : AreRows t rows → AreRows t rows'
  stood_rows r = record {
    len = len ∙ r.len;
    whole = λ l low. ap (λ (k : Known). length k.block) (above_same l) ∙ r.whole l low;
  }

  pub stood_path : IsOnPath t n 0 rows → IsDownTo t n 0 rows'
  stood_path on = record {
    on = λ l low lt. ap (λ (k : Known). k.seen) (above_same l) ∙ on l low lt;
    before = λ r low.
        let z : r ≡ 0 = omega (arith, low) in
        subst (λ q. seen_in rows' q ≡ Rattle.verity_digest.specs.Shape.row_len (branching t) n q) (sym z)
        (first ∙ sym (row_len-zero (branching t) n));
  }

-- the rows of hash blocks say from where a block was taken
pub taken_by : {L S : Type 0} (local_facts : store.Ghosts L) (source_facts : store.Ghosts S) (t : Table) (local_mark source_mark : ℕ)
    (l : L) (s : S) (rows rows' : List Known) → ((v : ℕ) → known rows' (suc v) ≡ known rows (suc v)) → (n : ℕ)
    → IsTaken local_facts source_facts t local_mark source_mark l s rows' n
    → IsTaken local_facts source_facts t local_mark source_mark l s rows n
taken_by local_facts source_facts t local_mark source_mark l s rows rows' same n taken = record {
  y = taken.y;
  came = taken.came;
  name = name_rows t rows rows' same 0 n _ taken.name;
  held = taken.held;
}

pub mixed_by : {L S : Type 0} (local_facts : store.Ghosts L) (source_facts : store.Ghosts S) (t : Table) (local_mark source_mark : ℕ)
    (l l' : L) (s : S) (rows rows' : List Known) → ((v : ℕ) → known rows' (suc v) ≡ known rows (suc v)) → (n : ℕ)
    → IsMixedIn local_facts source_facts t local_mark source_mark l l' s rows' n
    → IsMixedIn local_facts source_facts t local_mark source_mark l l' s rows n
mixed_by local_facts source_facts t local_mark source_mark l l' s rows rows' same n mixed = ⊎_elim inl
    (λ taken. inr (
      taken_by local_facts source_facts t local_mark source_mark l' s rows rows' same n taken.0,
      λ some. ap (λ (k : Known). k.seen) (sym (same 0)) ∙ taken.1 some,
    ))
    mixed

pub wrong_by : {S : Type 0} (facts : store.Ghosts S) (t : Table) (mark : ℕ) (s : S) (rows rows' : List Known)
    → ((v : ℕ) → known rows' (suc v) ≡ known rows (suc v)) → (here : Place) → IsWrongBelow facts t mark s rows' here
    → IsWrongBelow facts t mark s rows here
wrong_by facts t mark s rows rows' same here w = record {
  m = w.m;
  is = w.is;
  low = w.low;
  parent = λ some. ap (λ (k : Known). k.seen) (sym (same 0)) ∙ w.parent some;
  wrong = record {
    y = w.wrong.y;
    digest = w.wrong.digest;
    came = w.wrong.came;
    name = name_rows t rows rows' same 0 w.m w.wrong.digest w.wrong.name;
    differs = w.wrong.differs;
  };
}

-- both lines name the digest of the block that comes next, which is what it was
pub kept_one : (t : Table) (root : List ℕ) (rows olds : List Known) (old new : List (List ℕ)) (n j : ℕ) (digest was : List ℕ) → n ≤ j
    → j < n + 1 → IsName t 0 n rows digest → IsOldName (rooted t root) 0 n olds was → was ≡ digest → get_or new n [] ≡ get_or old n []
    → IsKeptData t root rows olds old new j
kept_one t root rows olds old new n j digest was from upto new_name old_name is stays =
    let same : n ≡ j = omega (arith, from, upto) in
    subst (λ m. IsKeptData t root rows olds old new m) same (record {
      digest = digest;
      new_name = new_name;
      old_name = subst (λ d. IsOldName (rooted t root) 0 n olds d) is old_name;
      same = stays;
    })

-- a fact of what an answer holds
pub ok_weaker : {T E : Type 0} (r : Result T E) (P Q : T → Type 0) → ((x : T) → P x → Q x) → IfOk r P → IfOk r Q
ok_weaker (Ok x) P Q f p = f x p
ok_weaker (Err e) P Q f p = tt

-- the block that comes next, where it is wrong
pub wrong_one : {S : Type 0} (facts : store.Ghosts S) (t : Table) (mark : ℕ) (s : S) (rows : List Known) (n : ℕ) (here : Place)
    → n < t.data_blocks → IsOnPath t n 0 rows → IsWrongIn facts t mark s rows n 1 here → IsWrongBelow facts t mark s rows here
wrong_one facts t mark s rows n here low on w = record {
  m = w.m;
  is = w.is;
  low = omega (arith, w.from, w.upto, low);
  parent = λ some. parent_one t n w.m rows on w.from w.upto some;
  wrong = w.wrong;
}
