-- Along all blocks over the volume of an old line.
use Rattle.std.proofs.Common.{suc, zero, ℕ, ◌+◌, ◌/◌, ◌<◌, ◌≤◌, ◌≡◌, ◌⊎◌, List}
use Rattle.std.proofs.Common.{[], get_or, inl, inr, ⊎_elim, refl, sym, ap, subst, ◌∙◌, arith}
use Rattle.std.proofs.lemmas.Bool.{cases_lt}
use Rattle.verity_store.specs.declared.store.BlockStore as store
use Rattle.verity_chain.specs.Table.{Table, IsTable, hashing_of, branching, height, row_len, hash_place, path_index}
use Rattle.verity_chain.specs.Chain.{Given, EndsChain}
use Rattle.verity_chain.specs.Stores.{hash_given}
use Rattle.verity_chain.specs.declared.place.Place.{Place}
use Rattle.verity_chain.proofs.ChainLemmas.{Grows, Names-grows, chain_here, wrong_here}
use Rattle.verity_chain.proofs.TableLaws.{path_index-suc, path_below}
use Rattle.verity_report.specs.Descent.{Known, known, seen_in}
use Rattle.verity_pull.specs.Walk.{IsTaken, IsVouched, IsHashMixed, IsWrongAt, IsWrongBelow}
use Rattle.verity_pull.specs.Pull.{Marks, pull_given, source_given}
use Rattle.verity_pull.specs.Over.{rooted, IsFollowed, IsOnPath, IsAlike, IsKeptBelow, IsKeptData, IsSettled, AreEnds}
use Rattle.verity_pull.proofs.VouchLemmas.{hash_into, hash_into_source, vouched_stays}
use Rattle.verity_pull.proofs.OverLemmas.{named_by_ends, alike_grows, alike_below, path_from, vouched_on_path}

-- the rows of hash blocks stay
pub followed_rows : {K : Type 0} (facts : store.Ghosts K) (t : Table) (root : List ℕ) (given was : Given) (k : K)
    (rows rows' olds : List Known) → ((v : ℕ) → known rows' (suc v) ≡ known rows (suc v)) → IsFollowed facts t root given was k rows olds
    → IsFollowed facts t root given was k rows' olds
followed_rows facts t root given was k rows rows' olds same f = record {
  path = λ v i low e. subst (λ (x : Known). EndsChain t given (suc v) i x.block) (sym (same v))
      (f.path v i low (ap (λ (x : Known). x.seen) (sym (same v)) ∙ e));
  held = λ v i low lt e told. f.held v i low lt (ap (λ (x : Known). x.seen) (sym (same v)) ∙ e) told
      ∙ ap (λ (x : Known). x.block) (sym (same v));
  old = f.old;
}

-- what is settled stays so
pub settled_stays : {L : Type 0} (facts : store.Ghosts L) (t : Table) (root : List ℕ) (given more was later : Given) → Grows given more
    → Grows was later → (r i number : ℕ) (old old' : List (List ℕ)) (l l' : L) → facts.tells l' ≡ facts.tells l
    → get_or (facts.content l') number [] ≡ get_or (facts.content l) number [] → get_or old number [] ≡ get_or old' number []
    → IsSettled facts t root given was r i number old l → IsSettled facts t root more later r i number old' l'
settled_stays facts t root given more was later grows grown r i number old old' l l' tells same since settled = ⊎_elim
    (λ vouched. inl (vouched_stays facts t given more grows r i number l l' tells same vouched))
    (λ alike. inr (alike_grows t root given more was later grows grown r i alike.0, same ∙ alike.1 ∙ since))
    settled

-- the way down to a data block whose path is that of data block n
pub way_done : {K : Type 0} (facts : store.Ghosts K) (t : Table) → IsTable t → (root : List ℕ) (given was : Given) (k : K)
    (rows olds : List Known) → IsFollowed facts t root given was k rows olds → (n j v : ℕ) → n < t.data_blocks → v < height t
    → seen_in rows (suc v) ≡ suc (path_index t n (suc v)) → path_index t j (suc v) ≡ path_index t n (suc v)
    → IsVouched facts t given (suc v) (path_index t j (suc v)) (hash_place t v (path_index t j (suc v))) k
way_done facts t ok root given was k rows olds f n j v low vlow seen same =
    subst (λ i. IsVouched facts t given (suc v) i (hash_place t v i) k) (sym same)
    (vouched_on_path facts t ok root given was k rows olds f n v low vlow seen)

-- what is kept is alike, and what is above it is vouched for
pub kept_done : {K : Type 0} (facts : store.Ghosts K) (t : Table) → IsTable t → (root : List ℕ) (given was : Given) (k : K)
    (rows olds : List Known) → IsFollowed facts t root given was k rows olds → (n next j v : ℕ) → n < t.data_blocks
    → IsKeptBelow t root given was n next rows → n ≤ j → j < next → v < height t
    → IsVouched facts t given (suc v) (path_index t j (suc v)) (hash_place t v (path_index t j (suc v))) k
    ⊎ IsAlike t root given was (suc v) (path_index t j (suc v))
kept_done facts t ok root given was k rows olds f n next j v low kept from upto vlow = elim (cases_lt v kept.row) [
  | inl under ↦ inr (alike_below t root given was n next kept.row j (suc v) kept.to from upto (omega (arith, under)))
  | inr over ↦ inl (way_done facts t ok root given was k rows olds f n j v low vlow (kept.on v (omega (arith, over)) vlow)
      (path_from t j n kept.row (suc v) (omega (arith, over)) (kept.to.span j from upto)))
]

-- data blocks with one parent have one path
pub path_same : (t : Table) (n j : ℕ) (rows : List Known) → IsOnPath t n 0 rows
    → (0 < height t → seen_in rows 1 ≡ suc (j / branching t)) → (v : ℕ) → v < height t → path_index t j (suc v) ≡ path_index t n (suc v)
path_same t n j rows on parent v vlow =
    let some : 0 < height t = omega (arith, vlow) in
    let seen : seen_in rows 1 ≡ suc (path_index t n 1) = on 0 (omega arith) some in
    let first : path_index t j 1 ≡ path_index t n 1 =
    path_index-suc t j 0 ∙ omega (arith, parent some, seen) in
    path_from t j n 1 (suc v) (omega arith) first

module _ {L S H : Type 0} (local_facts : store.Ghosts L) (data_facts : store.Ghosts S) (hash_facts : store.Ghosts H) (t : Table)
    (marks : Marks) (root : List ℕ) (was : Given) (rows : List Known) where
  -- a data block that was taken ends a chain
  pub vouch_by : (l : L) (s : S) (h : H) (j : ℕ) → AreEnds t (hash_given hash_facts t marks.of_hash h) rows
      → (0 < height t → seen_in rows 1 ≡ suc (j / branching t))
      → IsTaken local_facts data_facts t marks.of_local marks.of_data l s rows j
      → IsVouched local_facts t (pull_given local_facts data_facts hash_facts t marks l s h) 0 j j l
  vouch_by l s h j ends parent taken =
      let given = pull_given local_facts data_facts hash_facts t marks l s h in
      let y : List ℕ = taken.y in
      let d : List ℕ = (hashing_of t).digest y in
      record {
        y = y;
        chain =
            chain_here t given 0 j d y
            (Names-grows t (hash_given hash_facts t marks.of_hash h) given (hash_into local_facts data_facts hash_facts t marks l s h) 0 j d
            (named_by_ends t (hash_given hash_facts t marks.of_hash h) rows 0 j d (omega arith) ends parent taken.name)) taken.came refl;
        held = taken.held;
      }

  -- one that both lines name alike
  pub alike_by : (l : L) (s : S) (h : H) (olds : List Known) (old new : List (List ℕ)) (j : ℕ)
      → AreEnds t (hash_given hash_facts t marks.of_hash h) rows
      → AreEnds (rooted t root) was olds → (0 < height t → seen_in rows 1 ≡ suc (j / branching t))
      → IsKeptData t root rows olds old new j
      → IsAlike t root (pull_given local_facts data_facts hash_facts t marks l s h) was 0 j
  alike_by l s h olds old new j ends old_ends parent kept =
      let given = pull_given local_facts data_facts hash_facts t marks l s h in
      record {
        rows = 0;
        names = record {
          digest = kept.digest;
          new = Names-grows t (hash_given hash_facts t marks.of_hash h) given
              (hash_into local_facts data_facts hash_facts t marks l s h) 0 j
              kept.digest
              (named_by_ends t (hash_given hash_facts t marks.of_hash h) rows 0 j kept.digest (omega arith) ends parent kept.new_name);
          old = named_by_ends (rooted t root) was olds 0 j kept.digest (omega arith) old_ends kept.old_name.parent kept.old_name.name;
        };
      }

  -- one that is wrong
  pub wrong_by_ends : (s : S) (h : H) (here : Place) → AreEnds t (hash_given hash_facts t marks.of_hash h) rows
      → IsWrongBelow data_facts t marks.of_data s rows here → IsWrongAt t (source_given data_facts hash_facts t marks s h) here
  wrong_by_ends s h here ends w =
      let given = source_given data_facts hash_facts t marks s h in
      let m : ℕ = w.m in
      let digest : List ℕ = w.wrong.digest in
      subst (λ x. IsWrongAt t given x) (sym w.is) (
        w.low,
        wrong_here t given 0 m digest w.wrong.y
            (Names-grows t (hash_given hash_facts t marks.of_hash h) given (hash_into_source data_facts hash_facts t marks s h) 0 m digest
            (named_by_ends t (hash_given hash_facts t marks.of_hash h) rows 0 m digest (omega arith) ends w.parent w.wrong.name))
            w.wrong.came w.wrong.differs,
      )
