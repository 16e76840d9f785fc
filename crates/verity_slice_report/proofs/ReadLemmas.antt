-- What a report over portions of two stores says of the stores.
use Rattle.std.proofs.Common.{ℕ, zero, suc, ◌+◌, ◌<◌, ◌≤◌, ◌≡◌, Bool, true, false, List, [], ◌∷◌, length, sym, ap, ◌∙◌, subst, arith, refl}
use Rattle.std.specs.Prelude.{slice_index_or}
use Rattle.verity_slice.specs.Slices.{IsIn}
use Rattle.verity_slice.specs.declared.run.Run.{Run}
use Rattle.verity_store.specs.Given.{GaveSince}
use Rattle.verity_store.specs.Stores.{IsOnlyRead}
use Rattle.verity_store.specs.declared.store.BlockStore as store
use Rattle.verity_store.proofs.GivenLemmas.{since_all}
use Rattle.verity_portion.specs.Portion.{IsShown, facts_of, Portioned, IsPortionSince}
use Rattle.verity_chain.specs.Table.{Table, IsTable, height, row_len, hash_place}
use Rattle.verity_chain.specs.Chain.{Given, given_by}
use Rattle.verity_chain.specs.Stores.{Gave}
use Rattle.verity_chain.specs.declared.place.Place.{Place}
use Rattle.verity_report.specs.declared.finding.Verdict.{Verdict}
use Rattle.verity_report.specs.Finding.{IsChecked, finding}
use Rattle.verity_report.specs.Stores.{given_between}
use Rattle.verity_report.specs.Report.{IsReportGiven}
use Rattle.verity_slice_report.specs.Sliced.{IsOfSlice, IsSliceRead}
use Rattle.verity_slice_report.specs.Runs.{runs_above}
use Rattle.verity_slice_report.proofs.RunLemmas.{in_one, one_in, shown_above, above_shown}

-- what a portion gave behind the first `mark` blocks
abbrev pub GaveFrom : {S : Type 0} → store.Ghosts S → ℕ → Portioned S → ℕ → List ℕ → Type 0
GaveFrom facts mark p n block = GaveSince p.given mark n block × (length block ≡ facts.size p.store)
    × (false ≡ true → slice_index_or (facts.content p.store) n [] ≡ block)

-- and since it was made
abbrev pub GaveShown : {S : Type 0} → store.Ghosts S → Portioned S → ℕ → List ℕ → Type 0
GaveShown facts p n block = GaveFrom facts 0 p n block

-- of a block that is shown the store below gave it
pub gave_below : {S : Type 0} (facts : store.Ghosts S) (s : S) (p : Portioned S) → IsPortionSince facts (facts_of facts s) p
    → facts.changes p.store ≡ facts.changes s → (n : ℕ) (block : List ℕ) → IsShown p.runs n → GaveShown facts p n block
    → Gave facts (length (facts.given s)) p.store n block
gave_below facts s p is changes n block shows gave =
    let has = since_all p.given 0 n block gave.0 in
    (is.shown n block has shows, gave.1, is.own changes n block has shows)

module _ {D H : Type 0} (of_data : store.Ghosts D) (of_hash : store.Ghosts H) (t : Table) (ok : IsTable t) (run : Run) (image : D)
    (device : H) (d : Portioned D) (h : Portioned H) (d_is : IsPortionSince of_data (facts_of of_data image) d)
    (h_is : IsPortionSince of_hash (facts_of of_hash device) h) (d_runs : d.runs ≡ run ∷ []) (h_runs : h.runs ≡ runs_above t run)
    (d_read : IsOnlyRead of_data image d.store) (h_read : IsOnlyRead of_hash device h.store) where
  -- what the two portions gave at the places of the volume
  abbrev pub shown_given : Given
  shown_given = given_by t (GaveShown of_data d) (GaveShown of_hash h)

  at_place : (r i : ℕ) → r ≤ height t → IsOfSlice t run r i → (block : List ℕ) → shown_given r i block
      → given_between of_data of_hash t image device d.store h.store r i block
  at_place zero i row is block gave =
      gave_below of_data image d d_is d_read.changes i block
      (subst (λ runs. IsShown runs i) (sym d_runs) (one_in run i (subst (λ n. IsIn run n) is.2 is.1))) gave
  at_place (suc l) i row is block gave =
      gave_below of_hash device h h_is h_read.changes (hash_place t l i) block
      (subst (λ runs. IsShown runs (hash_place t l i)) (sym h_runs) (shown_above t ok run l i (omega (arith, row)) is)) gave

  pub slice_read : (all : List (Place × Verdict)) (unchecked : ℕ) → IsReportGiven t shown_given all unchecked
      (of_data.failures image + of_hash.failures device) (of_data.failures d.store + of_hash.failures h.store)
      → IsSliceRead of_data of_hash t run image device all
  slice_read all unchecked report = record {
    image' = d.store;
    device' = h.store;
    image_read = d_read;
    device_read = h_read;
    blocks = report.blocks;
    failed = report.report.failed;
    count = report.report.count;
    all_are = report.report.faults_are;
    gave = λ r i row low is checked. at_place r i row is (report.blocks r i) (report.gave r i row low checked);
    data_within = λ n block gave. in_one run n (subst (λ runs. IsShown runs n) d_runs (d_is.within n block gave));
    hash_within = λ n block gave. (let at = above_shown t ok run n (subst (λ runs. IsShown runs n) h_runs (h_is.within n block gave)) in
        (at.0, at.1, at.2, at.3, at.4));
  }
