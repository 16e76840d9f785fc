-- What slices that were found right say of the volume.
use Rattle.std.specs.Prelude.{ℕ, suc, ◌<◌, ◌≤◌, List, [], zero}
use Rattle.verity_slice.specs.Slices.{IsIn, run_of}
use Rattle.verity_slice.specs.declared.run.Run.{Run}
use Rattle.verity_store.specs.declared.store.BlockStore as store
use Rattle.verity_chain.specs.Table.{Table}
use Rattle.verity_chain.specs.Chain.{Given, EndsChain}
use Rattle.verity_report.specs.Stores.{given_between}
use Rattle.verity_slice_report.specs.Sliced.{IsSliceReport}

-- of each data block of the run one was given that ends a chain of given blocks
abbrev pub AreChained : Table → Given → Run → Type 0
AreChained t given run = (n : ℕ) → IsIn run n → (block : List ℕ) × EndsChain t given zero n block

-- a report of the slice `index` of `count`, over some two stores, names no place
pub record IsVerified {D H : Type 0} (data_facts : store.Ghosts D) (hash_facts : store.Ghosts H) (t : Table) (index count : ℕ)
    : Type 0 where
  pub image : D
  pub device : H
  pub unchecked : ℕ
  pub report : IsSliceReport data_facts hash_facts t (run_of (record { index = index; count = count }) t.data_blocks) image device []
      unchecked

module _ {D H : Type 0} (data_facts : store.Ghosts D) (hash_facts : store.Ghosts H) (t : Table) where
  -- what was given to it
  abbrev pub given_of : (index count : ℕ) → IsVerified data_facts hash_facts t index count → Given
  given_of index count v = given_between data_facts hash_facts t v.image v.device v.report.read.image' v.report.read.device'

  -- and to one of all slices
  abbrev pub given_in_all : (count : ℕ) → ((k : ℕ) → k < count → IsVerified data_facts hash_facts t (suc k) count) → Given
  given_in_all count each r i y = (k : ℕ) × (low : k < count) × given_of (suc k) count (each k low) r i y

-- of each data block of the volume
abbrev pub AllChained : Table → Given → Type 0
AllChained t given = (n : ℕ) → n < t.data_blocks → (block : List ℕ) × EndsChain t given zero n block
