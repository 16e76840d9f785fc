-- What `verify --slice` prints.
use Rattle.std.specs.Prelude.{◌≡◌, ◌↔◌, ℕ, List, [], Option}
use Rattle.std.specs.Io.KnownBytes.{Appends}
use Rattle.verity_slice.specs.Slices.{Sliced, run_of}
use Rattle.verity_store.specs.declared.store.BlockStore as store
use Rattle.verity_superblock.specs.Line.{TableLine, Line}
use Rattle.verity_chain.specs.declared.place.Place.{Place}
use Rattle.verity_report.specs.declared.finding.Verdict.{Verdict}
use Rattle.verity_slice_report.specs.Sliced.{IsSliceReport}
use Rattle.cli_arguments.specs.Slices.{NamesSlice}
use Rattle.cli_serve.specs.Printed.{report_lines}

module _ {D H : Type 0} (data_facts : store.Ghosts D) (hash_facts : store.Ghosts H) where
  -- these blocks are reported of a slice of the volume of a table line, in two stores of which this holds
  pub record IsSliceFound (text : List ℕ) (slice : Sliced) (are_there : TableLine → D → H → Type 0) (faults : List (Place × Verdict))
      (unchecked : ℕ) : Type 0 where
    pub table : TableLine
    pub image : D
    pub device : H
    pub parsed : Line text table
    pub there : are_there table image device
    pub reported : IsSliceReport data_facts hash_facts table (run_of slice table.data_blocks) image device faults unchecked

  -- what is printed, and the status: such a report, of the slice that the argument names; it is of no block exactly where the status is 0
  pub record IsSlicePrinted (text asked : List ℕ) (are_there : TableLine → D → H → Type 0) (status : ℕ) (old new : Option (List ℕ))
      : Type 0 where
    pub slice : Sliced
    pub named : NamesSlice asked slice
    pub faults : List (Place × Verdict)
    pub unchecked : ℕ
    pub found : IsSliceFound text slice are_there faults unchecked
    pub printed : Appends old new (report_lines faults unchecked)
    pub done : (status ≡ 0) ↔ (faults ≡ [])
