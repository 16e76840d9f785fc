-- A report of a slice that was made, and one that was printed.
use Rattle.std.proofs.Common.{◌≡◌, ◌↔◌, ℕ, List, [], Option, Result, Ok, Err, OnOk}
use Rattle.std.specs.Prelude.{IfOk}
use Rattle.std.specs.Io.KnownBytes.{Appends}
use Rattle.verity_slice.specs.Slices.{Sliced, run_of}
use Rattle.verity_store.specs.declared.store.BlockStore as store
use Rattle.verity_superblock.specs.Line.{TableLine, Line}
use Rattle.verity_chain.specs.declared.place.Place.{Place}
use Rattle.verity_report.specs.declared.finding.Verdict.{Verdict}
use Rattle.verity_slice_report.specs.Sliced.{IsSliceReport}
use Rattle.cli_arguments.specs.Slices.{NamesSlice}
use Rattle.cli_serve.specs.Printed.{report_lines}
use Rattle.cli_serve.specs.Sliced.{IsSliceFound, IsSlicePrinted}

module _ {D H : Type 0} (data_facts : store.Ghosts D) (hash_facts : store.Ghosts H) where
  pub found : {R E : Type 0} (text : List ℕ) (slice : Sliced) (are_there : TableLine → D → H → Type 0)
      (faults : R → List (Place × Verdict)) (unchecked : R → ℕ) (r : Result R E) (table : TableLine) (image : D) (device : H)
      → Line text table → are_there table image device
      → IfOk r (λ report. IsSliceReport data_facts hash_facts table (run_of slice table.data_blocks) image device (faults report)
      (unchecked report))
      → IfOk r (λ report. IsSliceFound data_facts hash_facts text slice are_there (faults report) (unchecked report))
  found text slice are_there faults unchecked (Ok report) table image device parsed there made = record {
    table = table;
    image = image;
    device = device;
    parsed = parsed;
    there = there;
    reported = made;
  }
  found text slice are_there faults unchecked (Err fault) table image device parsed there made = tt

  pub printed : {E : Type 0} (text asked : List ℕ) (slice : Sliced) (are_there : TableLine → D → H → Type 0) (r : Result ℕ E)
      (faults : List (Place × Verdict)) (unchecked : ℕ) (old new : Option (List ℕ)) → NamesSlice asked slice
      → IsSliceFound data_facts hash_facts text slice are_there faults unchecked
      → OnOk r (Appends old new (report_lines faults unchecked)) → IfOk r (λ status. (status ≡ 0) ↔ (faults ≡ []))
      → IfOk r (λ status. IsSlicePrinted data_facts hash_facts text asked are_there status old new)
  printed text asked slice are_there (Ok status) faults unchecked old new named found lines done = record {
    slice = slice;
    named = named;
    faults = faults;
    unchecked = unchecked;
    found = found;
    printed = lines;
    done = done;
  }
  printed text asked slice are_there (Err fault) faults unchecked old new named found lines done = tt
