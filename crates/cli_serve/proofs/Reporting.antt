-- A report that was made, and one that was printed.
use Rattle.std.proofs.Common.{◌≡◌, ◌↔◌, ◌+◌, ℕ, List, [], Option, Result, Ok, Err, OnOk}
use Rattle.std.specs.Prelude.{IfOk}
use Rattle.std.specs.Io.KnownBytes.{Appends}
use Rattle.verity_store.specs.declared.store.BlockStore as store
use Rattle.verity_superblock.specs.Line.{TableLine, Line}
use Rattle.verity_chain.specs.Table.{tree_len}
use Rattle.verity_chain.specs.declared.place.Place.{Place}
use Rattle.verity_report.specs.Report.{IsReportOf, IsReportGiven}
use Rattle.verity_report.specs.Stores.{given_between}
use Rattle.verity_report.specs.declared.finding.Verdict.{Verdict}
use Rattle.verity_check.specs.Verifier.{Verifying, StoresTell, IsOnlyReading, held_for}
use Rattle.cli_serve.specs.Printed.{report_lines, IsFound, IsReported, IsReportOver}

module _ {D H : Type 0} (data_facts : store.Ghosts D) (hash_facts : store.Ghosts H) where
  pub over : (old new : Verifying D H) (faults : List (Place × Verdict)) (unchecked : ℕ)
      → IsReportGiven old.table (given_between data_facts hash_facts old.table old.data_store old.hash_store new.data_store new.hash_store)
      faults unchecked (data_facts.failures old.data_store + hash_facts.failures old.hash_store)
      (data_facts.failures new.data_store + hash_facts.failures new.hash_store)
      → (StoresTell data_facts hash_facts old → IsReportOf old.table (held_for data_facts hash_facts old) faults unchecked
      (data_facts.failures old.data_store + hash_facts.failures old.hash_store)
      (data_facts.failures new.data_store + hash_facts.failures new.hash_store))
      → unchecked + (data_facts.reads new.data_store + hash_facts.reads new.hash_store)
      ≡ data_facts.reads old.data_store + hash_facts.reads old.hash_store + (tree_len old.table + old.table.data_blocks)
      → IsOnlyReading data_facts hash_facts old new
      → IsReportOver data_facts hash_facts old.table old.data_store old.hash_store faults unchecked
  over old new faults unchecked given told counted keeps = record {
    image' = new.data_store;
    device' = new.hash_store;
    image_read = keeps.data_store;
    device_read = keeps.hash_store;
    given = given;
    told = told;
    counted = counted;
  }

  pub found : {R E : Type 0} (text : List ℕ) (are_there : TableLine → D → H → Type 0) (faults : R → List (Place × Verdict))
      (unchecked : R → ℕ) (r : Result R E) (table : TableLine) (image : D) (device : H) → Line text table
      → are_there table image device
      → IfOk r (λ report. IsReportOver data_facts hash_facts table image device (faults report) (unchecked report))
      → IfOk r (λ report. IsFound data_facts hash_facts text are_there (faults report) (unchecked report))
  found text are_there faults unchecked (Ok report) table image device parsed there made = record {
    table = table;
    image = image;
    device = device;
    parsed = parsed;
    there = there;
    reported = made;
  }
  found text are_there faults unchecked (Err fault) table image device parsed there made = tt

  pub reported : {E : Type 0} (text : List ℕ) (are_there : TableLine → D → H → Type 0) (r : Result ℕ E)
      (faults : List (Place × Verdict)) (unchecked : ℕ) (old new : Option (List ℕ))
      → IsFound data_facts hash_facts text are_there faults unchecked
      → OnOk r (Appends old new (report_lines faults unchecked)) → IfOk r (λ status. (status ≡ 0) ↔ (faults ≡ []))
      → IfOk r (λ status. IsReported data_facts hash_facts text are_there status old new)
  reported text are_there (Ok status) faults unchecked old new found printed done = record {
    faults = faults;
    unchecked = unchecked;
    found = found;
    printed = printed;
    done = done;
  }
  reported text are_there (Err fault) faults unchecked old new found printed done = tt
