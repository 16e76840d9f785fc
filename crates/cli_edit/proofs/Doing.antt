-- A work that prints what it was to print, and blames what it may.
use Rattle.std.proofs.Common.{ℕ, List, Option, None, Some, Result, Ok, Err, IfOk, IfErr, Bor}
use Rattle.os_line_file.specs.declared.folder.LineFolder as folder
use Rattle.os_line_file.specs.declared.folder.LineFolders as folders
use Rattle.cli_faults.specs.declared.failure.Failure.{Failure}
use Rattle.cli_faults.specs.declared.failure.Failure.TheVariants as failure
use Rattle.cli_faults.specs.declared.failure.Word.{Word}
use Rattle.os_host.specs.declared.host.Host.{Host}
use Rattle.os_host.specs.declared.opening.Opened.{Opened}
use Rattle.os_host.specs.declared.paths.Paths.{Ghosts}
use Rattle.os_files.specs.declared.system.System as system
use Rattle.verity_store.specs.declared.store.BlockStore as store
use Rattle.cli_edit.specs.LineFiles.{IsKeptAt}
use Rattle.cli_edit.specs.Work.{BlamesOwn, IsDoneAt, Leaves, LeavesAsBefore, Prints, PrintsAsBefore}

-- where it is done over a volume on the devices at these paths, what it was to print was printed there
pub done_as_before : {T E : Type 0} (prints : Prints T) (old new : T) (text : List ℕ → Option (List ℕ)) (data_path hash_path : List ℕ)
    (before after : Option (List ℕ)) (done : Result ℕ E) → PrintsAsBefore prints old new
    → IfOk done (λ status. IsDoneAt (prints new text) data_path hash_path before after status)
    → IfOk done (λ status. IsDoneAt (prints old text) data_path hash_path before after status)
done_as_before prints old new text data_path hash_path before after (Ok status) same (devices, image, device, printed) =
    (devices, image, device, same text devices before after status printed)
done_as_before prints old new text data_path hash_path before after (Err failure) same done = tt

-- and it was left of FILE what it was to leave
module _ {P D J L G : Type 0} (paths : Ghosts P) (host : system.Ghosts (Host P) Opened D J) (stores : store.Ghosts D)
    (files : folders.Ghosts L G) (facts : folder.Ghosts G) (p : P) (data_path hash_path : List ℕ) where
  pub kept_as_before : {T E : Type 0} (old new : L) (file : Option (Bor (List ℕ))) (leaves : Leaves T) (first then : T)
      (text : List ℕ → Option (List ℕ)) (before after : Option (List ℕ)) (done : Result ℕ E) → LeavesAsBefore leaves first then
      → IfOk done (λ status. IsKeptAt paths host stores files facts p data_path hash_path old new file (leaves then text)
      before after status)
      → IfOk done (λ status. IsKeptAt paths host stores files facts p data_path hash_path old new file (leaves first text)
      before after status)
  kept_as_before old new None leaves first then text before after (Ok status) same kept = kept
  kept_as_before old new (Some path) leaves first then text before after (Ok status) same
      (devices, image, device, (opened, last, left, is_opened, leave, kept)) =
      (devices, image, device, (opened, last, left, is_opened, same text devices before after status left leave, kept))
  kept_as_before old new file leaves first then text before after (Err failure) same kept = tt

-- what a work blames for one reason it blames for each that follows from it
pub own_for : {T : Type 0} (own : Word → Type 0) (near far : Type 0) → (near → far) → (done : Result T Failure)
    → IfErr done (BlamesOwn own near) → IfErr done (BlamesOwn own far)
own_for own near far far_of (Ok done) is_blamed = tt
own_for own near far far_of (Err (failure.Word other)) (is_own, is_near) = (is_own, far_of is_near)
own_for own near far far_of (Err (failure.Refused fault)) is_blamed = tt
own_for own near far far_of (Err failure.NoMemory) is_blamed = tt
own_for own near far far_of (Err failure.Output) is_blamed = tt
