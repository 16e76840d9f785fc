-- The trusted line of a command: that of its words, or the one that FILE holds.
use Rattle.std.specs.Borrow.{Bor}
use Rattle.std.specs.Prelude.{◌≡◌, ◌⊎◌, ℕ, List, Option, Some, None}
use Rattle.os_line_file.specs.declared.folder.LineFolder as folder
use Rattle.os_line_file.specs.declared.folder.LineFolders as folders
use Rattle.cli_line_file.specs.Files.{IsLineAt, IsNoLineAt}
use Rattle.cli_faults.specs.declared.failure.Failure.{Failure}

module _ {L G : Type 0} (files : folders.Ghosts L G) (facts : folder.Ghosts G) (old new : L) where
  -- this text is trusted: where FILE is named, FILE held this one line, there was no FILE.next, and both were left so; else the words have
  -- it, and no folder was opened
  abbrev pub IsTrusted : List ℕ → Option (Bor (List ℕ)) → List ℕ → Type 0
  IsTrusted table None text = (text ≡ table) × (new ≡ old)
  IsTrusted table (Some path) text = IsLineAt files facts old new path.now text

  -- the same of a word
  abbrev pub IsTrustedIn : Bor (List ℕ) → Option (Bor (List ℕ)) → Bor (List ℕ) → Type 0
  IsTrustedIn table None line = (line ≡ table) × (new ≡ old)
  IsTrustedIn table (Some path) line = IsLineAt files facts old new path.now line.now

  -- FILE is named, and its line isn't read for this reason; or a line was read and left there, and this holds. Where no FILE is named, this
  -- holds, and no folder was opened.
  abbrev pub IsUnkeptOr : Option (Bor (List ℕ)) → (Failure → Type 0) → Failure → Type 0
  IsUnkeptOr None P e = P e × (new ≡ old)
  IsUnkeptOr (Some path) P e = IsNoLineAt files facts old new path.now e
      ⊎ (P e × ((text : List ℕ) × IsLineAt files facts old new path.now text))
