-- Whether FILE and FILE.next are other files than what stands at a path.
use Rattle.std.specs.Prelude.{◌≡◌, ◌≢◌, ◌⊎◌, ℕ, true, List, ◌++◌, codes, ⊤}
use Rattle.cli_faults.specs.declared.failure.Failure.{Failure}
use Rattle.cli_faults.specs.declared.failure.Failure.TheVariants as failure
use Rattle.cli_faults.specs.declared.failure.Word.TheVariants as word
use Rattle.cli_faults.specs.declared.fault.Fault.TheVariants as fault
use Rattle.os_files.specs.declared.system.System.{Ghosts}
use Rattle.verity_store.specs.declared.fault.StoreFault.TheVariants as store

-- FILE.next's path, of FILE's own
abbrev pub next_of : List ℕ → List ℕ
next_of path = path ++ codes ".next"

module _ {S F D J : Type 0} (facts : Ghosts S F D J) where
  -- nothing is seen at one of two paths
  abbrev pub LacksOne : S → (path other : List ℕ) → Type 0
  LacksOne s path other = facts.lacks s path ⊎ facts.lacks s other

  -- what was opened at both paths are two files or devices; or nothing is seen at one of them, and they lead to two places
  abbrev pub AreTwo : S → (path other : List ℕ) → Type 0
  AreTwo s path other =
      ((a b : F) × facts.opens s path a × facts.opens s other b × (facts.identity a ≢ facts.identity b))
      ⊎ (LacksOne s path other
      × ((led to : List ℕ) × facts.leads s path led × facts.leads s other to × (led ≢ to)))

  -- what was opened at both paths is one file or device; or nothing is seen at one of them
  abbrev pub AreOne : S → (path other : List ℕ) → Type 0
  AreOne s path other =
      ((a b : F) × facts.opens s path a × facts.opens s other b × (facts.identity a ≡ facts.identity b)) ⊎ LacksOne s path other

  -- FILE, by its own path, and FILE.next beside it are other files than what stands at a path
  abbrev pub IsApart : S → (path other : List ℕ) → Type 0
  IsApart s path other = (own : List ℕ) × facts.leads s path own × AreTwo s own other × AreTwo s (next_of own) other

  -- one of both isn't
  abbrev pub IsBeside : S → (path other : List ℕ) → Type 0
  IsBeside s path other = (own : List ℕ) × facts.leads s path own × (AreOne s own other ⊎ AreOne s (next_of own) other)

  -- why two files aren't found to be two: FILE isn't understood, for this reason; S1 for a refusal of the system; want of memory
  abbrev pub IsNotTwo : S → Type 0 → Failure → Type 0
  IsNotTwo s reason (failure.Word word.TableFile) = reason
  IsNotTwo s reason (failure.Refused (fault.Store store.Device)) = facts.refuses s ≡ true
  IsNotTwo s reason failure.NoMemory = ⊤
  IsNotTwo s reason _ = ⊥

  -- why FILE and FILE.next aren't found apart
  abbrev pub IsNotApart : S → (path other : List ℕ) → Failure → Type 0
  IsNotApart s path other e = IsNotTwo s (IsBeside s path other) e
