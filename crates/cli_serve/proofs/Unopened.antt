-- Why no hub is made.
use Rattle.std.proofs.Common.{◌≡◌, ◌≤◌, ◌⊎◌, inl, inr, Bool, true, false, ℕ, List, Result, Ok, Err, IfErr, IsErrAnd, subst, sym}
use Rattle.std.specs.Prelude.{if◌then◌else◌}
use Rattle.verity_check.specs.Verifier.{IsCacheSize}
use Rattle.verity_check.specs.declared.fault.CheckFault.{CheckFault}
use Rattle.verity_check.specs.declared.fault.CheckFault.TheVariants as check
use Rattle.cli_faults.specs.declared.failure.Failure.{Failure}
use Rattle.cli_faults.specs.declared.failure.Failure.TheVariants as failure
use Rattle.cli_faults.specs.Errors.{IsS1For}
use Rattle.cli_faults.specs.Faults.{failure_of, is_want}
use Rattle.cli_faults.specs.declared.fault.Fault.TheVariants as fault
use Rattle.verity_store.specs.declared.fault.Which.TheVariants as which
use Rattle.verity_superblock.specs.Line.{TableLine, Line}
use Rattle.cli_faults.specs.declared.command.Command.{Command}
use Rattle.os_files.specs.declared.system.System.{Ghosts}
use Rattle.os_commit_flag.specs.Refusals.{IsUnshut}
use Rattle.os_commit_flag.specs.Shut.{IsOpenBeside, IsUnusableBeside}
use Rattle.cli_serve.specs.Opening.{OpensNone, OpensNoHub}

module _ {S F D J : Type 0} (facts : Ghosts S F D J) (s : S) (command : Command) where
  -- a verifier isn't made for one of three reasons
  pub unmade : (line name : List ℕ) (cache data_cache : ℕ) (e : CheckFault)
      → (e ≡ check.CacheSize → ¬ (IsCacheSize cache × (data_cache ≤ 65536)))
      → (e ≡ check.Lengths) ⊎ (e ≡ check.CacheSize) ⊎ (e ≡ check.NoMemory)
      → OpensNoHub facts s line name cache data_cache command (failure_of (fault.Check e))
  unmade line name cache data_cache e size (inl is) =
      subst (λ e. OpensNoHub facts s line name cache data_cache command (failure_of (fault.Check e))) (sym is) tt
  unmade line name cache data_cache e size (inr (inl is)) =
      subst (λ e. OpensNoHub facts s line name cache data_cache command (failure_of (fault.Check e))) (sym is) (size is)
  unmade line name cache data_cache e size (inr (inr is)) =
      subst (λ e. OpensNoHub facts s line name cache data_cache command (failure_of (fault.Check e))) (sym is) tt

  module _ (table : TableLine) where
    -- nor where its files aren't opened
    pub unopened : (line name : List ℕ) (cache data_cache : ℕ) (e : Failure) → Line line table → OpensNone facts s table command e
        → OpensNoHub facts s line name cache data_cache command e
    unopened line name cache data_cache failure.NoMemory parsed is = tt
    unopened line name cache data_cache (failure.Refused (fault.Store f)) parsed is = (table, parsed, is)
    unopened line name cache data_cache (failure.Refused (fault.InUse which.Data)) parsed is = (table, parsed, is)
    unopened line name cache data_cache (failure.Refused (fault.InUse which.Hash)) parsed is = (table, parsed, is)
    unopened line name cache data_cache (failure.Refused fault.UnderWay) parsed is = (table, parsed, is)
    unopened line name cache data_cache (failure.Refused fault.Journal) parsed is = (table, parsed, is)
    unopened line name cache data_cache (failure.Word word) parsed is = elim is [ ]
    unopened line name cache data_cache (failure.Refused fault.NewInUse) parsed is = elim is [ ]
    unopened line name cache data_cache (failure.Refused (fault.Salt f)) parsed is = elim is [ ]
    unopened line name cache data_cache (failure.Refused (fault.Superblock f)) parsed is = elim is [ ]
    unopened line name cache data_cache (failure.Refused (fault.Table f)) parsed is = elim is [ ]
    unopened line name cache data_cache (failure.Refused (fault.Build f)) parsed is = elim is [ ]
    unopened line name cache data_cache (failure.Refused fault.Uncovered) parsed is = elim is [ ]
    unopened line name cache data_cache (failure.Refused (fault.Check f)) parsed is = elim is [ ]
    unopened line name cache data_cache (failure.Refused (fault.Edit f)) parsed is = elim is [ ]
    unopened line name cache data_cache (failure.Refused (fault.Session f)) parsed is = elim is [ ]
    unopened line name cache data_cache (failure.Refused fault.Socket) parsed is = elim is [ ]
    unopened line name cache data_cache failure.Output parsed is = elim is [ ]

    -- the gate beside the hash device isn't shut
    pub unshut : (e : Failure) → IsUnshut (IsOpenBeside facts s table.hash_dev) (IsUnusableBeside facts s table.hash_dev) e
        → OpensNone facts s table command e
    unshut failure.NoMemory is = tt
    unshut (failure.Refused fault.UnderWay) is = is
    unshut (failure.Refused fault.Journal) is = is
    unshut (failure.Refused (fault.Store f)) is = elim is [ ]
    unshut (failure.Refused (fault.InUse which)) is = elim is [ ]
    unshut (failure.Word word) is = elim is [ ]
    unshut (failure.Refused fault.NewInUse) is = elim is [ ]
    unshut (failure.Refused (fault.Salt f)) is = elim is [ ]
    unshut (failure.Refused (fault.Superblock f)) is = elim is [ ]
    unshut (failure.Refused (fault.Table f)) is = elim is [ ]
    unshut (failure.Refused (fault.Build f)) is = elim is [ ]
    unshut (failure.Refused fault.Uncovered) is = elim is [ ]
    unshut (failure.Refused (fault.Check f)) is = elim is [ ]
    unshut (failure.Refused (fault.Edit f)) is = elim is [ ]
    unshut (failure.Refused (fault.Session f)) is = elim is [ ]
    unshut (failure.Refused fault.Socket) is = elim is [ ]
    unshut failure.Output is = elim is [ ]

-- what is made of an error is said of what was made
pub of_made : {T : Type 0} (r : Result T Failure) (made : Failure) (Said : Failure → Type 0) → IsErrAnd r (λ e. e ≡ made) → Said made
    → IfErr r Said
of_made (Ok x) made Said is said = tt
of_made (Err e) made Said is said = subst Said (sym is) said

never_s1 : (reason : Type 0) (e : CheckFault) (is_memory : Bool)
    → IsS1For reason (if is_memory then failure.NoMemory else failure.Refused (fault.Check e))
never_s1 reason e true = λ at. absurd (cc at)
never_s1 reason e false = λ at. absurd (cc at)

-- a fault of a verifier isn't S1
pub of_check : (reason : Type 0) (e : CheckFault) → IsS1For reason (failure_of (fault.Check e))
of_check reason e = never_s1 reason e (is_want (fault.Check e))
