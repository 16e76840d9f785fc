-- What follows where two files are found to be one, or two.
use Rattle.cli_faults.specs.declared.failure.Failure.{Failure}
use Rattle.cli_faults.specs.declared.failure.Failure.TheVariants as failure
use Rattle.cli_faults.specs.declared.failure.Word.TheVariants as word
use Rattle.cli_faults.specs.declared.fault.Fault.TheVariants as fault
use Rattle.os_files.specs.declared.system.System.{Ghosts}
use Rattle.verity_store.specs.declared.fault.StoreFault.TheVariants as store
use Rattle.cli_line_file.specs.Apart.{IsNotTwo}

module _ {S F D J : Type 0} (facts : Ghosts S F D J) where
  -- for another reason
  pub not_two : (s : S) (P Q : Type 0) → (P → Q) → (e : Failure) → IsNotTwo facts s P e → IsNotTwo facts s Q e
  not_two s P Q then (failure.Word word.TableFile) is = then is
  not_two s P Q then (failure.Refused (fault.Store store.Device)) is = is
  not_two s P Q then failure.NoMemory is = is
  not_two s P Q then _ is = absurd is
