-- What is left to say where a superblock was printed, and where it wasn't.
use Rattle.std.proofs.Common.{◌≡◌, ℕ, List, Option, Result, Ok, Err, OnOk, IfErr}
use Rattle.cli_faults.specs.Errors.{IsS1For}
use Rattle.cli_faults.specs.declared.failure.Failure.{Failure}
use Rattle.cli_faults.specs.declared.failure.Failure.TheVariants as failure
use Rattle.cli_volume.specs.Lines.{IsOfOutput}
use Rattle.cli_arguments.specs.declared.words.dump.DumpWords.{DumpWords}
use Rattle.cli_dump.specs.Dumped.{DumpBlames}

-- what is so where it is done
pub where_done : {T P Q : Type 0} (r : Result T Failure) → (P → Q) → OnOk r P → OnOk r Q
where_done (Ok done) more printed = more printed
where_done (Err e) more printed = tt

-- an output that can't be written blames no argument
pub blames_none : {T : Type 0} (r : Result T Failure) (words : DumpWords) → IfErr r IsOfOutput → IfErr r (DumpBlames words)
blames_none (Ok done) words refused = tt
blames_none (Err failure.NoMemory) words refused = tt
blames_none (Err failure.Output) words refused = tt
blames_none (Err (failure.Word word)) words refused = absurd refused
blames_none (Err (failure.Refused fault)) words refused = absurd refused

-- and isn't S1
pub never_s1 : {T : Type 0} (r : Result T Failure) (reason : Type 0) → IfErr r IsOfOutput → IfErr r (IsS1For reason)
never_s1 (Ok done) reason refused = tt
never_s1 (Err failure.NoMemory) reason refused = λ is. absurd (cc is)
never_s1 (Err failure.Output) reason refused = λ is. absurd (cc is)
never_s1 (Err (failure.Word word)) reason refused = absurd refused
never_s1 (Err (failure.Refused fault)) reason refused = absurd refused
