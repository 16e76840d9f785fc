-- What the commands that change a volume print.
use Rattle.std.specs.Prelude.{◌≡◌, ◌==◌, ℕ, Bool, true, false, List, [], ◌∷◌, ◌++◌, length, codes, Option, None, Some, ⊤}
use Rattle.std.specs.List.{flat_map, list_any, slice_split, sum_by}
use Rattle.std.specs.Fmt.{decimal}
use Rattle.std.specs.Io.KnownBytes.{Appends}
use Rattle.verity_superblock.specs.Line.{TableLine, canonical}
use Rattle.verity_superblock.specs.Superblock.{Volume}
use Rattle.cli_faults.specs.Faults.{line, fault_text}
use Rattle.cli_faults.specs.declared.fault.Fault.{Fault}
use Rattle.cli_faults.specs.declared.failure.Failure.{Failure}
use Rattle.cli_faults.specs.declared.failure.Failure.TheVariants.{Output}
use Rattle.cli_volume.specs.declared.lines.Devices.{Devices}
use Rattle.cli_volume.specs.Lines.{IsOfLine, volume_line}

-- what is answered to a line of a script
pub data Answered : Type 0 where
  Done : Answered
  Committed : (volume : Volume) (root : List ℕ) → Answered
  BadLine : Answered
  Refused : Fault → Answered

-- on these devices
abbrev pub answer_line : Devices → Answered → List ℕ
answer_line devices Done = line (codes "ok")
answer_line devices (Committed volume root) = codes "committed " ++ line (canonical (volume_line devices volume root))
answer_line devices BadLine = line (codes "bad line")
answer_line devices (Refused fault) = codes "refused " ++ line (fault_text fault)

abbrev pub is_refusal : Answered → Bool
is_refusal Done = false
is_refusal (Committed volume root) = false
is_refusal BadLine = true
is_refusal (Refused fault) = true

-- the status of a script: 0, or 1 where a line was refused
abbrev pub status_for : Bool → ℕ
status_for false = 0
status_for true = 1

-- how many answers a line of a script gets: none where it is empty
abbrev pub answers_to : List ℕ → ℕ
answers_to [] = 0
answers_to (byte ∷ bytes) = 1

-- how many answers a script gets
abbrev pub answers_of : List ℕ → ℕ
answers_of bytes = sum_by answers_to (slice_split (λ b. b == 10) bytes)

-- what is printed: so many answers and nothing else, a line each; and the status is 0 exactly where none of them is a refusal
pub record AreAnswers (devices : Devices) (old new : Option (List ℕ)) (count answered : ℕ) : Type 0 where
  pub answers : List Answered
  pub each : length answers ≡ count
  pub printed : Appends old new (flat_map (answer_line devices) answers)
  pub status : answered ≡ status_for (list_any is_refusal answers)

-- where it tells of a refusal there was one, and else none
abbrev pub told_status : {R : Type 0} → Option R → ℕ
told_status None = 0
told_status (Some refusal) = 1

-- what `update` prints: how many blocks were written or added, and the table line of the commit
abbrev pub update_lines : ℕ → TableLine → List ℕ
update_lines changed table = (codes "changed " ++ line (decimal changed)) ++ (codes "committed " ++ line (canonical table))

-- why there are no more answers: there is no table line, or the output can't be written
abbrev pub EndsAnswers : Failure → Type 0
EndsAnswers Output = ⊤
EndsAnswers failure = IsOfLine failure
