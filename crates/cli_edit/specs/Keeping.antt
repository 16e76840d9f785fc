-- What the answers to a script leave of a table line that is kept with the commits.
use Rattle.std.specs.Prelude.{◌≡◌, ℕ, List, [], ◌∷◌, Option, Result, Ok, Err}
use Rattle.std.specs.Io.KnownBytes.{Appends}
use Rattle.verity_superblock.specs.Superblock.{Volume}
use Rattle.verity_edit.specs.declared.command.Committed.{Committed}
use Rattle.cli_faults.specs.declared.fault.Fault.{Fault}
use Rattle.cli_volume.specs.declared.lines.Devices.{Devices}
use Rattle.cli_volume.specs.Kept.{LeftLine, AsBefore, Holding, Unknown, IsLeft}
use Rattle.cli_edit.specs.declared.script.Answer.{Answer}
use Rattle.cli_edit.specs.declared.script.Answer.TheVariants as answer
use Rattle.cli_edit.specs.Printed.{Answered, AreAnswers, answer_line, is_refusal, status_for}
use Rattle.cli_edit.specs.Printed.{Done, Committed as CommittedLine, BadLine, Refused}

-- what these answers leave of it, one after the other
abbrev pub left_after : LeftLine → List Answered → LeftLine
left_after left [] = left
left_after left (Done ∷ answers) = left_after left answers
left_after left (CommittedLine volume root ∷ answers) = left_after (Holding volume root) answers
left_after left (BadLine ∷ answers) = left_after left answers
left_after left (Refused fault ∷ answers) = left_after Unknown answers

-- so many answers were printed and nothing else, with this status, and these leave of the line what the commits do
pub record AreKeptAnswers {C : Type 0} (holds : C → Volume → List ℕ → Type 0) (a b : C) (on : Devices) (old new : Option (List ℕ))
    (count status : ℕ) : Type 0 where
  pub answered : AreAnswers on old new count status
  pub kept : IsLeft holds a b (left_after AsBefore answered.answers)

-- one answer was printed and nothing else, with this status
pub record IsAnswer (on : Devices) (old new : Option (List ℕ)) (answered : Answered) (told : ℕ) : Type 0 where
  pub printed : Appends old new (answer_line on answered)
  pub status : told ≡ status_for (is_refusal answered)

-- the answer, as it is printed by an editor of this volume
abbrev pub answered_by : Volume → Answer → Answered
answered_by volume answer.Done = Done
answered_by volume (answer.Committed committed) = CommittedLine volume committed.root
answered_by volume (answer.Refused fault) = Refused fault

-- what it leaves of the line
abbrev pub left_by : Volume → Answer → LeftLine
left_by volume answer.Done = AsBefore
left_by volume (answer.Committed committed) = Holding volume committed.root
left_by volume (answer.Refused fault) = Unknown

-- what is answered to a commit: what it made, or a refusal
abbrev pub IsAnswerTo : Result Committed Fault → Answer → Type 0
IsAnswerTo (Ok committed) is = is ≡ answer.Committed committed
IsAnswerTo (Err fault) is = (other : Fault) × (is ≡ answer.Refused other)
