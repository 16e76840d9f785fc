-- The whole conversation: what a server has said when a client has sent some input.
use Rattle.std.specs.Prelude.{ℕ, zero, suc, List, [], ◌∷◌, ◌++◌, length}
use Rattle.nbd_session.specs.declared.phase.Phase.{Phase}
use Rattle.nbd_session.specs.declared.phase.Phase.TheVariants.{Flags, Ended}
use Rattle.nbd_session.specs.declared.offer.Offer.{Offer}
use Rattle.nbd_session.specs.Messages.{Front, Partial, Whole, Halt, front}
use Rattle.nbd_session.specs.Handshake.{greeting}
use Rattle.nbd_session.specs.Transmission.{Answer, Says, Asks, simple_reply}
use Rattle.nbd_session.specs.Answers.{answer, next_phase}

-- What some bytes amount to: the answers to their whole messages up to an end, the phase then, and what is unfinished.
pub record Heard : Type 0 where
  pub answers : List Answer
  pub phase : Phase
  pub unfinished : List ℕ

abbrev pub after_answer : Answer → Heard → Heard
after_answer a h = record { answers = a ∷ h.answers; phase = h.phase; unfinished = h.unfinished }

-- by how the bytes begin, and what the bytes after the first message amount to
abbrev pub hear_front : Offer → Phase → List ℕ → (Phase → List ℕ → Heard) → Front → Heard
hear_front offer phase bytes later Partial = record { answers = []; phase = phase; unfinished = bytes }
hear_front offer phase bytes later Halt = record { answers = []; phase = Ended; unfinished = [] }
hear_front offer phase bytes later (Whole m rest) = after_answer (answer offer phase m) (later (next_phase offer phase m) rest)

-- of at most n messages
abbrev pub hear_at_most : Offer → ℕ → Phase → List ℕ → Heard
hear_at_most offer zero phase bytes = record { answers = []; phase = phase; unfinished = bytes }
hear_at_most offer (suc n) phase bytes = hear_front offer phase bytes (hear_at_most offer n) (front phase bytes)

-- each message has a byte at least
abbrev pub hear : Offer → Phase → List ℕ → Heard
hear offer phase bytes = hear_at_most offer (length bytes) phase bytes

-- what came of a range that was asked for: its bytes, or an error, EIO or ENOMEM
pub data Verdict : Type 0 where
  Bytes : (bytes : List ℕ) → Verdict
  Refused : (error : ℕ) → Verdict

abbrev pub read_reply : List ℕ → Verdict → List ℕ
read_reply cookie (Bytes bytes) = simple_reply 0 cookie ++ bytes
read_reply cookie (Refused error) = simple_reply error cookie

-- what is said, the verdicts taken in order
abbrev pub replies : List Answer → List Verdict → List ℕ
replies [] verdicts = []
replies (Says bytes ∷ answers) verdicts = bytes ++ replies answers verdicts
replies (Asks offset len cookie ∷ answers) [] = []
replies (Asks offset len cookie ∷ answers) (verdict ∷ verdicts) = read_reply cookie verdict ++ replies answers verdicts

-- There is one verdict for each range that is asked for, in order and none left over, and P holds of each.
-- What is said of `talk` or `replies` always says this too.
abbrev pub Judged : (ℕ → ℕ → Verdict → Type 0) → List Answer → List Verdict → Type 0
Judged P [] [] = Unit {0}
Judged P [] (verdict ∷ verdicts) = ⊥
Judged P (Says bytes ∷ answers) verdicts = Judged P answers verdicts
Judged P (Asks offset len cookie ∷ answers) [] = ⊥
Judged P (Asks offset len cookie ∷ answers) (verdict ∷ verdicts) = P offset len verdict × Judged P answers verdicts

-- all that a server has said for an input: the greeting, then the replies to each whole message up to an end
abbrev pub talk : Offer → List ℕ → List Verdict → List ℕ
talk offer input verdicts = greeting ++ replies (hear offer Flags input).answers verdicts
