-- A session as its callers see it, and what a feed does.
use Rattle.std.specs.Prelude.{◌≡◌, ◌≢◌, ◌↔◌, ◌≤◌, ◌+◌, ℕ, Bool, true, false, List, ◌++◌, length}
use Rattle.nbd_session.specs.declared.phase.Phase.{Phase}
use Rattle.nbd_session.specs.declared.phase.Phase.TheVariants.{Flags, Transmission, Ended}
use Rattle.nbd_session.specs.declared.offer.Offer.{Offer}
use Rattle.nbd_session.specs.declared.status.Status.{Status}
use Rattle.nbd_session.specs.declared.status.Status.TheVariants as status
use Rattle.nbd_session.specs.Protocol.{short, longest_reply}
use Rattle.nbd_session.specs.Transmission.{Answer}
use Rattle.nbd_session.specs.Talk.{Heard, hear, Verdict, Judged, replies, talk}
use Rattle.nbd_session.specs.Export.{Facts, Keeps, Fair, Counted, Spent}
use Rattle.nbd_session.specs.Inbox.{kept, missing_of}

pub record State : Type 0 where
  pub offer : Offer
  pub phase : Phase
  -- what is kept of the next message, and how many bytes of its body are still to come
  pub held : List ℕ
  pub missing : ℕ
  pub starved : Bool

-- The session has the phase and the unfinished message that are left of what was heard.
pub record Reflects (session : State) (heard : Heard) : Type 0 where
  pub phase : session.phase ≡ heard.phase
  pub held : session.held ≡ kept heard.phase heard.unfinished
  pub missing : session.missing ≡ missing_of heard.phase heard.unfinished

-- The session is at this input: what it does next is what the talk of this input asks for. A starved one does nothing.
abbrev pub IsAt : State → List ℕ → Type 0
IsAt session input = session.starved ≡ false → Reflects session (hear session.offer Flags input)

-- what is answered to the messages that the piece makes whole
abbrev pub added : Offer → (input piece : List ℕ) → List Answer
added offer input piece = (hear offer (hear offer Flags input).phase ((hear offer Flags input).unfinished ++ piece)).answers

-- The output goes on by what the longer talk adds, by verdicts that the export gave between two moments.
pub record TalksOn (old new : Facts) (offer : Offer) (input piece out out' : List ℕ) : Type 0 where
  pub verdicts : List Verdict
  pub judged : Judged (Fair old new) (added offer input piece) verdicts
  pub counted : Counted old new verdicts
  pub spent : Spent old new (added offer input piece)
  pub exact : out' ≡ out ++ replies (added offer input piece) verdicts

-- What a feed does to a session and an output, between two moments of its export.
pub record Feeds (old new : Facts) (before after : State) (piece out out' : List ℕ) (result : Status) : Type 0 where
  pub offer : after.offer ≡ before.offer
  pub keeps : Keeps old new
  -- For every input that the session was at, it is at that input and the piece, and has said what the longer talk adds.
  pub at : result ≢ status.Starved → (input : List ℕ) → IsAt before input → IsAt after (input ++ piece)
  pub talks : result ≢ status.Starved → (input : List ℕ) → IsAt before input → TalksOn old new before.offer input piece out out'
  pub ended : result ≢ status.Starved → (result ≡ status.Ended) ↔ (after.phase ≡ Ended)
  pub awake : result ≢ status.Starved → after.starved ≡ false
  -- A piece as short as a request's header adds one reply at most, once the negotiation is over.
  pub bound : (input : List ℕ) → IsAt before input → before.phase ≡ Transmission → length piece ≤ short →
      length out' ≤ length out + longest_reply
  -- Want of memory: nothing was said.
  pub starved : result ≡ status.Starved → (out' ≡ out) × (after.starved ≡ true)
  pub stays : result ≡ status.Starved → (input : List ℕ) → IsAt before input → IsAt after input
  -- Once starved it stays so, and once ended it stays so.
  pub for_good : before.starved ≡ true → result ≡ status.Starved
  pub over : before.starved ≡ false → before.phase ≡ Ended → (result ≡ status.Ended) × (out' ≡ out)

-- This was said for this input, from the greeting on, by verdicts that the export gave between two moments.
pub record Talked (old new : Facts) (offer : Offer) (input said : List ℕ) : Type 0 where
  pub verdicts : List Verdict
  pub judged : Judged (Fair old new) (hear offer Flags input).answers verdicts
  pub counted : Counted old new verdicts
  pub exact : said ≡ talk offer input verdicts

-- what was heard, and more after it
abbrev pub heard_on : Heard → Heard → Heard
heard_on h later = record { answers = h.answers ++ later.answers; phase = later.phase; unfinished = later.unfinished }

-- Hearing goes on by pieces: of an input and a piece it is what was heard of the input, and then what was unfinished and the piece.
abbrev pub HearingGoesOn : Type 0
HearingGoesOn =
    (offer : Offer) (input piece : List ℕ)
    → hear offer Flags (input ++ piece)
    ≡ heard_on (hear offer Flags input) (hear offer (hear offer Flags input).phase ((hear offer Flags input).unfinished ++ piece))
