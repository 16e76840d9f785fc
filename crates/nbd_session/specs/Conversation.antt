-- What a piece does to an inbox and to the output.
use Rattle.std.specs.Prelude.{◌≡◌, ℕ, List, ◌++◌, take, drop}
use Rattle.nbd_session.specs.declared.phase.Phase.{Phase}
use Rattle.nbd_session.specs.declared.offer.Offer.{Offer}
use Rattle.nbd_session.specs.declared.inbox.Inbox.{Inbox}
use Rattle.nbd_session.specs.Messages.{Message, header_size}
use Rattle.nbd_session.specs.Transmission.{Answer, Says, Asks}
use Rattle.nbd_session.specs.Talk.{Heard, hear, Verdict, Judged, read_reply, replies}
use Rattle.nbd_session.specs.Export.{Facts, Fair, Counted, Costs, Spent}
use Rattle.nbd_session.specs.Inbox.{Waits}

abbrev pub message_of : Phase → List ℕ → Message
message_of phase bytes = record { header = take (header_size phase) bytes; body = drop (header_size phase) bytes }

-- what is said to one message, between two moments of the export
abbrev pub Answered : Facts → Facts → Answer → List ℕ → Type 0
Answered old new (Says bytes) said = (said ≡ bytes) × (new.reads ≡ old.reads)
Answered old new (Asks offset len cookie) said =
    (verdict : Verdict) × Fair old new offset len verdict × (said ≡ read_reply cookie verdict) × Costs old new offset len

abbrev pub AppendsAnswer : Facts → Facts → Answer → (before after : List ℕ) → Type 0
AppendsAnswer old new a before after = (said : List ℕ) × (after ≡ before ++ said) × Answered old new a said

-- the output has the old one in front
abbrev pub Grows : (before after : List ℕ) → Type 0
Grows before after = (said : List ℕ) × (after ≡ before ++ said)

-- The inbox stands where the bytes lead that amount to this, and this was said, by verdicts of the export between two moments.
pub record Stands {A : Type 0} (old new : Facts) (h : Heard) (inbox : Inbox A) (said : List ℕ) : Type 0 where
  pub phase : inbox.phase ≡ h.phase
  pub waits : Waits inbox h.unfinished
  pub verdicts : List Verdict
  pub judged : Judged (Fair old new) h.answers verdicts
  pub counted : Counted old new verdicts
  pub spent : Spent old new h.answers
  pub exact : said ≡ replies h.answers verdicts

-- A piece was taken in, whatever had come before it.
abbrev pub Moves : {A : Type 0} → Facts → Facts → Offer → (before after : Inbox A) → (piece said : List ℕ) → Type 0
Moves old new offer before after piece said =
    (unfinished : List ℕ) → Waits before unfinished → Stands old new (hear offer before.phase (unfinished ++ piece)) after said

abbrev pub AppendsMove : {A : Type 0} → Facts → Facts → Offer → (before after : Inbox A) → (piece out out' : List ℕ) → Type 0
AppendsMove old new offer before after piece out out' = (said : List ℕ) × (out' ≡ out ++ said) × Moves old new offer before after piece said
