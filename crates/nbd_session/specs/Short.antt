-- What a piece as short as a request's header can bring about.
use Rattle.std.specs.Prelude.{◌≡◌, ◌≤◌, ◌+◌, ℕ, suc, List, [], ◌∷◌, length, Option, Some, None}
use Rattle.nbd_session.specs.declared.phase.Phase.TheVariants.{Flags, Transmission}
use Rattle.nbd_session.specs.declared.offer.Offer.{Offer}
use Rattle.nbd_session.specs.Protocol.{short, longest_reply}
use Rattle.nbd_session.specs.Transmission.{Answer, Says, Asks, request_of, request_answer}
use Rattle.nbd_session.specs.Talk.{Verdict, hear, Judged, replies}
use Rattle.nbd_session.specs.Session.{added}

-- how many ranges are asked for
abbrev pub asks : List Answer → ℕ
asks [] = 0
asks (Says bytes ∷ answers) = asks answers
asks (Asks offset len cookie ∷ answers) = suc (asks answers)

-- and how many bytes
abbrev pub asked_by : Answer → ℕ
asked_by (Says bytes) = 0
asked_by (Asks offset len cookie) = len

abbrev pub asked : List Answer → ℕ
asked [] = 0
asked (a ∷ answers) = asked_by a + asked answers

-- what a request's header asks for, whose payload has this size; a header that ends the session asks for nothing
abbrev pub header_asks : (size : ℕ) (header : List ℕ) → Option ℕ → ℕ
header_asks size header None = 0
header_asks size header (Some n) = asked_by (request_answer size (request_of header))

-- the bytes of a reply that carries none of the export's
abbrev pub reply_head : ℕ
reply_head = 16

-- A short piece makes one READ whole at most, after whatever input.
abbrev pub AsksOnce : Type 0
AsksOnce = (offer : Offer) (input piece : List ℕ) → length piece ≤ short → asks (added offer input piece) ≤ 1

-- And in transmission what it adds is one reply at most.
abbrev pub RepliesOnce : (P : ℕ → ℕ → Verdict → Type 0) → Type 0
RepliesOnce P =
    (offer : Offer) (input piece : List ℕ) (verdicts : List Verdict) → (hear offer Flags input).phase ≡ Transmission → length piece ≤ short
    → Judged P (added offer input piece) verdicts → length (replies (added offer input piece) verdicts) ≤ longest_reply

-- And no longer than what the piece asks for, beside a reply's head.
abbrev pub RepliesWithin : (P : ℕ → ℕ → Verdict → Type 0) → Type 0
RepliesWithin P =
    (offer : Offer) (input piece : List ℕ) (verdicts : List Verdict) → (hear offer Flags input).phase ≡ Transmission → length piece ≤ short
    → Judged P (added offer input piece) verdicts
    → length (replies (added offer input piece) verdicts) ≤ reply_head + asked (added offer input piece)
