-- What waiting requests will ask for, as they stand at the head of some bytes.
use Rattle.std.specs.Prelude.{◌≡◌, ◌<◌, ℕ, true, List, [], ◌∷◌, Some}
use Rattle.nbd_session.specs.Protocol.{nbd_cmd_read}
use Rattle.nbd_session.specs.Messages.{request_body}
use Rattle.nbd_session.specs.Transmission.{Answer, Says, Asks, request_of, may_read}

-- The answers begin by asking for these ranges, in this order, before anything is said.
abbrev pub AsksFirst : List (ℕ × ℕ) → List Answer → Type 0
AsksFirst [] answers = Unit {0}
AsksFirst (range ∷ ranges) [] = ⊥
AsksFirst (range ∷ ranges) (Says bytes ∷ answers) = ⊥
AsksFirst (range ∷ ranges) (Asks offset len cookie ∷ answers) = (offset ≡ range.0) × (len ≡ range.1) × AsksFirst ranges answers

-- this header is that of a READ of this range, which is allowed and not empty
pub record IsReadOf (size : ℕ) (header : List ℕ) (range : ℕ × ℕ) : Type 0 where
  pub body : request_body header ≡ Some 0
  pub kind : (request_of header).kind ≡ nbd_cmd_read
  pub allowed : may_read size (request_of header) ≡ true
  pub offset : (request_of header).offset ≡ range.0
  pub len : (request_of header).len ≡ range.1
  pub some : 0 < range.1
