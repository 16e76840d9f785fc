-- The messages of a client, and how some bytes begin. All numbers are big-endian.
use Rattle.std.specs.Prelude.{ℕ, ◌==◌, nat_lt, nat_le, Bool, ◌&&◌, ◌||◌, not, if◌then◌else◌, List, length, take, drop, Option, Some, None}
use Rattle.nbd_session.specs.declared.phase.Phase.{Phase}
use Rattle.nbd_session.specs.declared.phase.Phase.TheVariants.{Flags, Options, Transmission, Ended}
use Rattle.nbd_session.specs.Protocol.{ihaveopt, nbd_opt_export_name, max_option_data, nbd_request_magic, nbd_cmd_write, max_length}
use Rattle.byteorder.specs.Endian.{big_number}

-- A message is a header, whose size the phase fixes, and a body, whose size the header tells: an option's data, or
-- a WRITE's payload.
pub record Message : Type 0 where
  pub header : List ℕ
  pub body : List ℕ

-- the number in the n bytes from a place on
abbrev pub number_at : ℕ → ℕ → List ℕ → ℕ
number_at place n bytes = big_number n (drop place bytes)

abbrev pub header_size : Phase → ℕ
header_size Flags = 4
header_size (Options fixed_newstyle no_zeroes) = 16
header_size Transmission = 28
-- after the end any byte is one too many
header_size Ended = 1

-- Client flags: bits 0 and 1, and no other. None ends the session, here and below.
abbrev pub flags_body : List ℕ → Option ℕ
flags_body header = if nat_lt (number_at 0 4 header) 4 then Some 0 else None

-- An option: IHAVEOPT, its number, and the length of its data. A client that isn't fixed newstyle may send EXPORT_NAME alone.
abbrev pub option_body : Bool → List ℕ → Option ℕ
option_body fixed_newstyle header =
    if (number_at 0 8 header == ihaveopt) && nat_le (number_at 12 4 header) max_option_data &&
    (fixed_newstyle || (number_at 8 4 header == nbd_opt_export_name))
    then Some (number_at 12 4 header) else None

-- A request: its magic, flags, type, cookie, offset and length. A WRITE is a message together with its payload.
abbrev pub request_body : List ℕ → Option ℕ
request_body header =
    if not (number_at 0 4 header == nbd_request_magic) then None
    else (if not (number_at 6 2 header == nbd_cmd_write) then Some 0
    else (if nat_le (number_at 24 4 header) max_length then Some (number_at 24 4 header) else None))

-- the size of the body that a header announces, or None where it ends the session
abbrev pub body_size : Phase → List ℕ → Option ℕ
body_size Flags header = flags_body header
body_size (Options fixed_newstyle no_zeroes) header = option_body fixed_newstyle header
body_size Transmission header = request_body header
body_size Ended header = None

-- How some bytes begin: with less than a message, with a whole one, or with a header that ends the session.
-- The end is decided when the header is whole, and not before.
pub data Front : Type 0 where
  Partial : Front
  Whole : (message : Message) (rest : List ℕ) → Front
  Halt : Front

abbrev pub front_of : (header rest : List ℕ) → Option ℕ → Front
front_of header rest None = Halt
front_of header rest (Some n) =
    if nat_lt (length rest) n then Partial else Whole (record { header = header; body = take n rest }) (drop n rest)

abbrev pub front : Phase → List ℕ → Front
front phase bytes =
    if nat_lt (length bytes) (header_size phase) then Partial
    else front_of (take (header_size phase) bytes) (drop (header_size phase) bytes) (body_size phase (take (header_size phase) bytes))
