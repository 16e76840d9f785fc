-- "Transmission phase": what the server does on a request, and the phase after it.
use Rattle.std.specs.Prelude.{ℕ, ◌+◌, ◌==◌, nat_le, Bool, ◌&&◌, ◌||◌, not, if◌then◌else◌, List, [], ◌++◌, take, drop}
use Rattle.nbd_session.specs.declared.phase.Phase.{Phase}
use Rattle.nbd_session.specs.declared.phase.Phase.TheVariants.{Transmission, Ended}
use Rattle.nbd_session.specs.declared.transmission.Request.{Request}
use Rattle.nbd_session.specs.Protocol.{nbd_simple_reply_magic, nbd_cmd_read, nbd_cmd_write, nbd_cmd_disc, nbd_cmd_trim}
use Rattle.nbd_session.specs.Protocol.{nbd_cmd_write_zeroes, nbd_eperm, nbd_einval, max_length}
use Rattle.nbd_session.specs.Messages.{number_at}
use Rattle.byteorder.specs.Endian.{big_bytes}

-- What the server does on a message: it says these bytes, or it asks the export for a range, to reply under this cookie.
pub data Answer : Type 0 where
  Says : (bytes : List ℕ) → Answer
  Asks : (offset len : ℕ) (cookie : List ℕ) → Answer

-- the fields of a request's header, behind its magic
abbrev pub request_of : List ℕ → Request
request_of header = record {
  flags = number_at 4 2 header;
  kind = number_at 6 2 header;
  cookie = take 8 (drop 8 header);
  offset = number_at 16 8 header;
  len = number_at 24 4 header;
}

-- magic, error, cookie; a READ's bytes follow where the error is 0
abbrev pub simple_reply : ℕ → List ℕ → List ℕ
simple_reply error cookie = big_bytes 4 nbd_simple_reply_magic ++ big_bytes 4 error ++ cookie

-- no flags, not too long, and not past the end, the sum taken without a bound of 64 bits
abbrev pub may_read : ℕ → Request → Bool
may_read size request = (request.flags == 0) && nat_le request.len max_length && nat_le (request.offset + request.len) size

-- NBD_CMD_READ: EINVAL, or the range, where it isn't empty
abbrev pub read_answer : ℕ → Request → Answer
read_answer size request =
    if not (may_read size request) then Says (simple_reply nbd_einval request.cookie)
    else (if request.len == 0 then Says (simple_reply 0 request.cookie)
    else Asks request.offset request.len request.cookie)

-- DISC is without a reply, whatever its flags; WRITE, TRIM and WRITE_ZEROES are EPERM, all other types EINVAL.
abbrev pub request_answer : ℕ → Request → Answer
request_answer size request =
    if request.kind == nbd_cmd_read then read_answer size request
    else (if request.kind == nbd_cmd_disc then Says []
    else (if (request.kind == nbd_cmd_write) || (request.kind == nbd_cmd_trim) || (request.kind == nbd_cmd_write_zeroes)
    then Says (simple_reply nbd_eperm request.cookie)
    else Says (simple_reply nbd_einval request.cookie)))

abbrev pub phase_after_request : Request → Phase
phase_after_request request = if request.kind == nbd_cmd_disc then Ended else Transmission
