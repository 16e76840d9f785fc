-- "Option haggling": what the server says to an option, and the phase after it.
use Rattle.std.specs.Prelude.{ℕ, zero, suc, ◌+◌, ◌*◌, ◌==◌, nat_le, Bool, false, ◌&&◌, ◌||◌, not, if◌then◌else◌, List, [], ◌∷◌}
use Rattle.std.specs.Prelude.{◌++◌, length, take, drop, replicate}
use Rattle.std.specs.Str.{bytes_eq}
use Rattle.nbd_session.specs.declared.phase.Phase.{Phase}
use Rattle.nbd_session.specs.declared.phase.Phase.TheVariants.{Options, Transmission, Ended}
use Rattle.nbd_session.specs.declared.offer.Offer.{Offer}
use Rattle.nbd_session.specs.Protocol.{nbd_flag_has_flags, nbd_flag_read_only, nbd_opt_export_name, nbd_opt_abort, nbd_opt_list}
use Rattle.nbd_session.specs.Protocol.{nbd_opt_info, nbd_opt_go, option_reply_magic, nbd_rep_ack, nbd_rep_server, nbd_rep_info}
use Rattle.nbd_session.specs.Protocol.{nbd_rep_err_unsup, nbd_rep_err_invalid, nbd_rep_err_unknown, nbd_info_export}
use Rattle.nbd_session.specs.Protocol.{nbd_info_block_size, max_length}
use Rattle.nbd_session.specs.Messages.{number_at}
use Rattle.byteorder.specs.Endian.{big_number, big_bytes}

-- a reply to the option of this number, of a reply type, with data
abbrev pub option_reply : (number kind : ℕ) → List ℕ → List ℕ
option_reply number kind bytes = big_bytes 8 option_reply_magic ++ big_bytes 4 number ++ big_bytes 4 kind ++ big_bytes 4
    (length bytes) ++ bytes

abbrev pub ack : ℕ → List ℕ
ack number = option_reply number nbd_rep_ack []

abbrev pub transmission_flags : ℕ
transmission_flags = nbd_flag_has_flags + nbd_flag_read_only

-- the empty name, or the export's own
abbrev pub means_export : Offer → List ℕ → Bool
means_export offer name = bytes_eq name [] || bytes_eq name offer.name

-- NBD_OPT_EXPORT_NAME: the size and the transmission flags, and 124 zeros unless both sides set no zeroes; to an
-- unknown name nothing
abbrev pub export_name_reply : Offer → (no_zeroes : Bool) → List ℕ → List ℕ
export_name_reply offer no_zeroes name =
    if means_export offer name then big_bytes 8 offer.size ++ big_bytes 2 transmission_flags ++
    (if no_zeroes then [] else replicate 124 0) else []

-- NBD_OPT_LIST: the one export's name, and the end of the list; with data it is invalid
abbrev pub list_replies : Offer → ℕ → List ℕ → List ℕ
list_replies offer number [] = option_reply number nbd_rep_server (big_bytes 4 (length offer.name) ++ offer.name) ++ ack number
list_replies offer number (x ∷ xs) = option_reply number nbd_rep_err_invalid []

-- NBD_OPT_INFO and NBD_OPT_GO: the name's length, the name, the count of information requests, their types, and nothing more
abbrev pub is_info_data : List ℕ → Bool
is_info_data bytes =
    nat_le (6 + number_at 0 4 bytes) (length bytes)
    && (length bytes == 6 + number_at 0 4 bytes + 2 * number_at (4 + number_at 0 4 bytes) 2 bytes)

abbrev pub info_name : List ℕ → List ℕ
info_name bytes = take (number_at 0 4 bytes) (drop 4 bytes)

-- whether one of the first n numbers of two bytes is this one
abbrev pub lists_type : ℕ → ℕ → List ℕ → Bool
lists_type zero kind bytes = false
lists_type (suc n) kind bytes = (big_number 2 bytes == kind) || lists_type n kind (drop 2 bytes)

abbrev pub wants_block_size : List ℕ → Bool
wants_block_size bytes =
    lists_type (number_at (4 + number_at 0 4 bytes) 2 bytes) nbd_info_block_size (drop (6 + number_at 0 4 bytes) bytes)

abbrev pub names_export : Offer → List ℕ → Bool
names_export offer bytes = is_info_data bytes && means_export offer (info_name bytes)

-- NBD_INFO_EXPORT: type, size, transmission flags
abbrev pub export_info : ℕ → List ℕ
export_info size = big_bytes 2 nbd_info_export ++ big_bytes 8 size ++ big_bytes 2 transmission_flags

-- NBD_INFO_BLOCK_SIZE: type, minimum, preferred, maximum
abbrev pub block_size_info : ℕ → List ℕ
block_size_info block = big_bytes 2 nbd_info_block_size ++ big_bytes 4 1 ++ big_bytes 4 block ++ big_bytes 4 max_length

abbrev pub block_size_reply : (wanted : Bool) → (block number : ℕ) → List ℕ
block_size_reply wanted block number = if wanted then option_reply number nbd_rep_info (block_size_info block) else []

-- the export, its block sizes once if they are asked for at least once, and ACK
abbrev pub known_replies : Offer → ℕ → List ℕ → List ℕ
known_replies offer number bytes =
    option_reply number nbd_rep_info (export_info offer.size)
    ++ block_size_reply (wants_block_size bytes) offer.block number ++ ack number

abbrev pub info_replies : Offer → ℕ → List ℕ → List ℕ
info_replies offer number bytes =
    if not (is_info_data bytes) then option_reply number nbd_rep_err_invalid []
    else (if not (means_export offer (info_name bytes)) then option_reply number nbd_rep_err_unknown [] else known_replies offer
    number bytes)

-- what is said to the option of this number with this data
abbrev pub option_answer : Offer → (no_zeroes : Bool) → ℕ → List ℕ → List ℕ
option_answer offer no_zeroes number bytes =
    if number == nbd_opt_export_name then export_name_reply offer no_zeroes bytes
    else (if number == nbd_opt_abort then ack number
    else (if number == nbd_opt_list then list_replies offer number bytes
    else (if (number == nbd_opt_info) || (number == nbd_opt_go) then info_replies offer number bytes
    else option_reply number nbd_rep_err_unsup [])))

-- EXPORT_NAME and GO of the export begin the transmission; EXPORT_NAME of another, and ABORT, end the session.
abbrev pub phase_after_option : Offer → (fixed_newstyle no_zeroes : Bool) → ℕ → List ℕ → Phase
phase_after_option offer fixed_newstyle no_zeroes number bytes =
    if number == nbd_opt_export_name then (if means_export offer bytes then Transmission else Ended)
    else (if number == nbd_opt_abort then Ended
    else (if (number == nbd_opt_go) && names_export offer bytes then Transmission
    else Options fixed_newstyle no_zeroes))
