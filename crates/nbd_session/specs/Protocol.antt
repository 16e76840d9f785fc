-- The numbers of the NBD protocol, under the names that the NBD project's doc/proto.md gives them.
-- In quotes: the sections of that document.
use Rattle.std.specs.Prelude.{ℕ, ◌+◌}

-- "Newstyle negotiation"

abbrev pub nbdmagic : ℕ
nbdmagic = 0x4e42444d41474943

abbrev pub ihaveopt : ℕ
ihaveopt = 0x49484156454f5054

-- "Handshake flags": bit 0 is fixed newstyle, bit 1 is no zeroes
abbrev pub nbd_flag_fixed_newstyle : ℕ
nbd_flag_fixed_newstyle = 1

abbrev pub nbd_flag_no_zeroes : ℕ
nbd_flag_no_zeroes = 2

-- "Transmission flags": bit 0 is has flags, bit 1 is read-only
abbrev pub nbd_flag_has_flags : ℕ
nbd_flag_has_flags = 1

abbrev pub nbd_flag_read_only : ℕ
nbd_flag_read_only = 2

-- "Option types"

abbrev pub nbd_opt_export_name : ℕ
nbd_opt_export_name = 1

abbrev pub nbd_opt_abort : ℕ
nbd_opt_abort = 2

abbrev pub nbd_opt_list : ℕ
nbd_opt_list = 3

abbrev pub nbd_opt_info : ℕ
nbd_opt_info = 6

abbrev pub nbd_opt_go : ℕ
nbd_opt_go = 7

-- "Option reply types"

abbrev pub option_reply_magic : ℕ
option_reply_magic = 0x0003e889045565a9

abbrev pub nbd_rep_ack : ℕ
nbd_rep_ack = 1

abbrev pub nbd_rep_server : ℕ
nbd_rep_server = 2

abbrev pub nbd_rep_info : ℕ
nbd_rep_info = 3

abbrev pub nbd_rep_err_unsup : ℕ
nbd_rep_err_unsup = 0x80000001

abbrev pub nbd_rep_err_invalid : ℕ
nbd_rep_err_invalid = 0x80000003

abbrev pub nbd_rep_err_unknown : ℕ
nbd_rep_err_unknown = 0x80000006

abbrev pub nbd_info_export : ℕ
nbd_info_export = 0

abbrev pub nbd_info_block_size : ℕ
nbd_info_block_size = 3

-- "Request message", "Simple reply message"

abbrev pub nbd_request_magic : ℕ
nbd_request_magic = 0x25609513

abbrev pub nbd_simple_reply_magic : ℕ
nbd_simple_reply_magic = 0x67446698

-- "Request types"

abbrev pub nbd_cmd_read : ℕ
nbd_cmd_read = 0

abbrev pub nbd_cmd_write : ℕ
nbd_cmd_write = 1

abbrev pub nbd_cmd_disc : ℕ
nbd_cmd_disc = 2

abbrev pub nbd_cmd_trim : ℕ
nbd_cmd_trim = 4

abbrev pub nbd_cmd_write_zeroes : ℕ
nbd_cmd_write_zeroes = 6

-- "Error values"

abbrev pub nbd_eperm : ℕ
nbd_eperm = 1

abbrev pub nbd_eio : ℕ
nbd_eio = 5

abbrev pub nbd_enomem : ℕ
nbd_enomem = 12

abbrev pub nbd_einval : ℕ
nbd_einval = 22

-- This server's bounds: the bytes of an option's data, and the length of a READ or a WRITE

abbrev pub max_option_data : ℕ
max_option_data = 65536

abbrev pub max_length : ℕ
max_length = 33554432

-- the size of a request's header: a piece as short as it makes one request whole at most
abbrev pub short : ℕ
short = 28

-- the longest reply to a request: magic, error and cookie, and a READ's bytes
abbrev pub longest_reply : ℕ
longest_reply = 16 + max_length
