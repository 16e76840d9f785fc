-- The borders of the protocol's numbers, checked by computation: each at its border and one past it.
use Rattle.std.specs.Prelude.{◌≡◌, true, false, [], ◌∷◌, ◌++◌, replicate, refl}
use Rattle.byteorder.specs.Endian.{big_bytes}
use Rattle.nbd_session.specs.declared.phase.Phase.TheVariants.{Flags, Options, Transmission, Ended}
use Rattle.nbd_session.specs.declared.offer.Offer.{Offer}
use Rattle.nbd_session.specs.Handshake.{greeting}
use Rattle.nbd_session.specs.Options.{option_reply, ack}
use Rattle.nbd_session.specs.Transmission.{Says, Asks, simple_reply}
use Rattle.nbd_session.specs.Talk.{hear, talk}
use Rattle.nbd_session.specs.Inbox.{missing_of}
use Rattle.nbd_session.specs.Requests.{vol, flags, option_head, option, cookie, request}

abbrev big : Offer
big = record { name = vol; size = 0x100000000000000; block = 512 }

abbrev full : Offer
full = record { name = vol; size = 0xffffffffffffffff; block = 512 }

long_option : (hear big Flags (flags 3 ++ option_head 10 65537)).phase ≡ Ended
long_option = refl

longest_option_waits : (hear big Flags (flags 3 ++ option_head 10 65536)).phase ≡ Options true true
longest_option_waits = refl

longest_option_missing : missing_of (Options true true) (option_head 10 65536) ≡ 65536
longest_option_missing = refl

longest_read : (hear big Transmission (request 0 0 7 33554432)).answers ≡ (Asks 7 33554432 cookie ∷ [])
longest_read = refl

too_long_read : (hear big Transmission (request 0 0 7 33554433)).answers ≡ (Says (simple_reply 22 cookie) ∷ [])
too_long_read = refl

sum_beyond : (hear full Transmission (request 0 0 0xfffffffffffffffe 2)).answers ≡ (Says (simple_reply 22 cookie) ∷ [])
sum_beyond = refl

sum_at_end : (hear full Transmission (request 0 0 0xfffffffffffffffe 1)).answers ≡ (Asks 0xfffffffffffffffe 1 cookie ∷ [])
sum_at_end = refl

longest_write : (hear big Transmission (request 9 1 7 33554432)).phase ≡ Transmission
longest_write = refl

longest_write_none : (hear big Transmission (request 9 1 7 33554432)).answers ≡ []
longest_write_none = refl

longest_write_missing : missing_of Transmission (request 9 1 7 33554432) ≡ 33554432
longest_write_missing = refl

too_long_write : (hear big Transmission (request 0 1 7 33554433)).phase ≡ Ended
too_long_write = refl

empty_write : (hear big Transmission (request 0 1 7 0)).answers ≡ (Says (simple_reply 1 cookie) ∷ [])
empty_write = refl

disc_with_all : (hear big Transmission (request 0xffff 2 7 100 ++ request 0 0 0 1)) ≡ record {
  answers = Says [] ∷ [];
  phase = Ended;
  unfinished = [];
}
disc_with_all = refl

unknown_type : (hear big Transmission (request 0 0xffff 7 100)) ≡ record {
  answers = Says (simple_reply 22 cookie) ∷ [];
  phase = Transmission;
  unfinished = [];
}
unknown_type = refl

flush_flags : (hear big Transmission (request 1 3 0 0)).answers ≡ (Says (simple_reply 22 cookie) ∷ [])
flush_flags = refl

bad_request_magic_waits : (hear big Transmission (replicate 27 0)).unfinished ≡ replicate 27 0
bad_request_magic_waits = refl

bad_request_magic : (hear big Transmission (replicate 28 0)).phase ≡ Ended
bad_request_magic = refl

-- name length beyond the data, even as far as 32 bits go; a count too many, too few
name_beyond : talk big (flags 3 ++ option 7 (big_bytes 6 0xffffffff0000)) [] ≡ greeting ++ option_reply 7 0x80000003 []
name_beyond = refl

name_beyond_by_one : talk big (flags 3 ++ option 7 (big_bytes 4 3 ++ vol ++ (0 ∷ []))) [] ≡ greeting ++ option_reply 7 0x80000003 []
name_beyond_by_one = refl

count_many : talk big (flags 3 ++ option 6 (big_bytes 4 0 ++ big_bytes 2 2 ++ big_bytes 2 3)) [] ≡ greeting ++ option_reply 6 0x80000003 []
count_many = refl

half_type : talk big (flags 3 ++ option 6 (big_bytes 4 0 ++ big_bytes 2 1 ++ big_bytes 1 3)) [] ≡ greeting ++ option_reply 6 0x80000003 []
half_type = refl

empty_data : talk big (flags 3 ++ option 7 []) [] ≡ greeting ++ option_reply 7 0x80000003 []
empty_data = refl

-- an unknown name with data that doesn't parse: invalid first
both_wrong : talk big (flags 3 ++ option 7 (big_bytes 4 1 ++ (120 ∷ []) ++ big_bytes 2 1)) [] ≡ greeting ++ option_reply 7 0x80000003 []
both_wrong = refl

twice : talk big (flags 3 ++ option 6 (big_bytes 4 0 ++ big_bytes 2 3 ++ big_bytes 2 3 ++ big_bytes 2 1 ++ big_bytes 2 3)) []
    ≡ greeting ++ option_reply 6 3 (big_bytes 2 0 ++ big_bytes 8 0x100000000000000 ++ big_bytes 2 3) ++ option_reply 6 3
    (big_bytes 2 3 ++ big_bytes 4 1 ++ big_bytes 4 512 ++ big_bytes 4 33554432) ++ ack 6
twice = refl

-- 0003 across the border of two types isn't type 3
across : talk big (flags 3 ++ option 6 (big_bytes 4 0 ++ big_bytes 2 2 ++ big_bytes 4 0x01000300)) []
    ≡ greeting ++ option_reply 6 3 (big_bytes 2 0 ++ big_bytes 8 0x100000000000000 ++ big_bytes 2 3) ++ ack 6
across = refl

info_stays : (hear big Flags (flags 3 ++ option 6 (big_bytes 6 0))).phase ≡ Options true true
info_stays = refl

go_unknown_stays : (hear big Flags (flags 1 ++ option 7 (big_bytes 7 0x00000001780000))).phase ≡ Options true false
go_unknown_stays = refl

go_leaves : (hear big Flags (flags 3 ++ option 7 (big_bytes 6 0))).phase ≡ Transmission
go_leaves = refl

abort_data : (hear big Flags (flags 3 ++ option 2 (7 ∷ 8 ∷ []) ++ option 3 [])) ≡ record {
  answers = Says [] ∷ Says (ack 2) ∷ [];
  phase = Ended;
  unfinished = [];
}
abort_data = refl

flags_none : talk big (flags 0 ++ option 1 []) [] ≡ greeting ++ big_bytes 8 0x100000000000000 ++ big_bytes 2 3 ++ replicate 124 0
flags_none = refl

flags_none_list : (hear big Flags (flags 0 ++ option_head 3 0)).phase ≡ Ended
flags_none_list = refl

flags_none_abort : talk big (flags 2 ++ option 2 []) [] ≡ greeting
flags_none_abort = refl

high_flag : (hear big Flags (flags 0x80000003)).phase ≡ Ended
high_flag = refl

flags_wait : (hear big Flags (replicate 3 255)).phase ≡ Flags
flags_wait = refl

prefix_name : talk big (flags 3 ++ option 1 (118 ∷ 111 ∷ [])) [] ≡ greeting
prefix_name = refl

name_zero : (hear big Flags (flags 3 ++ option 1 (118 ∷ 111 ∷ 108 ∷ 0 ∷ []))).phase ≡ Ended
name_zero = refl

zero_option : talk big (flags 3 ++ option 0 []) [] ≡ greeting ++ option_reply 0 0x80000001 []
zero_option = refl

starttls : talk big (flags 3 ++ option 5 (1 ∷ [])) [] ≡ greeting ++ option_reply 5 0x80000001 []
starttls = refl

-- client flags, one by one
flags_zero : (hear big Flags (flags 0)).phase ≡ Options false false
flags_zero = refl

flags_one : (hear big Flags (flags 1)).phase ≡ Options true false
flags_one = refl

flags_two : (hear big Flags (flags 2)).phase ≡ Options false true
flags_two = refl

flags_three : (hear big Flags (flags 3)).phase ≡ Options true true
flags_three = refl

flags_four : (hear big Flags (flags 4)).phase ≡ Ended
flags_four = refl

-- an option's header but for its last byte
option_header_waits : hear big (Options true true) (big_bytes 15 0x49484156454f505400000002000000) ≡ record {
  answers = [];
  phase = Options true true;
  unfinished = big_bytes 15 0x49484156454f505400000002000000;
}
option_header_waits = refl

-- CACHE, BLOCK_STATUS and RESIZE
cache_and_others : (hear big Transmission (request 0 5 0 1 ++ request 0 7 0 1 ++ request 0 8 0 1)).answers
    ≡ (Says (simple_reply 22 cookie) ∷ Says (simple_reply 22 cookie) ∷ Says (simple_reply 22 cookie) ∷ [])
cache_and_others = refl

trim_and_write_zeroes : (hear big Transmission (request 1 4 0 0xffffffff ++ request 2 6 0xffffffffffffffff 1)).answers
    ≡ (Says (simple_reply 1 cookie) ∷ Says (simple_reply 1 cookie) ∷ [])
trim_and_write_zeroes = refl

read_whole_export : (hear big Transmission (request 0 0 0xffffffffffffff 1)).answers ≡ (Asks 0xffffffffffffff 1 cookie ∷ [])
read_whole_export = refl

read_one_past : (hear big Transmission (request 0 0 0x100000000000000 1)).answers ≡ (Says (simple_reply 22 cookie) ∷ [])
read_one_past = refl
