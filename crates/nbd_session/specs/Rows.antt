-- Worked conversations, checked by computation.
use Rattle.std.specs.Prelude.{◌≡◌, [], ◌∷◌, ◌++◌, replicate, refl}
use Rattle.byteorder.specs.Endian.{big_bytes}
use Rattle.nbd_session.specs.declared.phase.Phase.TheVariants.{Flags, Ended}
use Rattle.nbd_session.specs.Handshake.{greeting}
use Rattle.nbd_session.specs.Talk.{hear, talk, Bytes, Refused}
use Rattle.nbd_session.specs.Requests.{vol, offer, flags, option_head, option, request, begin, begun}

export_name : talk offer (flags 3 ++ option 1 []) [] ≡ greeting ++ big_bytes 10 0x00000000000022000003
export_name = refl

export_name_zeroes : talk offer (flags 1 ++ option 1 []) [] ≡ greeting ++ big_bytes 10 0x00000000000022000003 ++ replicate 124 0
export_name_zeroes = refl

export_name_own : talk offer (flags 3 ++ option 1 vol) [] ≡ begun
export_name_own = refl

export_name_unknown : talk offer (flags 3 ++ option 1 (120 ∷ [])) [] ≡ greeting
export_name_unknown = refl

export_name_not_fixed : talk offer (flags 2 ++ option 1 []) [] ≡ begun
export_name_not_fixed = refl

not_fixed : talk offer (flags 2 ++ option 7 (big_bytes 6 0) ++ option 1 []) [] ≡ greeting
not_fixed = refl

bad_flags : talk offer (flags 4 ++ option 1 []) [] ≡ greeting
bad_flags = refl

read_fails : talk offer (begin ++ request 0 0 8703 1) (Refused 5 ∷ []) ≡ begun ++ big_bytes 16 0x67446698000000050102030405060708
read_fails = refl

read_none : talk offer (begin ++ request 0 0 8704 0) [] ≡ begun ++ big_bytes 16 0x67446698000000000102030405060708
read_none = refl

read_none_past : talk offer (begin ++ request 0 0 8705 0) [] ≡ begun ++ big_bytes 16 0x67446698000000160102030405060708
read_none_past = refl

read_long : talk offer (begin ++ request 0 0 0 33554433) [] ≡ begun ++ big_bytes 16 0x67446698000000160102030405060708
read_long = refl

read_flags : talk offer (begin ++ request 1 0 0 1) [] ≡ begun ++ big_bytes 16 0x67446698000000160102030405060708
read_flags = refl

read_wraps : talk offer (begin ++ request 0 0 0xffffffffffffffff 1) [] ≡ begun ++ big_bytes 16 0x67446698000000160102030405060708
read_wraps = refl

go : talk offer (flags 3 ++ option 7 (big_bytes 6 0)) [] ≡ greeting ++ big_bytes 32
    0x0003e889045565a900000007000000030000000c000000000000000022000003 ++ big_bytes 20 0x0003e889045565a9000000070000000100000000
go = refl

option_8 : talk offer (flags 3 ++ option 8 []) [] ≡ greeting ++ big_bytes 20 0x0003e889045565a9000000088000000100000000
option_8 = refl

info_long : talk offer (flags 3 ++ option 6 (big_bytes 7 0)) [] ≡ greeting ++ big_bytes 20 0x0003e889045565a9000000068000000300000000
info_long = refl

writes : talk offer (begin ++ request 0 1 0 600 ++ replicate 600 0x25 ++ request 0 0 8703 1) (Bytes (0x5a ∷ []) ∷ []) ≡ begun ++
    big_bytes 16 0x67446698000000010102030405060708 ++ big_bytes 17 0x674466980000000001020304050607085a
writes = refl

write_long : talk offer (begin ++ request 0 1 0 33554433 ++ request 0 0 0 1) [] ≡ begun
write_long = refl

trim_and_others : talk offer (begin ++ request 0 4 0 1 ++ request 0 6 0 1 ++ request 0 3 0 1 ++ request 0 9 0 1 ++ request 7 2 0 1
    ++ request 0 0 0 1) [] ≡ begun ++ big_bytes 16 0x67446698000000010102030405060708 ++ big_bytes 16
    0x67446698000000010102030405060708 ++ big_bytes 16 0x67446698000000160102030405060708 ++ big_bytes 16 0x67446698000000160102030405060708
trim_and_others = refl

option_10_largest : talk offer (flags 3 ++ option 10 (replicate 65536 0)) [] ≡ greeting ++ big_bytes 20
    0x0003e889045565a90000000a8000000100000000
option_10_largest = refl

-- the header alone ends the session; one byte fewer doesn't
wrong_magic : (hear offer Flags (flags 3 ++ big_bytes 16 1)).phase ≡ Ended
wrong_magic = refl

not_yet : (hear offer Flags (flags 3 ++ big_bytes 15 1)).unfinished ≡ big_bytes 15 1
not_yet = refl

-- option data over the longest ends the session at its header
option_10_too_long : (hear offer Flags (flags 3 ++ option_head 10 65537)).phase ≡ Ended
option_10_too_long = refl

-- and so does a WRITE's payload
write_too_long : (hear offer Flags (begin ++ request 0 1 0 33554433)).phase ≡ Ended
write_too_long = refl

-- option 8 and then GO
option_8_go : talk offer (flags 3 ++ option 8 [] ++ option 7 (big_bytes 6 0)) [] ≡ greeting ++ big_bytes 20
    0x0003e889045565a9000000088000000100000000
    ++ big_bytes 32 0x0003e889045565a900000007000000030000000c000000000000000022000003 ++ big_bytes 20
    0x0003e889045565a9000000070000000100000000
option_8_go = refl

-- a WRITE's payload that looks like requests, and then a READ
write_of_requests : talk offer (begin ++ request 0 1 0 56 ++ request 0 0 0 1 ++ request 0 2 0 0 ++ request 0 0 8703 1)
    (Bytes (0x5a ∷ []) ∷ [])
    ≡ begun ++ big_bytes 16 0x67446698000000010102030405060708 ++ big_bytes 17 0x674466980000000001020304050607085a
write_of_requests = refl

-- ENOMEM is whole too
read_lacks : talk offer (begin ++ request 0 0 8703 1) (Refused 12 ∷ []) ≡ begun ++ big_bytes 16 0x674466980000000c0102030405060708
read_lacks = refl
