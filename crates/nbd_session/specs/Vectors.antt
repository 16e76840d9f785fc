-- The vectors of the wire, checked by computation: each reply written out byte by byte.
use Rattle.std.specs.Prelude.{◌≡◌, [], ◌∷◌, ◌++◌, refl}
use Rattle.byteorder.specs.Endian.{big_bytes}
use Rattle.nbd_session.specs.Handshake.{greeting}
use Rattle.nbd_session.specs.Talk.{talk, Bytes}
use Rattle.nbd_session.specs.Requests.{offer, flags, option, request, begin, begun}

-- the greeting: NBDMAGIC, IHAVEOPT, fixed newstyle and no zeroes
greets : talk offer [] [] ≡ big_bytes 18 0x4e42444d4147494349484156454f50540003
greets = refl

list : talk offer (flags 3 ++ option 3 []) [] ≡ greeting ++ big_bytes 27 0x0003e889045565a900000003000000020000000700000003766f6c ++
    big_bytes 20 0x0003e889045565a9000000030000000100000000
list = refl

go_block_size : talk offer (flags 3 ++ option 7 (big_bytes 11 0x00000003766f6c00010003)) [] ≡ greeting ++ big_bytes 32
    0x0003e889045565a900000007000000030000000c000000000000000022000003 ++ big_bytes 34
    0x0003e889045565a900000007000000030000000e0003000000010000020002000000 ++ big_bytes 20 0x0003e889045565a9000000070000000100000000
go_block_size = refl

go_unknown : talk offer (flags 3 ++ option 7 (big_bytes 7 0x00000001780000)) [] ≡ greeting ++ big_bytes 20
    0x0003e889045565a9000000078000000600000000
go_unknown = refl

info_short : talk offer (flags 3 ++ option 6 (big_bytes 4 0)) [] ≡ greeting ++ big_bytes 20 0x0003e889045565a9000000068000000300000000
info_short = refl

list_data : talk offer (flags 3 ++ option 3 (0 ∷ [])) [] ≡ greeting ++ big_bytes 20 0x0003e889045565a9000000038000000300000000
list_data = refl

option_10 : talk offer (flags 3 ++ option 10 (big_bytes 9 77)) [] ≡ greeting ++ big_bytes 20 0x0003e889045565a90000000a8000000100000000
option_10 = refl

abort : talk offer (flags 3 ++ option 2 [] ++ option 3 []) [] ≡ greeting ++ big_bytes 20 0x0003e889045565a9000000020000000100000000
abort = refl

reads : talk offer (begin ++ request 0 0 8703 1) (Bytes (0x5a ∷ []) ∷ []) ≡ begun ++ big_bytes 17 0x674466980000000001020304050607085a
reads = refl

read_past : talk offer (begin ++ request 0 0 8703 2) [] ≡ begun ++ big_bytes 16 0x67446698000000160102030405060708
read_past = refl
