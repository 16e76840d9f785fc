-- What a client sends, for the worked conversations: an export of 8,704 bytes with blocks of 512 bytes under the name "vol".
use Rattle.std.specs.Prelude.{ℕ, List, [], ◌++◌, length, codes}
use Rattle.nbd_session.specs.declared.offer.Offer.{Offer}
use Rattle.nbd_session.specs.Protocol.{ihaveopt, nbd_request_magic}
use Rattle.nbd_session.specs.Handshake.{greeting}
use Rattle.byteorder.specs.Endian.{big_bytes}

abbrev pub vol : List ℕ
vol = codes "vol"

abbrev pub offer : Offer
offer = record { name = vol; size = 8704; block = 512 }

abbrev pub flags : ℕ → List ℕ
flags n = big_bytes 4 n

abbrev pub option_head : (number len : ℕ) → List ℕ
option_head number len = big_bytes 8 ihaveopt ++ big_bytes 4 number ++ big_bytes 4 len

abbrev pub option : ℕ → List ℕ → List ℕ
option number bytes = option_head number (length bytes) ++ bytes

abbrev pub cookie : List ℕ
cookie = big_bytes 8 0x0102030405060708

abbrev pub request : (command_flags kind offset len : ℕ) → List ℕ
request command_flags kind offset len =
    big_bytes 4 nbd_request_magic ++ big_bytes 2 command_flags ++ big_bytes 2 kind ++ cookie ++ big_bytes 8 offset ++ big_bytes 4 len

-- flags 3 and EXPORT_NAME of the empty name, and what is said to them
abbrev pub begin : List ℕ
begin = flags 3 ++ option 1 []

abbrev pub begun : List ℕ
begun = greeting ++ big_bytes 10 0x00000000000022000003
