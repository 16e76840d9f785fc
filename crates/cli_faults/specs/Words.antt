-- What the words of a command are read as.
use Rattle.std.specs.Prelude.{ℕ, ◌^◌, ◌+◌, ◌==◌, nat_lt, Bool, ◌&&◌, ◌||◌, not, if◌then◌else◌, List, [], length, codes, Option, Some}
use Rattle.std.specs.Prelude.{None, Result, Ok, Err, ok_or}
use Rattle.std.specs.List.{list_all}
use Rattle.std.specs.Char.{is_ascii_digit}
use Rattle.std.specs.Result.{result_ok}
use Rattle.std.specs.Str.Parse.{digits_value}
use Rattle.hex.specs.Hex.{decode_of}
use Rattle.uuid.specs.Text.{parsed}
use Rattle.verity_superblock.specs.Line.{is_path}
use Rattle.verity_superblock.specs.Reading.{is_text}
use Rattle.cli_faults.specs.declared.failure.Failure.{Failure}
use Rattle.cli_faults.specs.declared.failure.Failure.TheVariants as failure
use Rattle.cli_faults.specs.declared.failure.Word.{Word}
use Rattle.cli_faults.specs.declared.failure.Word.TheVariants as word

-- the argument or option, as it is typed and named
abbrev pub word_name : Word → List ℕ
word_name word.Data = codes "DATA"
word_name word.Hash = codes "HASH"
word_name word.New = codes "NEW"
word_name word.Salt = codes "--salt"
word_name word.Uuid = codes "--uuid"
word_name word.DataBlocks = codes "--data-blocks"
word_name word.DataBlockSize = codes "--data-block-size"
word_name word.HashBlockSize = codes "--hash-block-size"
word_name word.Algorithm = codes "--algorithm"
word_name word.HashOffset = codes "--hash-offset"
word_name word.Cache = codes "--cache"
word_name word.DataCache = codes "--data-cache"
word_name word.Sessions = codes "--sessions"
word_name word.Memory = codes "--memory"
word_name word.Idle = codes "--idle"
word_name word.Stall = codes "--stall"
word_name word.Journal = codes "--journal"
word_name word.Timeout = codes "--timeout"
word_name word.Slice = codes "--slice"
word_name word.TableFile = codes "--table-file"
word_name word.ToFile = codes "--to-file"

-- what can stand for it
abbrev pub word_wanted : Word → List ℕ
word_wanted word.Data = codes "a path that isn't empty and has no space, since a table line names it"
word_wanted word.Hash = codes "another file than DATA, by a path that isn't empty and has no space, since a table line names it"
word_wanted word.New = codes "another file than DATA and HASH"
word_wanted word.Salt = codes "two hexadecimal digits a byte, or none for the empty salt"
word_wanted word.Uuid = codes "a UUID, as 01234567-89ab-cdef-0123-456789abcdef"
word_wanted word.DataBlocks = codes "a count of blocks, in decimal digits"
word_wanted word.DataBlockSize = codes "a count of bytes, in decimal digits"
word_wanted word.HashBlockSize = codes "a count of bytes, in decimal digits"
word_wanted word.Algorithm = codes "sha256 or sha512"
word_wanted word.HashOffset = codes "a count of bytes, in decimal digits"
word_wanted word.Cache = codes "a count of hash blocks, in decimal digits"
word_wanted word.DataCache = codes "a count of data blocks, in decimal digits"
word_wanted word.Sessions = codes "a count of connections, in decimal digits, at most 4294967295"
word_wanted word.Memory = codes "a count of MiB, in decimal digits, from 33 to 1048576"
word_wanted word.Idle = codes "a count of seconds, in decimal digits"
word_wanted word.Stall = codes "a count of seconds, in decimal digits"
word_wanted word.Journal =
    codes "a path that leads neither to DATA nor to HASH; none, of edit and update, for no journal; a device has one only if named"
word_wanted word.Timeout = codes "a count of seconds, in decimal digits, from 1 to 86400"
word_wanted word.Slice = codes "K/N in decimal digits, the K-th of N, K from 1 to N, and N at most 65536; not beside --join"
word_wanted word.TableFile =
    codes "the path of a file that is neither DATA nor HASH nor the journal, in place of --table; not beside --slice"
word_wanted word.ToFile = codes "the path of a file that is neither DATA nor HASH, in place of --to"

-- decimal digits whose value fits 64 bits, however many
abbrev pub is_decimal : List ℕ → Bool
is_decimal digits = nat_lt 0 (length digits) && (list_all is_ascii_digit digits && nat_lt (digits_value 10 digits) (2 ^ 64))

-- the number, or that the word isn't understood
abbrev pub number_in : Word → List ℕ → Result ℕ Failure
number_in w digits = if is_decimal digits then Ok (digits_value 10 digits) else Err (failure.Word w)

-- how many connections are served: a number of 32 bits
abbrev pub sessions_in : List ℕ → Result ℕ Failure
sessions_in digits =
    if is_decimal digits && nat_lt (digits_value 10 digits) (2 ^ 32) then Ok (digits_value 10 digits)
    else Err (failure.Word word.Sessions)

-- how many MiB of replies may wait: a longest reply's at least, and at most 2^20
abbrev pub memory_in : List ℕ → Result ℕ Failure
memory_in digits =
    if is_decimal digits && (nat_lt 32 (digits_value 10 digits) && nat_lt (digits_value 10 digits) (2 ^ 20 + 1))
    then Ok (digits_value 10 digits)
    else Err (failure.Word word.Memory)

-- for how many seconds a server is waited: at least 1, and at most a day
abbrev pub timeout_in : List ℕ → Result ℕ Failure
timeout_in digits =
    if is_decimal digits && (nat_lt 0 (digits_value 10 digits) && nat_lt (digits_value 10 digits) 86401)
    then Ok (digits_value 10 digits)
    else Err (failure.Word word.Timeout)

-- the bytes of a salt: `none` for no bytes, else hexadecimal digits, two for a byte
abbrev pub salt_of : List ℕ → Option (List ℕ)
salt_of text =
    if is_text text (codes "none") then Some []
    else if length text == 0 then None
    else result_ok (decode_of text)

-- the UUID, in any of its forms
abbrev pub uuid_in : List ℕ → Result (List ℕ) Failure
uuid_in text = ok_or (parsed text) (failure.Word word.Uuid)

-- why DATA and HASH can't stand in a table line
abbrev pub paths_refusal : List ℕ → List ℕ → Option Failure
paths_refusal data_path hash_path =
    if not (is_path data_path) then Some (failure.Word word.Data)
    else if not (is_path hash_path) || is_text hash_path data_path then Some (failure.Word word.Hash)
    else None
