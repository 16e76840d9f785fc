-- The lines of a script, and what each asks for. Words stand apart by one space each.
use Rattle.std.specs.Prelude.{ℕ, ◌%◌, ◌==◌, nat_le, Bool, ◌&&◌, not, if◌then◌else◌, List, [], ◌∷◌, length, slice_index, codes}
use Rattle.std.specs.Prelude.{Option, Some, None, Result, Ok, Err}
use Rattle.std.specs.Option.{option_map}
use Rattle.std.specs.List.{list_all}
use Rattle.std.specs.Char.{is_ascii_hexdigit}
use Rattle.hex.specs.declared.error.FromHexError.{FromHexError}
use Rattle.hex.specs.Hex.{decode_sized}
use Rattle.verity_superblock.specs.Line.{fields_of, is_number, number}
use Rattle.verity_superblock.specs.Reading.{is_text}
use Rattle.cli_script.specs.declared.line.Line.{Line}
use Rattle.cli_script.specs.declared.line.Line.TheVariants as line

-- What a line asks for. A block that is written is still the hexadecimal digits that spell it.
pub data Asked : Type 0 where
  Write : (n : ℕ) (digits : List ℕ) → Asked
  Fill : (n byte : ℕ) → Asked
  Grow : (blocks : ℕ) → Asked
  Shrink : (blocks : ℕ) → Asked
  Discard : Asked
  Commit : Asked

-- an even number of hexadecimal digits of either case, at least 2
abbrev pub is_block : List ℕ → Bool
is_block digits = nat_le 2 (length digits) && ((length digits % 2 == 0) && list_all is_ascii_hexdigit digits)

-- the byte of two such digits
abbrev pub one_byte : Result (List ℕ) FromHexError → Option ℕ
one_byte (Ok bytes) = Some (slice_index bytes 0)
one_byte (Err e) = None

abbrev pub byte_of : List ℕ → Option ℕ
byte_of digits = one_byte (decode_sized digits 1)

-- `discard`, `commit`
abbrev pub asked_alone : List ℕ → Option Asked
asked_alone word =
    if is_text word (codes "discard") then Some Discard
    else if is_text word (codes "commit") then Some Commit
    else None

-- `grow C`, `shrink C`
abbrev pub asked_counting : List ℕ → List ℕ → Option Asked
asked_counting word count =
    if not (is_number count) then None
    else if is_text word (codes "grow") then Some (Grow (number count))
    else if is_text word (codes "shrink") then Some (Shrink (number count))
    else None

-- `write N HEX`, `fill N HH`
abbrev pub asked_writing : List ℕ → List ℕ → List ℕ → Option Asked
asked_writing word place digits =
    if not (is_number place) then None
    else if is_text word (codes "write") then (if is_block digits then Some (Write (number place) digits) else None)
    else if is_text word (codes "fill") then option_map (λ byte. Fill (number place) byte) (byte_of digits)
    else None

-- what the words of a line ask for; all else is a bad line
abbrev pub asked_of : List (List ℕ) → Option Asked
asked_of [] = None
asked_of (word ∷ []) = asked_alone word
asked_of (word ∷ count ∷ []) = asked_counting word count
asked_of (word ∷ place ∷ digits ∷ []) = asked_writing word place digits
asked_of (word ∷ place ∷ digits ∷ more ∷ rest) = None

abbrev pub asked_by : List ℕ → Option Asked
asked_by text = asked_of (fields_of text)

-- what a value of the program stands for
abbrev pub asked : Line → Asked
asked (line.Write n digits) = Write n digits.now
asked (line.Fill n byte) = Fill n byte
asked (line.Grow blocks) = Grow blocks
asked (line.Shrink blocks) = Shrink blocks
asked line.Discard = Discard
asked line.Commit = Commit
