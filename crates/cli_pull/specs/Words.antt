-- What the words of `pull` ask for.
use Rattle.std.specs.Prelude.{◌≡◌, ℕ, List, Option, Some, None, Ok, MatchOption, ⊤}
use Rattle.std.specs.Borrow.{Bor}
use Rattle.verity_superblock.specs.Image.{start_behind}
use Rattle.verity_superblock.specs.Line.{TableLine, Line}
use Rattle.cli_faults.specs.Words.{number_in, uuid_in}
use Rattle.cli_faults.specs.declared.failure.Word.TheVariants as word
use Rattle.cli_arguments.specs.declared.words.pull.PullWords.{PullWords}
use Rattle.cli_pull.specs.declared.line.Asked.{Asked}

-- the old line is that of the words, or there is none
abbrev pub IsOldIn : Option (Bor (List ℕ)) → Option TableLine → Type 0
IsOldIn asked old = MatchOption asked (old ≡ None) (λ text. MatchOption old ⊥ (Line text.now))

-- and so it is with the UUID
abbrev pub IsUuidIn : Option (Bor (List ℕ)) → Option (List ℕ) → Type 0
IsUuidIn asked uuid = MatchOption asked (uuid ≡ None) (λ text. MatchOption uuid ⊥ (λ uuid. uuid_in text.now ≡ Ok uuid))

-- HASH's tree begins where that of the old line does; else behind the superblock at the offset, which is 0 where none is named
abbrev pub IsStart : (offset : Option (Bor (List ℕ))) → (old : Option TableLine) → (hash_size start : ℕ) → Type 0
IsStart offset old hash_size start = MatchOption old
    (MatchOption offset (start ≡ start_behind 0 hash_size)
    (λ text. (at : ℕ) × (number_in word.HashOffset text.now ≡ Ok at) × (start ≡ start_behind at hash_size)))
    (λ old. start ≡ old.hash_start_block)

-- the lines, the UUID and the start are those of the words
pub record IsAsked (words : PullWords) (asked : Asked) : Type 0 where
  pub to : Line words.to.now asked.to
  pub old : IsOldIn words.table asked.old
  pub uuid : IsUuidIn words.uuid asked.uuid
  pub start : IsStart words.hash_offset asked.old asked.to.hash_block_size asked.start

-- the line on other devices, whose tree begins at another hash block
abbrev pub line_at : TableLine → (data_path hash_path : List ℕ) → (start : ℕ) → TableLine
line_at to data_path hash_path start = record to { dev = data_path; hash_dev = hash_path; hash_start_block = start }

-- a line on other devices, whose tree may begin at another hash block
abbrev pub IsElsewhere : TableLine → TableLine → Type 0
IsElsewhere to t = t ≡ line_at to t.dev t.hash_dev t.hash_start_block

-- the line of the words, with DATA and HASH as its devices, and where HASH's tree begins
abbrev pub own_line : PullWords → Asked → TableLine
own_line words asked = line_at asked.to words.data_path.now words.hash_path.now asked.start

-- two lines name the same, but for the devices and the root hash
abbrev pub IsAlike : TableLine → TableLine → Type 0
IsAlike old t = old ≡ record t { dev = old.dev; hash_dev = old.hash_dev; root = old.root }

-- the root hash of the old line, which names what this one does, but for the devices and the root hash; or none
abbrev pub IsOldRoot : Option TableLine → TableLine → Option (List ℕ) → Type 0
IsOldRoot old t None = ⊤
IsOldRoot old t (Some root) = MatchOption old ⊥ (λ o. (o.root ≡ root) × IsAlike o t)
