-- What `pull` prints, and what it has done then.
use Rattle.std.specs.Prelude.{◌≡◌, ◌⊎◌, ◌+◌, ◌-◌, ◌^◌, ℕ, Bool, List, ◌++◌, codes, Option, None}
use Rattle.std.specs.Fmt.{decimal}
use Rattle.std.specs.Io.KnownBytes.{Appends}
use Rattle.verity_store.specs.Stores.{IsOnlyRead}
use Rattle.verity_store.specs.declared.store.BlockStore as store
use Rattle.verity_superblock.specs.Line.{TableLine, IsTableLine, canonical}
use Rattle.verity_chain.specs.Table.{tree_len}
use Rattle.cli_faults.specs.Faults.{line}
use Rattle.os_files.specs.declared.identity.Identity.{Identity}
use Rattle.os_files.specs.declared.part.Part.TheVariants.{AtMost}
use Rattle.os_files.specs.declared.system.System.{Ghosts}
use Rattle.verity_disks.specs.declared.disks.Disks as disks
use Rattle.os_journal.specs.Journals.{IsMadeWhole}
use Rattle.os_commit_flag.specs.Shut.{IsShutBeside}
use Rattle.verity_pull.specs.Done.{IsDone}
use Rattle.verity_pull.specs.declared.either.Counts.{Counts}
use Rattle.cli_arguments.specs.declared.words.pull.PullWords.{PullWords}
use Rattle.verity_moved.specs.Moved.{Moving, moved_from}
use Rattle.cli_pull.specs.Opening.{AreApart, IsLeft, IsSourceAt}
use Rattle.cli_pull.specs.Superblocks.{IsSuperblock}
use Rattle.cli_pull.specs.Words.{IsAsked, IsOldRoot, own_line}
use Rattle.cli_pull.specs.declared.line.Asked.{Asked}

-- the three lines
abbrev pub pulled_text : Counts → List ℕ → List ℕ
pulled_text counts text = line (codes "fetched " ++ decimal counts.fetched)
    ++ (line (codes "kept " ++ decimal counts.kept) ++ line (codes "pulled " ++ text))

abbrev pub pulled_lines : Counts → TableLine → List ℕ
pulled_lines counts t = pulled_text counts (canonical t)

-- What was done over four stores of such blocks, of which the last two are the source's. The superblock was laid that is asked for, or
-- found; then the pull was done of a line, from the source's tree where HASH has its own.
pub record IsDoneBy {D : Type 0} (facts : store.Ghosts D) (moving : store.Ghosts (Moving D)) (asked : Asked) (t : TableLine)
    (l l' k k' s h : D) (counts : Counts) : Type 0 where
  pub root : Option (List ℕ)
  pub superblock : List ℕ
  pub k_read : D
  pub h_read : D
  pub s' : D
  pub h' : Moving D
  pub old_root : IsOldRoot asked.old t root
  pub looked : IsOnlyRead facts k k_read
  pub source_looked : IsOnlyRead facts h h_read
  pub laid : IsSuperblock facts facts k k_read h h_read asked.uuid asked.to t.hash_start_block superblock
  pub done : IsDone facts facts facts moving t superblock l l' k_read k' s s'
      (moved_from h_read t.hash_start_block asked.to.hash_start_block (tree_len t)) h' root counts

-- What was done between two states of a system. The source stands at the paths of the line of the words, and no commit of HASH was cut
-- short. From the one system to the other nothing but DATA and HASH was opened to be written, or closed, and they were closed as the
-- stores that the pull was done in; no two of the four are one file, but for the source's.
pub record IsFilled {S F D J : Type 0} (facts : Ghosts S F D J) (stores : store.Ghosts D) (moving : store.Ghosts (Moving D))
    (before after : S) (words : PullWords) (asked : Asked) (counts : Counts) : Type 0 where
  pub source_data : D
  pub source_hash : D
  pub image : D
  pub image' : D
  pub device : D
  pub device' : D
  pub source_data_file : Identity
  pub source_hash_file : Identity
  pub data_file : Identity
  pub hash_file : Identity
  pub data_there : IsSourceAt facts before asked.to.dev asked.to.data_blocks source_data source_data_file
  pub hash_there : IsSourceAt facts before asked.to.hash_dev (2 ^ 64 - 1) source_hash source_hash_file
  pub shut : IsShutBeside facts before words.hash_path.now
  pub apart : AreApart source_data_file source_hash_file data_file hash_file
  pub left : IsLeft facts before after words.data_path.now words.hash_path.now (AtMost asked.to.data_blocks)
      (AtMost (asked.start + tree_len (own_line words asked))) image device image' device' data_file hash_file
  pub done : IsDoneBy stores moving asked (own_line words asked) image image' device device' source_data source_hash counts

-- the system as it was, or as the recovery of the volume at the paths of DATA and HASH left it
abbrev pub IsReady : {S F D J : Type 0} → Ghosts S F D J → disks.Ghosts J → (before ready : S) → PullWords → Type 0
IsReady facts devices before ready words = (ready ≡ before) ⊎ ((is_recovered : Bool)
    × IsMadeWhole facts devices before ready None words.data_path.now words.hash_path.now is_recovered)

-- all that is done to the volume's files, from the system before to the one after
abbrev pub IsMade : {S F D J : Type 0} → Ghosts S F D J → store.Ghosts D → disks.Ghosts J → store.Ghosts (Moving D) → (before after : S)
    → PullWords → Asked → Counts → Type 0
IsMade facts stores devices moving before after words asked counts = (ready : _) × IsReady facts devices before ready words
    × IsFilled facts stores moving ready after words asked counts

-- What `pull` prints, and what was done then: a commit that had been cut short was recovered first; the counts, and the line of the words,
-- with DATA and HASH as its devices, where HASH's tree begins.
pub record IsPulledThere {S F D J : Type 0} (facts : Ghosts S F D J) (stores : store.Ghosts D) (devices : disks.Ghosts J)
    (moving : store.Ghosts (Moving D)) (before after : S) (words : PullWords) (old new : Option (List ℕ)) : Type 0 where
  pub ready : S
  pub asked : Asked
  pub counts : Counts
  pub is_ready : IsReady facts devices before ready words
  pub is_asked : IsAsked words asked
  pub profile : IsTableLine (own_line words asked)
  pub filled : IsFilled facts stores moving ready after words asked counts
  pub printed : Appends old new (pulled_lines counts (own_line words asked))
