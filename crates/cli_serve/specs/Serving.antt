-- What `talk` serves, and to what end.
use Rattle.std.specs.Prelude.{ℕ, ◌-◌, ◌^◌, List, Result, Ok, Err}
use Rattle.verity_store.specs.declared.store.BlockStore as store
use Rattle.nbd_hub.specs.declared.fault.ServeFault.{ServeFault}
use Rattle.nbd_hub.specs.declared.fault.ServeFault.TheVariants as serve
use Rattle.nbd_hub.specs.Stream.{Ends, Served, ServedBy}
use Rattle.verity_superblock.specs.Line.{TableLine, Line}
use Rattle.verity_chain.specs.Right.{Fits}
use Rattle.verity_check.specs.Verifier.{Verifying, IsOnlyReading}
use Rattle.verity_hub.specs.Verdicts.{facts_of, SaysRight}
use Rattle.os_files.specs.declared.system.System.{Ghosts}
use Rattle.os_commit_flag.specs.Shut.{IsShutBeside}
use Rattle.cli_serve.specs.Opening.{offered, IsJustMade, LiesAt}
use Rattle.cli_arguments.specs.declared.words.talk.TalkWords.{TalkWords}

-- the most turns of a session
abbrev pub most_turns : ℕ
most_turns = 2 ^ 40

-- the status for a session that ended so
abbrev pub status_of_session : Result (Unit {0}) ServeFault → ℕ
status_of_session (Ok done) = 0
status_of_session (Err serve.Starved) = 3
status_of_session (Err fault) = 1

-- the volume of this line was opened: two stores of what was opened at the line's paths, and no commit is under way beside its hash device
pub record IsOpenedBy {S F D J : Type 0} (facts : Ghosts S F D J) (s : S) (text : List ℕ) : Type 0 where
  pub table : TableLine
  pub image : D
  pub device : D
  pub line : Line text table
  pub of_data : LiesAt facts s table.dev table.data_blocks image
  pub of_hash : LiesAt facts s table.hash_dev (2 ^ 64 - 1) device
  pub shut : IsShutBeside facts s table.hash_dev

module _ {D H : Type 0} (data_facts : store.Ghosts D) (hash_facts : store.Ghosts H) where
  -- What `talk` has read and said where its session ended so: the talk of what it read by verdicts of a verifier of the line among its
  -- words, which was just made; right for every image that fits the line. Where it ended well, all that its client sent was read, or all
  -- until the session was over.
  pub record IsTalked (words : TalkWords) (ends : Ends) (ended : Result (Unit {0}) ServeFault) : Type 0 where
    pub old : Verifying D H
    pub new : Verifying D H
    pub line : Line words.table.now old.table
    pub made : IsJustMade data_facts hash_facts old
    pub reads : IsOnlyReading data_facts hash_facts old new
    pub served : Served (facts_of data_facts hash_facts old) (facts_of data_facts hash_facts new) (offered old.table words.name.now) ends
        most_turns ended
    pub right : (image : List (List ℕ)) → Fits old.table image
        → ServedBy (SaysRight data_facts hash_facts new image (offered old.table words.name.now)) (offered old.table words.name.now) ends
        most_turns ended
