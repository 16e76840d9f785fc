-- What is made of a volume's files by what its journal says, over a system.
use Rattle.std.specs.Prelude.{◌≡◌, ◌≢◌, ◌⊎◌, ℕ, Bool, true, false, List, [], length, is_some, Option, None, Some, IfSome}
use Rattle.std.specs.Borrow.{Bor}
use Rattle.cli_faults.specs.declared.command.Lock.TheVariants as lock
use Rattle.os_files.specs.declared.identity.Identity.{Identity}
use Rattle.os_files.specs.declared.system.System.{Ghosts}
use Rattle.verity_disks.specs.Disks.{IsDurable, LeavesOnly}
use Rattle.verity_journal.specs.Journal.{pair_of, plan_of, recovered_pair, IsJournal}
use Rattle.verity_disks.specs.declared.disks.Device.TheVariants.{Data, Hash, Journal}
use Rattle.verity_disks.specs.declared.disks.Disks as disks
use Rattle.os_journal.specs.Names.{AreNames, IsJournalPath, IsOfVolume}

module _ {S F D J : Type 0} (facts : Ghosts S F D J) where
  -- what stands at a path was opened to be written, which made the system this one; or nothing is seen there
  abbrev pub IsFoundToWrite : S → List ℕ → S → Option F → Type 0
  IsFoundToWrite old path new (Some opened) = facts.opens_to_write old path opened new
  IsFoundToWrite old path new None = facts.lacks old path × (new ≡ old)

  -- what was opened at a path is one of a volume's two files
  abbrev pub IsOneOf : S → List ℕ → (image device : Identity) → Type 0
  IsOneOf old path image device = (opened : F) × (new : S) × facts.opens_to_write old path opened new
      × ((facts.identity opened ≡ image) ⊎ (facts.identity opened ≡ device))

  -- HASH and DATA were opened at their paths to be written, are two files, and no other program works on them
  pub record AreOpened (old : S) (data_path hash_path : List ℕ) (image device : F) (new : S) : Type 0 where
    pub between : S
    pub hash_opened : facts.opens_to_write old hash_path device between
    pub data_opened : facts.opens_to_write between data_path image new
    pub apart : facts.identity image ≢ facts.identity device
    pub data_locked : facts.locks new image lock.Alone
    pub hash_locked : facts.locks new device lock.Alone

  -- What was opened as DATA, as HASH and as a journal of these bytes became three devices, and from these came others, on which stands
  -- what the journal makes of the first, and all of it is on them. A crash at a moment between leaves what it might have left of the first,
  -- or what stands for the same volume.
  pub record Starts (devices : disks.Ghosts J) (s : S) (image device journal : F) (bytes : List ℕ) (left : J) : Type 0 where
    pub joined : J
    pub joins : facts.joins s image device journal joined
    pub data_len : length (devices.seen joined Data) ≡ facts.len image
    pub hash_len : length (devices.seen joined Hash) ≡ facts.len device
    pub read : devices.seen joined Journal ≡ bytes
    pub is_journal : IsJournal bytes
    pub made : pair_of (devices.seen left) ≡ recovered_pair (devices.seen joined)
    pub durable : IsDurable (devices.seen left) (devices.may_leave left)
    pub any_moment : LeavesOnly devices.moment devices.left_since joined left
        (λ c. devices.may_leave joined c ⊎ (recovered_pair c ≡ recovered_pair (devices.seen joined)))

  -- the same of a journal that has no byte
  abbrev pub StartsAnew : disks.Ghosts J → S → (image device journal : F) → J → Type 0
  StartsAnew devices s image device journal left = Starts devices s image device journal [] left

  -- a journal was opened at a path, in which no byte stands, and the devices started with it
  pub record IsNew (devices : disks.Ghosts J) (old new : S) (path : List ℕ) (image device : F) (left : J) : Type 0 where
    pub journal : F
    pub opened : facts.opens_to_write old path journal new
    pub starts : StartsAnew devices new image device journal left

  -- a journal was opened at a path, all of it was read, and what it says was made of both files: where a plan stands in it, it is of this
  -- volume
  pub record Recovers (devices : disks.Ghosts J) (old new : S) (path : List ℕ) (image device : F) (names : List ℕ)
      (is_recovered : Bool) (left : J) : Type 0 where
    pub journal : F
    pub bytes : List ℕ
    pub opened : facts.opens_to_write old path journal new
    pub read : facts.reads new journal 0 bytes
    pub whole : length bytes ≡ facts.len journal
    pub named : IfSome (plan_of bytes) (λ plan. IsOfVolume facts new device names plan.names)
    pub recovered : is_recovered ≡ is_some (plan_of bytes)
    pub starts : Starts devices new image device journal bytes left

  -- so it was, the three devices were closed as they were left, and the journal was removed
  pub record IsCarriedOut (devices : disks.Ghosts J) (old new : S) (data_path hash_path path : List ℕ) (image device : F)
      (names : List ℕ) (is_recovered : Bool) : Type 0 where
    pub left : J
    pub opened : S
    pub closed : S
    pub recovers : Recovers devices old opened path image device names is_recovered left
    pub parted : facts.parts opened data_path hash_path path left closed
    pub removed : facts.removes closed path new

  -- so it was; or nothing is seen at the journal's path, and nothing was done
  abbrev pub IsMade : disks.Ghosts J → (old new : S) → (data_path hash_path path : List ℕ) → (image device : F) → (names : List ℕ)
      → Bool → Type 0
  IsMade devices old new data_path hash_path path image device names true =
      IsCarriedOut devices old new data_path hash_path path image device names true
  IsMade devices old new data_path hash_path path image device names false =
      (facts.lacks old path × (new ≡ old)) ⊎ IsCarriedOut devices old new data_path hash_path path image device names false

  -- a volume was made whole: from the system before to the one after leads a chain of the openings of its files and its journal, the
  -- closing and the removal, and nothing else
  pub record IsMadeWhole (devices : disks.Ghosts J) (old new : S) (journal : Option (Bor (List ℕ))) (data_path hash_path : List ℕ)
      (is_recovered : Bool) : Type 0 where
    pub image : F
    pub device : F
    pub opened : S
    pub path : List ℕ
    pub names : List ℕ
    pub files : AreOpened old data_path hash_path image device opened
    pub stands : IsJournalPath facts opened journal hash_path path
    pub named : AreNames facts opened (facts.identity image) data_path (facts.identity device) hash_path names
    pub made : IsMade devices opened new data_path hash_path path image device names is_recovered
