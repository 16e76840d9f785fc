-- The files that a table line names, and the hub over them.
use Rattle.std.specs.Prelude.{◌≡◌, ◌≢◌, ℕ, ◌*◌, ◌%◌, ◌<◌, ◌≤◌, ◌⊎◌, true, List, length, Some, ⊤}
use Rattle.nbd_session.specs.declared.offer.Offer.{Offer}
use Rattle.verity_store.specs.declared.store.BlockStore as store
use Rattle.verity_store.specs.declared.fault.StoreFault.{StoreFault}
use Rattle.verity_store.specs.declared.fault.StoreFault.TheVariants as store_fault
use Rattle.verity_store.specs.declared.fault.Which.TheVariants as which
use Rattle.verity_profile.specs.Profile.{IsBlockSize}
use Rattle.verity_superblock.specs.Line.{TableLine, Line, line_refusal}
use Rattle.verity_check.specs.Verifier.{IsCacheSize, Verifying}
use Rattle.verity_check.specs.declared.fault.CheckFault.TheVariants as check
use Rattle.cli_faults.specs.Commands.{lock_of}
use Rattle.os_files.specs.Reached.{IsShutOutAt}
use Rattle.cli_faults.specs.declared.command.Command.{Command}
use Rattle.cli_faults.specs.declared.failure.Failure.{Failure}
use Rattle.cli_faults.specs.declared.failure.Failure.TheVariants as failure
use Rattle.cli_faults.specs.declared.fault.Fault.TheVariants as fault
use Rattle.os_files.specs.declared.part.Part.TheVariants.{AtMost}
use Rattle.os_files.specs.declared.system.System.{Ghosts}
use Rattle.os_commit_flag.specs.Shut.{IsOpenBeside, IsUnusableBeside}

-- a store of what was opened at a path: of a file all, of a device the first blocks, at most so many
abbrev pub LiesAt : {S F D J : Type 0} → Ghosts S F D J → S → List ℕ → (blocks : ℕ) → D → Type 0
LiesAt facts s path blocks store = (opened : _) × facts.opens s path opened × facts.lies s opened (AtMost blocks) store

-- what was opened at a path is no whole number of blocks
abbrev pub IsRaggedAt : {S F D J : Type 0} → Ghosts S F D J → S → List ℕ → (size : ℕ) → Type 0
IsRaggedAt facts s path size = (opened : _) × facts.opens s path opened
    × ((count : ℕ) × facts.has_len s opened count × (count % size ≢ 0))

-- a file isn't opened as a store of such blocks: the system refused a call; it is no whole number of blocks; want of memory; no block has
-- that size
abbrev pub IsNoStore : {S F D J : Type 0} → Ghosts S F D J → S → List ℕ → (size : ℕ) → StoreFault → Type 0
IsNoStore facts s path size store_fault.Device = facts.refuses s ≡ true
IsNoStore facts s path size store_fault.Ragged = IsRaggedAt facts s path size
IsNoStore facts s path size store_fault.NoMemory = ⊤
IsNoStore facts s path size store_fault.BlockSize = ¬ IsBlockSize size

-- the files of a volume aren't opened for a command: S1 to S4 of either; another's lock shuts this one out; a gate is open beside the hash
-- device, or its journal can't be used; want of memory
abbrev pub OpensNone : {S F D J : Type 0} → Ghosts S F D J → S → TableLine → Command → Failure → Type 0
OpensNone facts s table command failure.NoMemory = ⊤
OpensNone facts s table command (failure.Refused (fault.Store f)) =
    IsNoStore facts s table.dev table.data_block_size f
    ⊎ IsNoStore facts s table.hash_dev table.hash_block_size f
OpensNone facts s table command (failure.Refused (fault.InUse which.Data)) = IsShutOutAt facts s table.dev (lock_of command)
OpensNone facts s table command (failure.Refused (fault.InUse which.Hash)) = IsShutOutAt facts s table.hash_dev (lock_of command)
OpensNone facts s table command (failure.Refused fault.UnderWay) = IsOpenBeside facts s table.hash_dev
OpensNone facts s table command (failure.Refused fault.Journal) = IsUnusableBeside facts s table.hash_dev
OpensNone facts s table command _ = ⊥

-- nor is a hub over them made; what is said of the line, the name or the sizes of the caches is so
abbrev pub OpensNoHub : {S F D J : Type 0} → Ghosts S F D J → S → (line name : List ℕ) → (cache data_cache : ℕ) → Command → Failure
    → Type 0
OpensNoHub facts s line name cache data_cache command (failure.Refused (fault.Table f)) = line_refusal line ≡ Some f
OpensNoHub facts s line name cache data_cache command (failure.Refused (fault.Session f)) = (length name ≡ 0) ⊎ (255 < length name)
OpensNoHub facts s line name cache data_cache command (failure.Refused (fault.Check check.CacheSize)) =
    ¬ (IsCacheSize cache × (data_cache ≤ 65536))
OpensNoHub facts s line name cache data_cache command (failure.Refused (fault.Check check.Lengths)) = ⊤
OpensNoHub facts s line name cache data_cache command failure.NoMemory = ⊤
OpensNoHub facts s line name cache data_cache command e = (table : TableLine) × Line line table × OpensNone facts s table command e

-- the volume of a table line, offered under this name
abbrev pub offered : TableLine → (name : List ℕ) → Offer
offered table name = record {
  name = name;
  size = table.data_blocks * table.data_block_size;
  block = table.data_block_size;
}

module _ {D H : Type 0} (data_facts : store.Ghosts D) (hash_facts : store.Ghosts H) where
  -- nothing that the stores gave, and none of their failures, lies behind its making
  pub record IsJustMade (v : Verifying D H) : Type 0 where
    pub data_mark : v.data_mark ≡ data_facts.failures v.data_store
    pub hash_mark : v.hash_mark ≡ hash_facts.failures v.hash_store
    pub of_data : v.since.of_data ≡ length (data_facts.given v.data_store)
    pub of_hash : v.since.of_hash ≡ length (hash_facts.given v.hash_store)
