-- The files of a system in memory.
use Rattle.std.specs.Prelude.{◌≡◌, ℕ, List, [], codes, Option, None, Some, unwrap_or}
use Rattle.std.specs.Option.{option_map}
use Rattle.verity_journal.specs.Journal.{recovered}
use Rattle.verity_disks.specs.Tearing.{Three, read_of}
use Rattle.test_system.specs.declared.memory.MemOpened.{MemOpened}
use Rattle.test_system.specs.declared.memory.MemSystem.{MemSystem}

-- the bytes of `hash`, and of `hash.journal`; none where there is no file
abbrev pub device_of : MemSystem → List ℕ
device_of system = unwrap_or (option_map (λ bytes. bytes.items) system.device) []

abbrev pub journal_of : MemSystem → List ℕ
journal_of system = unwrap_or (option_map (λ bytes. bytes.items) system.journal) []

-- what was opened at a path has the file's bytes
pub record IsOpened (system : MemSystem) (path : List ℕ) (opened : MemOpened) : Type 0 where
  pub image : path ≡ codes "data" → opened.bytes.items ≡ system.image.items
  pub device : path ≡ codes "hash" → opened.bytes.items ≡ device_of system
  pub journal : path ≡ codes "hash.journal" → opened.bytes.items ≡ journal_of system

-- what is read of three devices are the bytes of three files
pub record AreJoined (image device journal : MemOpened) (three : Three) : Type 0 where
  pub on_data : read_of three.on_data ≡ image.bytes.items
  pub on_hash : read_of three.on_hash ≡ device.bytes.items
  pub on_journal : read_of three.on_journal ≡ journal.bytes.items

-- the files at three paths have what is on three devices: what wasn't synced is lost
pub record AreParted (data_path hash_path path : List ℕ) (three : Three) (new : MemSystem) : Type 0 where
  pub image : data_path ≡ codes "data" → new.image.items ≡ three.on_data.durable
  pub device : hash_path ≡ codes "hash" → device_of new ≡ three.on_hash.durable
  pub journal : path ≡ codes "hash.journal" → journal_of new ≡ three.on_journal.durable

-- both files are what the journal makes of them, and it is gone
pub record AreRecovered (old new : MemSystem) : Type 0 where
  pub files : (new.image.items, device_of new) ≡ recovered (journal_of old) (old.image.items, device_of old)
  pub removed : new.journal ≡ None
