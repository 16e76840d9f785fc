-- What a commit makes of the devices of a volume.
use Rattle.std.specs.Prelude.{◌≡◌, ◌⊎◌, ℕ, List, ⊤, Result, Ok, Err}
use Rattle.verity_store.specs.declared.store.BlockStore as store
use Rattle.verity_disks.specs.Disks.{Contents}
use Rattle.verity_journal.specs.Journal.{Pair, pair_of, recovered_pair, IsNamed}
use Rattle.verity_stage.specs.Stage.{bytes_below}
use Rattle.verity_edit.specs.declared.command.Committed.{Committed}
use Rattle.verity_edit.specs.Committing.{IsRefusal}
use Rattle.verity_edit.specs.Editing.{Editing}
use Rattle.verity_trusted.specs.Line.{LineEditing, IsRefusalUnder}
use Rattle.verity_commit.specs.declared.fault.CommitFault.{CommitFault}
use Rattle.verity_commit.specs.declared.fault.CommitFault.TheVariants as fault

-- the editor refused
abbrev pub IsEdit : Result Committed CommitFault → Type 0
IsEdit (Ok committed) = ⊥
IsEdit (Err (fault.Edit e)) = ⊤
IsEdit (Err (fault.Disks e)) = ⊥

-- what an editor refused, and why
abbrev pub ExplainsCommit : {D H : Type 0} → store.Ghosts D → store.Ghosts H → (old new : Editing D H) → CommitFault → Type 0
ExplainsCommit data_facts hash_facts old new (fault.Edit e) =
    IsRefusal old.broken (data_facts.failures old.data_store) (data_facts.failures new.data_store)
    (hash_facts.failures old.hash_store) (hash_facts.failures new.hash_store) e
ExplainsCommit data_facts hash_facts old new (fault.Disks e) = ⊤

-- what an editor under a table line refused, and why
abbrev pub ExplainsEdit : {D H : Type 0} → store.Ghosts D → store.Ghosts H → (old new : LineEditing D H) → CommitFault → Type 0
ExplainsEdit data_facts hash_facts old new (fault.Edit e) = IsRefusalUnder data_facts hash_facts old new e
ExplainsEdit data_facts hash_facts old new (fault.Disks e) = ⊤

-- the devices hold what stands below these two staged stores
abbrev pub Holds : {D H : Type 0} → store.Ghosts D → store.Ghosts H → D → H → Contents → Type 0
Holds data_facts hash_facts data_store hash_store seen =
    pair_of seen ≡ (bytes_below (data_facts.fixed data_store), bytes_below (hash_facts.fixed hash_store))

-- recovery makes the one pair or the other, and a plan behind an open gate has these names
pub record IsOneOf (names : List ℕ) (old new : Pair) (contents : Contents) : Type 0 where
  pub volume : (recovered_pair contents ≡ old) ⊎ (recovered_pair contents ≡ new)
  pub named : IsNamed names contents
