-- What a notice is told of a commit, and when.
use Rattle.std.specs.Prelude.{◌≡◌, ⊤, Result, Ok, Err}
use Rattle.verity_store.specs.declared.store.BlockStore as store
use Rattle.verity_edit.specs.declared.command.Committed.{Committed}
use Rattle.verity_edit.specs.Committing.{IsRefusal}
use Rattle.verity_edit.specs.Editing.{Editing}
use Rattle.verity_trusted.specs.Line.{LineEditing, IsRefusalUnder}
use Rattle.verity_superblock.specs.Superblock.{Volume}
use Rattle.verity_commit.specs.declared.notice.Notice as notice
use Rattle.verity_commit.specs.declared.notice.NotedFault.{NotedFault}
use Rattle.verity_commit.specs.declared.notice.NotedFault.TheVariants as fault

-- the editor refused, or the notice didn't let the commit go on
abbrev pub IsBefore : {F E : Type 0} → Result Committed (NotedFault F E) → Type 0
IsBefore (Ok committed) = ⊥
IsBefore (Err (fault.Edit e)) = ⊤
IsBefore (Err (fault.Notice e)) = ⊤
IsBefore (Err (fault.Devices e)) = ⊥

-- The notice was told of nothing where the editor refused; else of the commit that made this volume, which went on only where the
-- notice let it.
abbrev pub IsTold : {N F E : Type 0} → notice.Ghosts N F → (old new : N) → Volume → Result Committed (NotedFault F E) → Type 0
IsTold facts old new volume (Ok committed) = facts.noted old new volume committed
IsTold facts old new volume (Err (fault.Edit e)) = new ≡ old
IsTold facts old new volume (Err (fault.Notice e)) = facts.declined old new e
IsTold facts old new volume (Err (fault.Devices e)) = (committed : Committed) × facts.noted old new volume committed

-- what an editor refused, and why
abbrev pub ExplainsNoted : {D H F E : Type 0} → store.Ghosts D → store.Ghosts H → (old new : Editing D H) → NotedFault F E → Type 0
ExplainsNoted data_facts hash_facts old new (fault.Edit e) =
    IsRefusal old.broken (data_facts.failures old.data_store) (data_facts.failures new.data_store)
    (hash_facts.failures old.hash_store) (hash_facts.failures new.hash_store) e
ExplainsNoted data_facts hash_facts old new (fault.Notice e) = ⊤
ExplainsNoted data_facts hash_facts old new (fault.Devices e) = ⊤

-- what an editor under a table line refused, and why
abbrev pub ExplainsNotedEdit : {D H F E : Type 0} → store.Ghosts D → store.Ghosts H → (old new : LineEditing D H) → NotedFault F E → Type 0
ExplainsNotedEdit data_facts hash_facts old new (fault.Edit e) = IsRefusalUnder data_facts hash_facts old new e
ExplainsNotedEdit data_facts hash_facts old new (fault.Notice e) = ⊤
ExplainsNotedEdit data_facts hash_facts old new (fault.Devices e) = ⊤
