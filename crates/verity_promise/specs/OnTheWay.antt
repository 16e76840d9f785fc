-- An editor under a table line between two commands, and what it leaves. The facts of a store of the type S are S.BlockStore.
use Rattle.std.specs.Prelude.{◌≡◌, ◌⊎◌, ℕ, ◌≤◌, false, List, ◌++◌, length, take, IfSome, Result}
use Rattle.std.specs.declared.alloc.AllocError.{AllocError}
use Rattle.verity_store.specs.declared.store.BlockStore as store
use Rattle.verity_chain.specs.Table.{Table}
use Rattle.verity_chain.specs.Right.{Fits}
use Rattle.verity_edit.specs.declared.command.Command.{Command}
use Rattle.verity_edit.specs.declared.command.Reply.{Reply}
use Rattle.verity_edit.specs.Draft.{edits_of}
use Rattle.verity_edit.specs.Edits.{Edits, unedited}
use Rattle.verity_edit.specs.Editing.{Stays}
use Rattle.verity_trusted.specs.Line.{LineEditing, editing_of}
use Rattle.verity_check.specs.Verifier.{AreStoresOf}
use Rattle.verity_promise.specs.declared.edited.Edited.{Edited}
use Rattle.verity_promise.specs.Under.{made, line_for, ClashesOnTheWay, IsChainUnder}

-- the editor stands where these edits of an image lead, which it was opened with under the line t
pub record IsAt {D H : Type 0} (t : Table) (now : Edits) (e : LineEditing D H) : Type 0 where
  pub line : e.table ≡ line_for t now.committed
  pub fits : Fits e.table now.committed
  pub edits : e.broken ≡ false → edits_of now.committed e.draft ≡ now

-- the first `done` of the commands were answered under a line, and their replies added
pub record AreAnsweredUnder {D H A : Type 0} (on_data : store.Ghosts D) (on_hash : store.Ghosts H) (commands : List (Command A))
    (done : ℕ) (old new : LineEditing D H) (old_replies new_replies : List Reply) : Type 0 where
  pub added : List Reply
  pub replies : new_replies ≡ old_replies ++ added
  pub each : length added ≡ done
  pub few : done ≤ length commands
  pub chain : IsChainUnder on_data on_hash (take done commands) added old new
  pub stays : Stays on_data on_hash (editing_of old) (editing_of new)
  pub right : (mark : ℕ) → mark ≤ length (on_hash.given old.hash_store) → (image : List (List ℕ)) → IsAt old.table (unedited image) old
      → IsAt old.table (made old.table.data_block_size (take done commands) added (unedited image)) new
      ⊎ ClashesOnTheWay on_hash old.table mark new.hash_store commands added image

-- the editor's stores and root are left, and its line unless it was broken
pub record IsClosedUnder {D H A : Type 0} (on_data : store.Ghosts D) (on_hash : store.Ghosts H) (e : LineEditing D H)
    (done : Result (Unit {0}) AllocError) (left : Edited D H A) : Type 0 where
  pub data_store : left.data_store ≡ e.data_store
  pub hash_store : left.hash_store ≡ e.hash_store
  pub root : left.root ≡ e.table.root
  pub done_is : left.done ≡ done
  pub table : IfSome left.table (λ line. (e.broken ≡ false) × (line ≡ e.table))
  pub fits : IfSome left.table (λ line. AreStoresOf on_data on_hash line left.data_store left.hash_store)
