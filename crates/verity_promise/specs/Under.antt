-- Edits under a trusted table line, and what is then served. The facts of a store of the type S are S.BlockStore.
use Rattle.std.specs.Prelude.{◌≡◌, ◌≢◌, ◌⊎◌, ℕ, ◌<◌, ◌≤◌, true, false, List, [], ◌∷◌, ◌++◌, length, take}
use Rattle.std.specs.Prelude.{IfSome, None, Ok, OnOk, OnErr, Result, Some}
use Rattle.verity_digest.specs.Tree.{root}
use Rattle.nbd_hub.specs.declared.fault.ServeFault.{ServeFault}
use Rattle.nbd_hub.specs.Stream.{Ends}
use Rattle.verity_store.specs.Stores.{IsOnlyRead}
use Rattle.verity_store.specs.declared.store.BlockStore as store
use Rattle.verity_chain.specs.Table.{Table, hashing_of}
use Rattle.verity_chain.specs.Right.{Fits, Clash}
use Rattle.verity_edit.specs.declared.command.Command.{Command}
use Rattle.verity_edit.specs.declared.command.Reply.{Reply}
use Rattle.verity_edit.specs.declared.command.Reply.TheVariants.{Refused}
use Rattle.verity_edit.specs.declared.editor.OpenRefused.{OpenRefused}
use Rattle.verity_edit.specs.After.{step}
use Rattle.verity_edit.specs.Edits.{Edits, unedited}
use Rattle.verity_edit.specs.Editing.{Stays}
use Rattle.verity_edit.specs.Faults.{IsNotPassedOver}
use Rattle.verity_trusted.specs.Line.{LineEditing, IsOpenedUnder, IsAnsweredUnder, ExplainsUnder, editing_of}
use Rattle.verity_trusted.specs.Under.{line_given}
use Rattle.verity_check.specs.Verifier.{Verifying, AreStoresOf, IsOnlyReading}
use Rattle.verity_check.specs.declared.fault.CheckFault.TheVariants.{NoMemory}
use Rattle.verity_hub.specs.Verdicts.{SaysRight}
use Rattle.verity_promise.specs.declared.edited.Edited.{Edited}
use Rattle.verity_promise.specs.declared.delivery.Unserved.{Unserved}
use Rattle.verity_promise.specs.declared.delivery.Unserved.TheVariants as unserved
use Rattle.verity_promise.specs.Answers.{IsMadeOver}
use Rattle.verity_promise.specs.Delivery.{Serves}

-- what a command makes of the edits: nothing where it was refused
abbrev pub made_by : {A : Type 0} → ℕ → Command A → Reply → Edits → Edits
made_by size command (Refused fault) e = e
made_by size command _ e = step size command e

-- these commands, one after the other, with one reply each
abbrev pub made : {A : Type 0} → ℕ → List (Command A) → List Reply → Edits → Edits
made size (command ∷ commands) (reply ∷ replies) e = made size commands replies (made_by size command reply e)
made size _ _ e = e

-- the image that is committed after them
abbrev pub committed_by : {A : Type 0} → Table → List (Command A) → List Reply → List (List ℕ) → List (List ℕ)
committed_by t commands replies image = (made t.data_block_size commands replies (unedited image)).committed

-- the line of another image of the same volume
abbrev pub line_for : Table → List (List ℕ) → Table
line_for t image = record t { data_blocks = length image; root = root (hashing_of t) image }

-- In the editing, which began behind the first `mark` of what it gave, the hash store gave a block that differs from the own one of an
-- image that was committed on the way, at its place, and has its length and its digest: of the image after the first n commands.
pub record ClashesOnTheWay {H A : Type 0} (on_hash : store.Ghosts H) (t : Table) (mark : ℕ) (h : H) (commands : List (Command A))
    (replies : List Reply) (image : List (List ℕ)) : Type 0 where
  pub n : ℕ
  pub within : n < length replies
  pub way : List (List ℕ)
  pub is : way ≡ committed_by t (take n commands) (take n replies) image
  pub clash : Clash (line_for t way) (line_given on_hash (line_for t way) mark h) way

-- these commands were answered under a line, one after the other, with one reply each
abbrev pub IsChainUnder : {D H A : Type 0} → store.Ghosts D → store.Ghosts H → List (Command A) → List Reply → (old new : LineEditing D H)
    → Type 0
IsChainUnder on_data on_hash [] [] old new = new ≡ old
IsChainUnder {D = D} {H = H} on_data on_hash (command ∷ commands) (reply ∷ replies) old new = (now : LineEditing D H)
    × IsAnsweredUnder on_data on_hash command old now reply × IsChainUnder on_data on_hash commands replies now new
IsChainUnder on_data on_hash _ _ old new = ⊥

-- what the commands with a reply made of an image is left: its root, and its line, if there is a line
pub record IsLeftOf {D H A B : Type 0} (t : Table) (commands : List (Command A)) (added : List Reply) (left : Edited D H B)
    (image : List (List ℕ)) : Type 0 where
  pub root : left.root ≡ root (hashing_of t) (committed_by t (take (length added) commands) added image)
  pub table : IfSome left.table (λ line. Fits line (committed_by t (take (length added) commands) added image))

module _ {D H A : Type 0} (on_data : store.Ghosts D) (on_hash : store.Ghosts H) (d : D) (h : H) (t : Table)
    (commands : List (Command A)) where
  -- no volume was opened under the line, for this fault: the data store wasn't touched, and the hash store only read
  pub record IsRefusedUnder (r : OpenRefused D H) : Type 0 where
    pub fault : ExplainsUnder t (on_data.size d) (on_hash.size h) (length (on_data.content d)) (on_hash.content h)
        (on_hash.tells h ≡ true) (on_hash.failures h < on_hash.failures r.hash_store) r.fault
    pub failures : IsNotPassedOver (on_data.failures d) (on_data.failures r.data_store) (on_hash.failures h)
        (on_hash.failures r.hash_store) r.fault
    pub data_store : r.data_store ≡ d
    pub hash_store : IsOnlyRead on_hash h r.hash_store

  -- A volume was opened under the line, edited and closed, and replies were added to the first of the commands. `chain` says what
  -- each reply means. `right` is over any stores, for every image that fits the line.
  pub record IsEditedUnder {B : Type 0} (old new : List Reply) (left : Edited D H B) : Type 0 where
    pub opened : LineEditing D H
    pub closed : LineEditing D H
    pub opens : IsOpenedUnder on_data on_hash d h t opened
    pub added : List Reply
    pub replies : new ≡ old ++ added
    pub all : OnOk left.done (length added ≡ length commands)
    pub short : OnErr left.done (length added < length commands)
    pub chain : IsChainUnder on_data on_hash (take (length added) commands) added opened closed
    pub stays : Stays on_data on_hash (editing_of opened) (editing_of closed)
    pub data_store : left.data_store ≡ closed.data_store
    pub hash_store : left.hash_store ≡ closed.hash_store
    pub table : IfSome left.table (λ line. (closed.broken ≡ false) × (line ≡ closed.table))
    pub fits : IfSome left.table (λ line. AreStoresOf on_data on_hash line left.data_store left.hash_store)
    pub right : (image : List (List ℕ)) → Fits t image → IsLeftOf t commands added left image
        ⊎ ClashesOnTheWay on_hash t (length (on_hash.given h)) left.hash_store commands added image

  -- Why no client was served.
  abbrev pub ExplainsUnservedUnder : {B : Type 0} → (old new : List Reply) → Unserved D H B → Type 0
  ExplainsUnservedUnder old new (unserved.Opened r) = IsRefusedUnder r × (new ≡ old)
  ExplainsUnservedUnder old new (unserved.Edited left) = IsEditedUnder old new left × ((left.done ≢ Ok tt) ⊎ (left.table ≡ None))
  ExplainsUnservedUnder {B = B} old new (unserved.Check fault) =
      (fault ≡ NoMemory) × ((left : Edited D H B) × IsEditedUnder old new left)

  -- A volume was edited under a line, and served under the new line by the very stores that were left, to one client. For every image
  -- that fits the old line, what was said is right for what the commands made of the image, unless there is a clash on the way.
  pub record DeliversUnder (B : Type 0) (old new : List Reply) (called : List ℕ) (ends : Ends) (limit : ℕ)
      (result : Result (Unit {0}) ServeFault) : Type 0 where
    pub left : Edited D H B
    pub edited : IsEditedUnder old new left
    pub done : left.done ≡ Ok tt
    pub line : Table
    pub table : left.table ≡ Some line
    pub made : Verifying D H
    pub after : Verifying D H
    pub over : IsMadeOver on_data on_hash line left.data_store left.hash_store made
    pub reads : IsOnlyReading on_data on_hash made after
    pub right : (image : List (List ℕ)) → Fits t image
        → Serves on_data on_hash called ends limit result line
        (SaysRight on_data on_hash after (committed_by t commands edited.added image))
        ⊎ ClashesOnTheWay on_hash t (length (on_hash.given h)) left.hash_store commands edited.added image
