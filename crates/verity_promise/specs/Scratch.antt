-- What any list of edits and commits leaves of a volume. The facts of a store of the type S are S.BlockStore.
use Rattle.std.specs.Prelude.{◌≡◌, ℕ, ◌+◌, ◌/◌, ◌<◌, ◌≤◌, true, false, List, [], ◌++◌, length, take, slice_index_or, All}
use Rattle.std.specs.Prelude.{IfSome, OnOk, OnErr}
use Rattle.std.specs.List.{concat, list_any, Contains}
use Rattle.verity_digest.specs.Tree.{root}
use Rattle.verity_store.specs.Stores.{IsOnlyRead}
use Rattle.verity_store.specs.declared.store.BlockStore as store
use Rattle.verity_store.specs.declared.fault.Which.{Which}
use Rattle.verity_superblock.specs.Superblock.{Params}
use Rattle.verity_superblock.specs.Image.{hash_image}
use Rattle.verity_edit.specs.declared.command.Command.{Command}
use Rattle.verity_edit.specs.declared.command.Reply.{Reply}
use Rattle.verity_edit.specs.declared.command.Reply.TheVariants.{Refused}
use Rattle.verity_pending.specs.declared.fault.EditFault.TheVariants.{Store}
use Rattle.verity_build.specs.Faults.{HasFailed}
use Rattle.verity_edit.specs.Edits.{unedited}
use Rattle.verity_edit.specs.After.{State, After}
use Rattle.verity_edit.specs.Planning.{volume_hashing}
use Rattle.verity_edit.specs.declared.editor.OpenRefused.{OpenRefused}
use Rattle.verity_edit.specs.Editing.{Editing, Stays}
use Rattle.verity_edit.specs.Opening.{IsOpened, ReadsOnce, ExplainsOpen, presented}
use Rattle.verity_edit.specs.Running.{IsChain, IsNoFailure, IsUnfailed, is_commit}
use Rattle.verity_check.specs.Holds.{Holds}
use Rattle.verity_check.specs.Verifier.{AreStoresOf}
use Rattle.verity_promise.specs.declared.edited.Edited.{Edited}
use Rattle.verity_promise.specs.Lines.{IsLine}

module _ {D H : Type 0} (on_data : store.Ghosts D) (on_hash : store.Ghosts H) (d : D) (h : H) (offset : ℕ) where
  -- the blocks in front of the superblock's
  abbrev pub front : List (List ℕ)
  front = take (offset / on_hash.size h) (on_hash.content h)

  -- the volume as it was opened
  abbrev pub begun : State
  begun = record { edits = unedited (on_data.content d); broken = false }

  -- From there on the commands that were done led to this state with the replies that were added; and what is left is made from
  -- scratch of its committed image. A state is broken where a commit was cut short.
  pub record IsFromScratch {A C : Type 0} (p : Params) (done : List (Command C)) (added : List Reply) (left : Edited D H A) : Type 0 where
    pub state : State
    pub after : After (volume_hashing p) p.data_block_size done added begun state
    pub unfailed : on_data.failures left.data_store ≡ on_data.failures d → on_hash.failures left.hash_store ≡ on_hash.failures h
        → (state.broken ≡ false) × All IsUnfailed added
    pub image : state.broken ≡ false → on_data.content left.data_store ≡ state.edits.committed
    pub device : state.broken ≡ false → list_any is_commit added ≡ true
        → concat (on_hash.content left.hash_store) ≡ hash_image p state.edits.committed front
    pub root : state.broken ≡ false → left.root ≡ root (volume_hashing p) state.edits.committed
    pub table : IfSome left.table (λ t. (state.broken ≡ false) × Holds t (on_data.tells left.data_store)
        (on_data.content left.data_store) (on_hash.tells left.hash_store) (on_hash.content left.hash_store) state.edits.committed)

  -- no volume was opened, for this fault, for which no store failed unless it says so, and both stores were only read
  pub record IsRefused (r : OpenRefused D H) : Type 0 where
    pub fault : ExplainsOpen (presented on_data on_hash d h offset) (on_data.tells d ≡ true) (on_hash.tells h ≡ true)
        (on_data.failures d < on_data.failures r.data_store) (on_hash.failures h < on_hash.failures r.hash_store) r.fault
    pub unfailed : IsNoFailure r.fault → (on_data.failures r.data_store ≡ on_data.failures d)
        × (on_hash.failures r.hash_store ≡ on_hash.failures h)
    pub data_store : IsOnlyRead on_data d r.data_store
    pub hash_store : IsOnlyRead on_hash h r.hash_store

  -- where no commit was answered, an editor that isn't broken leaves both contents, and the root that was opened
  pub record IsUncommitted {A : Type 0} (opened : Editing D H) (left : Edited D H A) : Type 0 where
    pub data_content : on_data.content left.data_store ≡ on_data.content d
    pub hash_content : on_hash.content left.hash_store ≡ on_hash.content h
    pub root : left.root ≡ opened.root

  -- A volume at the offset was opened, edited and closed, and replies were added to the first of the commands. `chain` says what
  -- each reply means. Over any stores each data block is read at most once, at the opening, and none behind it; the blocks in front
  -- stay; a store that a reply names failed; and the editor breaks only where the data store was asked for a change. `scratch` is
  -- over stores that tell.
  pub record IsEdited {A C : Type 0} (commands : List (Command C)) (old new : List Reply) (left : Edited D H A) : Type 0 where
    pub opened : Editing D H
    pub closed : Editing D H
    pub opens : IsOpened on_data on_hash d h offset opened
    pub reads : ReadsOnce on_data on_hash d opened.data_store h opened.hash_store opened.volume.params.algorithm
    pub added : List Reply
    pub replies : new ≡ old ++ added
    pub all : OnOk left.done (length added ≡ length commands)
    pub short : OnErr left.done (length added < length commands)
    pub named : (which : Which) → Contains added (Refused (Store which)) → HasFailed (on_data.failures d < on_data.failures left.data_store)
        (on_hash.failures h < on_hash.failures left.hash_store) which
    pub chain : IsChain on_data on_hash (take (length added) commands) added opened closed
    pub stays : Stays on_data on_hash opened closed
    pub uncommitted : list_any is_commit added ≡ false → closed.broken ≡ false → IsUncommitted opened left
    pub data_store : left.data_store ≡ closed.data_store
    pub hash_store : left.hash_store ≡ closed.hash_store
    pub root : left.root ≡ closed.root
    pub table : IfSome left.table (λ t. (closed.broken ≡ false)
        × IsLine on_data on_hash closed.data_store closed.hash_store opened.first closed.root closed.volume.params.salt t)
    pub unread : on_data.reads left.data_store ≡ on_data.reads opened.data_store
    pub data_reads : on_data.reads left.data_store ≤ on_data.reads d + length (on_data.content d)
    pub stays_front : (q : ℕ) → q < offset / on_hash.size h
        → slice_index_or (on_hash.content left.hash_store) q [] ≡ slice_index_or (on_hash.content h) q []
    pub fits : IfSome left.table (λ t. AreStoresOf on_data on_hash t left.data_store left.hash_store)
    pub scratch : on_data.tells d ≡ true → on_hash.tells h ≡ true
        → IsFromScratch opened.volume.params (take (length added) commands) added left
