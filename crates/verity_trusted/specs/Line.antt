-- An editor under a trusted table line. The facts of a store of the type S are S.BlockStore.
use Rattle.std.specs.Prelude.{◌≡◌, ◌⊎◌, ℕ, suc, ◌+◌, ◌-◌, ◌^◌, ◌<◌, ◌≤◌, Bool, true, false, List, [], length, slice_index_or, Some}
use Rattle.verity_digest.specs.Hash.{Salted}
use Rattle.verity_digest.specs.Tree.{root}
use Rattle.verity_store.specs.declared.store.BlockStore as store
use Rattle.verity_store.specs.declared.fault.Which.TheVariants as which
use Rattle.verity_store.specs.Stores.{IsOnlyRead}
use Rattle.verity_superblock.specs.Superblock.{Volume, salted}
use Rattle.verity_superblock.specs.Reading.{refusal}
use Rattle.verity_chain.specs.Table.{Table, hashing_of, height, row_len, hash_place}
use Rattle.verity_chain.specs.Right.{Fits, Clash}
use Rattle.verity_build.specs.Faults.{HasFailed}
use Rattle.verity_edit.specs.declared.command.Command.{Command}
use Rattle.verity_edit.specs.declared.command.Command.TheVariants.{Commit}
use Rattle.verity_edit.specs.declared.command.Committed.{Committed}
use Rattle.verity_edit.specs.declared.command.Reply.{Reply}
use Rattle.verity_edit.specs.declared.command.Reply.TheVariants.{Done, Refused, Committed as CommittedReply}
use Rattle.verity_pending.specs.declared.fault.EditFault.{EditFault}
use Rattle.verity_pending.specs.declared.fault.EditFault.TheVariants.{NoMemory, Store, Broken, Superblock, DataLength, StoreSize}
use Rattle.verity_pending.specs.declared.fault.EditFault.TheVariants.{Line, Untrusted}
use Rattle.verity_pending.specs.Edits.{unedited}
use Rattle.verity_pending.specs.Draft.{Draft, edits_of}
use Rattle.verity_pending.specs.Touched.{bound, old_touched_count}
use Rattle.verity_pending.specs.Leaves.{hashes}
use Rattle.verity_edit.specs.Editing.{Editing, Commits, FitsStores, IsUnchanged, Stands, Stays, edits_in, fresh, width_in}
use Rattle.verity_edit.specs.Opening.{IsVolume, RefusesStores}
use Rattle.verity_plan.specs.Planning.{moves_of}
use Rattle.verity_edit.specs.Running.{IsEdit, IsFailed, IsMade, IsRuled, IsStarved}
use Rattle.verity_trusted.specs.Under.{IsLineFor, IsWrongBlock, line_given}

-- its stores; the line of what is committed; the superblock of it; the edits since the last commit; how many digests it made for its
-- commits; how many its last commit made to check hash blocks; and whether a commit failed after its first change
pub record LineEditing (D H : Type 0) : Type 0 where
  pub data_store : D
  pub hash_store : H
  pub table : Table
  pub volume : Volume
  pub draft : Draft
  pub hashed : ℕ
  pub checks : ℕ
  pub broken : Bool

-- the same, as an editor that trusts what it read: the tree's start and root are the line's
abbrev pub editing_of : {D H : Type 0} → LineEditing D H → Editing D H
editing_of e = record {
  data_store = e.data_store;
  hash_store = e.hash_store;
  volume = e.volume;
  first = e.table.hash_start_block;
  root = e.table.root;
  draft = e.draft;
  hashed = e.hashed;
  broken = e.broken;
}

-- the line is that of the volume behind which its tree begins
abbrev pub IsLineOf : Table → Volume → Type 0
IsLineOf t v = IsLineFor t v t.hash_start_block t.root

-- what every editor under a line keeps. Of what the stores hold it says nothing but sizes and lengths
pub record IsLineEditor {D H : Type 0} (data_facts : store.Ghosts D) (hash_facts : store.Ghosts H) (hashed_with : Salted)
    (e : LineEditing D H) : Type 0 where
  pub salted : hashed_with ≡ salted e.volume.params
  pub behind : 1 ≤ e.table.hash_start_block
  pub near : e.table.hash_start_block ≤ 2 ^ 40
  pub line : IsLineOf e.table e.volume
  pub fits : e.broken ≡ false → FitsStores data_facts hash_facts (editing_of e)

-- the stores hold an image, its tree and its root, as far as they tell
abbrev pub HoldsImage : {D H : Type 0} → store.Ghosts D → store.Ghosts H → LineEditing D H → Type 0
HoldsImage data_facts hash_facts e = data_facts.tells e.data_store ≡ true → hash_facts.tells e.hash_store ≡ true
    → Stands data_facts hash_facts (editing_of e)

-- the block in front of a line's tree
abbrev pub front_block : Table → List (List ℕ) → List ℕ
front_block t content = slice_index_or content (t.hash_start_block - 1) []

-- an editor under the line, over the data store as it was and a hash store of which one block was read: nothing is edited, and the
-- line is that of the superblock in front of its tree
pub record IsOpenedUnder {D H : Type 0} (data_facts : store.Ghosts D) (hash_facts : store.Ghosts H) (d : D) (h : H) (t : Table)
    (e : LineEditing D H) : Type 0 where
  pub table : e.table ≡ t
  pub volume : hash_facts.tells h ≡ true → IsVolume (front_block t (hash_facts.content h)) e.volume
  pub line : IsLineOf t e.volume
  pub behind : 1 ≤ t.hash_start_block
  pub fits : FitsStores data_facts hash_facts (editing_of e)
  pub draft : e.draft ≡ fresh t.data_block_size t.data_blocks
  pub edits : (image : List (List ℕ)) → length image ≡ t.data_blocks → edits_of image e.draft ≡ unedited image
  pub broken : e.broken ≡ false
  pub data_store : e.data_store ≡ d
  pub hash_store : IsOnlyRead hash_facts h e.hash_store
  pub reads : hash_facts.reads e.hash_store ≤ hash_facts.reads h + 1
  pub unfailed : hash_facts.failures e.hash_store ≡ hash_facts.failures h

-- the block begins with a volume's superblock, of which the line isn't
pub record IsOfAnother (t : Table) (block : List ℕ) : Type 0 where
  pub volume : Volume
  pub is_volume : IsVolume block volume
  pub other : ¬ (IsLineOf t volume)

-- it begins with the line's, but the stores aren't the volume's
pub record RefusesStoresUnder (t : Table) (block : List ℕ) (data_size hash_size blocks : ℕ) (fault : EditFault) : Type 0 where
  pub volume : Volume
  pub is_volume : IsVolume block volume
  pub line : IsLineOf t volume
  pub refused : RefusesStores volume data_size hash_size blocks fault

-- a store of so many blocks ends within the line's tree, in front of this place
pub record EndsAt (t : Table) (len level index : ℕ) : Type 0 where
  pub is_level : level < height t
  pub is_index : index < row_len t (suc level)
  pub place : hash_place t level index ≡ len

-- why a line's tree has no place in a store of so many blocks
abbrev pub ExplainsEnd : Table → ℕ → EditFault → Type 0
ExplainsEnd t len (Untrusted level index) = EndsAt t len level index
ExplainsEnd t len _ = ⊥

-- why no editor was opened under the line: the first that applies
abbrev pub ExplainsUnder : Table → ℕ → ℕ → ℕ → List (List ℕ) → Type 0 → Type 0 → EditFault → Type 0
ExplainsUnder t data_size hash_size blocks content told failed Line = (t.hash_start_block ≡ 0)
    ⊎ ((1 ≤ t.hash_start_block) × (told → IsOfAnother t (front_block t content)))
ExplainsUnder t data_size hash_size blocks content told failed (Superblock fault) = (1 ≤ t.hash_start_block)
    × (told → refusal (front_block t content) ≡ Some fault)
ExplainsUnder t data_size hash_size blocks content told failed (StoreSize which) = (1 ≤ t.hash_start_block)
    × (told → RefusesStoresUnder t (front_block t content) data_size hash_size blocks (StoreSize which))
ExplainsUnder t data_size hash_size blocks content told failed DataLength = (1 ≤ t.hash_start_block)
    × (told → RefusesStoresUnder t (front_block t content) data_size hash_size blocks DataLength)
ExplainsUnder t data_size hash_size blocks content told failed (Untrusted level index) = (1 ≤ t.hash_start_block)
    × EndsAt t (length content) level index
ExplainsUnder t data_size hash_size blocks content told failed NoMemory = 1 ≤ t.hash_start_block
ExplainsUnder t data_size hash_size blocks content told failed (Store which.Hash) = (1 ≤ t.hash_start_block) × failed
ExplainsUnder t data_size hash_size blocks content told failed _ = ⊥

-- how many blocks of the committed image's tree lie above its edited blocks
abbrev pub paths_in : {D H : Type 0} → store.Ghosts D → LineEditing D H → ℕ
paths_in data_facts e = old_touched_count (width_in (editing_of e)) (edits_in data_facts (editing_of e))

-- how many of its blocks a commit moves to where the tree of the working image has them
abbrev pub moved_in : {D H : Type 0} → LineEditing D H → ℕ
moved_in e = moves_of e.volume e.draft

-- what a commit makes of an image under the line: its edits' image, whose root is answered and which the new line fits
pub record IsNextImage {D H : Type 0} (old new : LineEditing D H) (committed : Committed) (image : List (List ℕ)) : Type 0 where
  pub root : committed.root ≡ root (hashing_of old.table) (edits_of image old.draft).working
  pub fits : Fits new.table (edits_of image old.draft).working

-- the pending edits were committed. `right` says over any stores what the answered root and the new line are worth: for every image
-- that fits the old line, they are those of its edits, or the hash store gave in this call, at a place of the tree, a block that
-- differs from the image's own there and has its length and its digest. `commits` says it over stores that hold the image
pub record CommitsUnder {D H : Type 0} (data_facts : store.Ghosts D) (hash_facts : store.Ghosts H) (old new : LineEditing D H)
    (committed : Committed) : Type 0 where
  pub whole : old.broken ≡ false
  pub sound : new.broken ≡ false
  pub right : (image : List (List ℕ)) → Fits old.table image → IsNextImage old new committed image
      ⊎ Clash old.table (line_given hash_facts old.table (length (hash_facts.given old.hash_store)) new.hash_store) image
  pub line : new.table ≡ record old.table { data_blocks = old.draft.working; root = committed.root }
  pub image : data_facts.tells old.data_store ≡ true
      → data_facts.content new.data_store ≡ (edits_of (data_facts.content old.data_store) old.draft).working
  pub draft : new.draft ≡ fresh old.draft.size old.draft.working
  pub volume : new.volume ≡ record old.volume { data_blocks = old.draft.working }
  pub counted : new.hashed ≡ old.hashed + committed.hashed
  pub bounded : committed.hashed ≤ bound (width_in (editing_of old)) (edits_in data_facts (editing_of old))
  pub once : committed.hashed ≡ hashes (width_in (editing_of old)) old.draft (edits_in data_facts (editing_of old))
  pub reads : old.draft.working ≡ old.draft.committed
      → hash_facts.reads new.hash_store ≤ hash_facts.reads old.hash_store + paths_in data_facts old
  pub moved_reads : hash_facts.reads new.hash_store ≤ hash_facts.reads old.hash_store + paths_in data_facts old + moved_in old
  pub checks : new.checks ≤ paths_in data_facts old
  -- Each block that was read was checked, once, or is moved.
  pub checks_each : hash_facts.reads new.hash_store ≤ hash_facts.reads old.hash_store + new.checks + moved_in old
  -- No failure of a store, of a sync neither, is passed over.
  pub data_unfailed : data_facts.failures new.data_store ≡ data_facts.failures old.data_store
  pub hash_unfailed : hash_facts.failures new.hash_store ≡ hash_facts.failures old.hash_store
  pub data_synced : data_facts.synced new.data_store ≡ true
  pub hash_synced : hash_facts.synced new.hash_store ≡ true
  pub commits : HoldsImage data_facts hash_facts old → Commits data_facts hash_facts (editing_of old) (editing_of new) committed
  pub holds : HoldsImage data_facts hash_facts old → HoldsImage data_facts hash_facts new

-- in this call the hash store gave a block at this place of the tree that isn't to be trusted; no store failed
pub record IsUntrusted {D H : Type 0} (data_facts : store.Ghosts D) (hash_facts : store.Ghosts H) (old new : LineEditing D H)
    (level index : ℕ) : Type 0 where
  pub wrong : IsWrongBlock hash_facts old.table (length (hash_facts.given old.hash_store)) old.hash_store new.hash_store level index
  pub data_unfailed : data_facts.failures new.data_store ≡ data_facts.failures old.data_store

-- why a commit under a line is refused: the editor is broken; the hash store gave a block that isn't to be trusted, or memory was
-- refused, and the editor isn't broken by it; or the store that is named failed
abbrev pub IsRefusalUnder : {D H : Type 0} → store.Ghosts D → store.Ghosts H → (old new : LineEditing D H) → EditFault → Type 0
IsRefusalUnder data_facts hash_facts old new Broken = old.broken ≡ true
IsRefusalUnder data_facts hash_facts old new NoMemory = (old.broken ≡ false) × (new.broken ≡ false)
    × (data_facts.failures new.data_store ≡ data_facts.failures old.data_store)
    × (hash_facts.failures new.hash_store ≡ hash_facts.failures old.hash_store)
IsRefusalUnder data_facts hash_facts old new (Untrusted level index) = (old.broken ≡ false) × (new.broken ≡ false)
    × IsUntrusted data_facts hash_facts old new level index
IsRefusalUnder data_facts hash_facts old new (Store which) = (old.broken ≡ false)
    × HasFailed (data_facts.failures old.data_store < data_facts.failures new.data_store)
    (hash_facts.failures old.hash_store < hash_facts.failures new.hash_store) which
IsRefusalUnder data_facts hash_facts old new _ = ⊥

-- a commit was refused for a block of the tree, and nothing is changed
pub record IsDistrusted {D H A : Type 0} (data_facts : store.Ghosts D) (hash_facts : store.Ghosts H) (command : Command A)
    (old new : LineEditing D H) (level index : ℕ) : Type 0 where
  pub sound : old.broken ≡ false
  pub commit : command ≡ Commit
  pub untrusted : IsUntrusted data_facts hash_facts old new level index
  pub unchanged : IsUnchanged data_facts hash_facts (editing_of old) (editing_of new)

abbrev pub ExplainsRefusalUnder : {D H A : Type 0} → store.Ghosts D → store.Ghosts H → Command A → (old new : LineEditing D H)
    → EditFault → Type 0
ExplainsRefusalUnder data_facts hash_facts command old new Broken = (old.broken ≡ true) × (new ≡ old)
ExplainsRefusalUnder data_facts hash_facts command old new NoMemory =
    IsStarved data_facts hash_facts command (editing_of old) (editing_of new)
ExplainsRefusalUnder data_facts hash_facts command old new (Store which) =
    IsFailed data_facts hash_facts command (editing_of old) (editing_of new) which
ExplainsRefusalUnder data_facts hash_facts command old new (Untrusted level index) =
    IsDistrusted data_facts hash_facts command old new level index
ExplainsRefusalUnder data_facts hash_facts command old new fault = IsRuled command (editing_of old) (editing_of new) fault

-- what a reply says, over any stores
abbrev pub ExplainsReplyUnder : {D H A : Type 0} → store.Ghosts D → store.Ghosts H → Command A → (old new : LineEditing D H) → Reply
    → Type 0
ExplainsReplyUnder data_facts hash_facts command old new Done = IsMade command (editing_of old) (editing_of new)
ExplainsReplyUnder data_facts hash_facts command old new (CommittedReply committed) = (command ≡ Commit)
    × CommitsUnder data_facts hash_facts old new committed
ExplainsReplyUnder data_facts hash_facts command old new (Refused fault) =
    ExplainsRefusalUnder data_facts hash_facts command old new fault

-- a refused command leaves the line
abbrev pub KeepsLine : {D H : Type 0} → (old new : LineEditing D H) → Reply → Type 0
KeepsLine old new (Refused fault) = new.table ≡ old.table
KeepsLine old new _ = Unit {0}

-- one command was answered under a line, over any stores
pub record IsAnsweredUnder {D H A : Type 0} (data_facts : store.Ghosts D) (hash_facts : store.Ghosts H) (command : Command A)
    (old new : LineEditing D H) (reply : Reply) : Type 0 where
  pub explained : ExplainsReplyUnder data_facts hash_facts command old new reply
  pub only : IsEdit command → new ≡ record old { draft = new.draft }
  pub line : KeepsLine old new reply
  pub stays : Stays data_facts hash_facts (editing_of old) (editing_of new)
