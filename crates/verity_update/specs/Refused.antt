-- Why an update is refused, and what stands then. The facts of a store of the type S are S.BlockStore, those of an editor of the
-- type E are E.Edited.
use Rattle.std.specs.Prelude.{ℕ, suc, ◌+◌, ◌^◌, ◌<◌, ◌≤◌, ◌≡◌, ◌≢◌, ◌⊎◌, true, false, List, [], length, slice_index_or}
use Rattle.verity_profile.specs.Profile.{IsBlockCount}
use Rattle.verity_store.specs.declared.store.BlockStore as store
use Rattle.verity_store.specs.declared.fault.Which.TheVariants as which
use Rattle.verity_chain.specs.Table.{Table, hashing_of, height, row_len, tree_len}
use Rattle.verity_chain.specs.Chain.{Given, WrongAt}
use Rattle.verity_chain.specs.Right.{Fits, Clash}
use Rattle.verity_chain.specs.Stores.{hash_given}
use Rattle.verity_chain.specs.declared.notes.ReadRefused.{ReadRefused}
use Rattle.verity_chain.specs.declared.notes.ReadRefused.TheVariants as refused
use Rattle.verity_pending.specs.declared.fault.EditFault.{EditFault}
use Rattle.verity_pending.specs.declared.fault.EditFault.TheVariants.{WrongLength, TooSmall, TooLarge, NoMemory, Store, Broken}
use Rattle.verity_pending.specs.declared.fault.EditFault.TheVariants.{StoreSize, Line, Untrusted}
use Rattle.verity_update.specs.declared.edited.Edited as editor
use Rattle.verity_update.specs.declared.fault.UpdateFault.{UpdateFault}
use Rattle.verity_update.specs.declared.fault.UpdateFault.TheVariants.{New, Edit}
use Rattle.verity_update.specs.Update.{GaveAll}

-- NEW and the hash store have the line's block sizes, and the hash store doesn't end before the tree
pub record SuitLine {H N : Type 0} (hash : store.Ghosts H) (news : store.Ghosts N) (t : Table) (h : H) (s : N) : Type 0 where
  pub new_size : news.size s ≡ t.data_block_size
  pub hash_size : hash.size h ≡ t.hash_block_size
  pub within : t.hash_start_block + tree_len t ≤ length (hash.content h)

-- the editor takes edits, and its committed image has so many blocks
pub record TakesEdits {E : Type 0} (edits : editor.Ghosts E) (blocks : ℕ) (e : E) : Type 0 where
  pub sound : edits.broken e ≡ false
  pub count : edits.committed e ≡ blocks

-- nothing stands against an update: the stores are those of the line, and the editor that of its image; NEW has a count that an image
-- may have
pub record CanBegin {E H N : Type 0} (edits : editor.Ghosts E) (hash : store.Ghosts H) (news : store.Ghosts N) (t : Table) (h : H) (s : N)
    (e : E) : Type 0 where
  pub suit : SuitLine hash news t h s
  pub takes : TakesEdits edits t.data_blocks e
  pub count : IsBlockCount (length (news.content s))

-- nothing is pending: the working image is the committed one, of so many blocks
pub record NothingPends {E : Type 0} (edits : editor.Ghosts E) (blocks : ℕ) (e : E) : Type 0 where
  pub count : edits.count e ≡ blocks
  pub working : (image : List (List ℕ)) → length image ≡ blocks → edits.working e image ≡ image
  pub unchanged : (i : ℕ) → i < blocks → edits.changed e i ≡ false

-- why the stores aren't those of the line: E2, else E11
abbrev pub ExplainsUnsuited : {H N : Type 0} → store.Ghosts H → store.Ghosts N → Table → H → N → EditFault → Type 0
ExplainsUnsuited hash news t h s WrongLength = news.size s ≢ t.data_block_size
ExplainsUnsuited hash news t h s (StoreSize which.Hash) = (news.size s ≡ t.data_block_size)
    × ((hash.size h ≢ t.hash_block_size) ⊎ (length (hash.content h) < t.hash_start_block + tree_len t))
ExplainsUnsuited hash news t h s _ = ⊥

-- why the working image wasn't given this count, the first that applies: memory was refused, or the editor is broken, E7, and it is as
-- it was; or its committed image hasn't so many blocks, E13; or no image has this count: none, E3, or more than 2^40, E4. Then nothing is
-- pending
abbrev pub ExplainsUnprepared : {E : Type 0} → editor.Ghosts E → ℕ → ℕ → (e e' : E) → EditFault → Type 0
ExplainsUnprepared edits blocks count e e' NoMemory = e' ≡ e
ExplainsUnprepared edits blocks count e e' Broken = (edits.broken e ≡ true) × (e' ≡ e)
ExplainsUnprepared edits blocks count e e' Line = (edits.broken e ≡ false) × (edits.committed e ≢ blocks)
    × NothingPends edits (edits.committed e) e'
ExplainsUnprepared edits blocks count e e' TooSmall = TakesEdits edits blocks e × (count ≡ 0) × NothingPends edits blocks e'
ExplainsUnprepared edits blocks count e e' TooLarge = TakesEdits edits blocks e × (2 ^ 40 < count) × NothingPends edits blocks e'
ExplainsUnprepared edits blocks count e e' _ = ⊥

-- a refused read is answered so
abbrev pub fault_of : ReadRefused → UpdateFault
fault_of (refused.Mismatch level index) = Edit (Untrusted level index)
fault_of refused.Store = Edit (Store which.Hash)
fault_of refused.NoMemory = Edit NoMemory

-- Why a block of NEW, which has `bytes` bytes, wasn't taken, where the failures of the hash store and of NEW are counted before and after
-- it: its read failed; or one of the hash store, E6, or this gave a block without the digest that is named, E14; or the editor's blocks
-- haven't `bytes` bytes, but `size`, E2; or memory was refused, E5.
abbrev pub ExplainsUntaken : Table → Given → (size bytes hash_old hash_new new_old new_new : ℕ) → UpdateFault → Type 0
ExplainsUntaken t given size bytes hash_old hash_new new_old new_new New = (hash_new ≡ hash_old) × (new_old < new_new)
ExplainsUntaken t given size bytes hash_old hash_new new_old new_new (Edit (Store which.Hash)) = (hash_old < hash_new)
    × (new_new ≡ new_old)
ExplainsUntaken t given size bytes hash_old hash_new new_old new_new (Edit (Untrusted level index)) = (hash_new ≡ hash_old)
    × (new_new ≡ new_old) × (level < height t) × (index < row_len t (suc level)) × WrongAt t given (suc level) index
ExplainsUntaken t given size bytes hash_old hash_new new_old new_new (Edit WrongLength) = (hash_new ≡ hash_old)
    × (new_new ≡ new_old) × (size ≢ bytes)
ExplainsUntaken t given size bytes hash_old hash_new new_old new_new (Edit NoMemory) = (hash_new ≡ hash_old) × (new_new ≡ new_old)
ExplainsUntaken t given size bytes hash_old hash_new new_old new_new (Edit _) = ⊥

-- The first n blocks of NEW were given, and the working image has their digests, for every image that fits the line, unless the hash store
-- gave a clash behind the first `mark` of what it gave.
pub record HasTaken {E H N : Type 0} (edits : editor.Ghosts E) (hash : store.Ghosts H) (news : store.Ghosts N) (t : Table) (mark : ℕ)
    (h' : H) (s s' : N) (e' : E) (n : ℕ) : Type 0 where
  pub blocks : List (List ℕ)
  pub all : length blocks ≡ n
  pub gave : GaveAll news (length (news.given s)) s' blocks
  pub taken : (image : List (List ℕ)) → Fits t image
      → ((i : ℕ) → i < n → (hashing_of t).digest (slice_index_or (edits.working e' image) i [])
      ≡ (hashing_of t).digest (slice_index_or blocks i [])) ⊎ Clash t (hash_given hash t mark h') image

-- an update stopped at block n of NEW: those in front of it are pending, and those behind it weren't read
pub record StopsAt {E H N : Type 0} (edits : editor.Ghosts E) (hash : store.Ghosts H) (news : store.Ghosts N) (t : Table) (mark : ℕ)
    (h h' : H) (s s' : N) (e e' : E) (fault : UpdateFault) (n : ℕ) : Type 0 where
  pub within : n < length (news.content s)
  pub reads : news.reads s' ≡ news.reads s + (n + 1)
  pub count : edits.count e' ≡ length (news.content s)
  pub taken : HasTaken edits hash news t mark h' s s' e' n
  pub why : ExplainsUntaken t (hash_given hash t mark h') (edits.size e) t.data_block_size (hash.failures h) (hash.failures h')
      (news.failures s) (news.failures s') fault

-- it was refused before anything was read: for the stores, and the editor is as it was; or for the editor, or NEW's count
abbrev pub ExplainsUnbegun : {E H N : Type 0} → editor.Ghosts E → store.Ghosts H → store.Ghosts N → Table → (h h' : H) (s s' : N)
    (e e' : E) → EditFault → Type 0
ExplainsUnbegun edits hash news t h h' s s' e e' fault = (h' ≡ h) × (s' ≡ s)
    × ((ExplainsUnsuited hash news t h s fault × (e' ≡ e))
    ⊎ (SuitLine hash news t h s × ExplainsUnprepared edits t.data_blocks (length (news.content s)) e e' fault))

-- it was refused on the way, at the first block of NEW that wasn't taken
abbrev pub ExplainsOnTheWay : {E H N : Type 0} → editor.Ghosts E → store.Ghosts H → store.Ghosts N → Table → (h h' : H) (s s' : N)
    (e e' : E) → UpdateFault → Type 0
ExplainsOnTheWay edits hash news t h h' s s' e e' fault = CanBegin edits hash news t h s e
    × ((n : ℕ) × StopsAt edits hash news t (length (hash.given h)) h h' s s' e e' fault n)

-- why it was refused: the first that applies
abbrev pub ExplainsRefused : {E H N : Type 0} → editor.Ghosts E → store.Ghosts H → store.Ghosts N → Table → (h h' : H) (s s' : N)
    (e e' : E) → UpdateFault → Type 0
ExplainsRefused edits hash news t h h' s s' e e' New = ExplainsOnTheWay edits hash news t h h' s s' e e' New
ExplainsRefused edits hash news t h h' s s' e e' (Edit fault) = ExplainsUnbegun edits hash news t h h' s s' e e' fault
    ⊎ ExplainsOnTheWay edits hash news t h h' s s' e e' (Edit fault)
