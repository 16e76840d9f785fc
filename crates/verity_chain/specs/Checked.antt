-- A hash store under a table line, each of whose blocks was checked.
use Rattle.std.specs.Prelude.{ℕ, ◌+◌, ◌<◌, ◌≤◌, ◌≡◌, ◌≢◌, ◌⊎◌, Bool, List, [], ◌∷◌, length, Contains, Option, None, Some, IfSome}
use Rattle.verity_profile.specs.Profile.{zero_block}
use Rattle.verity_digest.specs.Hash.{size_of}
use Rattle.verity_store.specs.declared.store.BlockStore as store
use Rattle.verity_chain.specs.Table.{Table, height, tree_len}
use Rattle.verity_chain.specs.Stores.{hash_given, IsHashStoreOf}
use Rattle.verity_chain.specs.Origin.{StoreFacts, facts_of, IsReadSince, rows_of}
use Rattle.verity_chain.specs.Notes.{Note, AreChecked, WereGiven, ExplainsUnread, numbers, AreApart, IsAmong, IsUpward, AsksWithin}
use Rattle.verity_chain.specs.declared.notes.ReadRefused.{ReadRefused}
use Rattle.verity_chain.specs.declared.notes.ReadRefused.TheVariants as refused

-- what is read of a block: a noted one, or zeros in front of the tree
abbrev pub IsAnswer : Table → List Note → ℕ → List ℕ → Type 0
IsAnswer t notes n block = ((n < t.hash_start_block) × (block ≡ zero_block t.hash_block_size)) ⊎
    Contains notes (record { number = n; block = block })

-- the table line; the store below; the blocks that were read of it; those that were given; how many digests were made of blocks that
-- were read; how many reads were asked for, and how many refused; how many changes were asked for; why the first refused read was;
-- how many blocks there are; how many blocks the store below had given when this one was made; and all that was true of it then
pub record Checking (H : Type 0) : Type 0 where
  pub table : Table
  pub hash_store : H
  pub notes : List Note
  pub given : List (ℕ × List ℕ)
  pub hashed : ℕ
  pub asked : ℕ
  pub refused : ℕ
  pub changes : ℕ
  pub refusal : Option ReadRefused
  pub blocks : ℕ
  pub since : ℕ
  pub origin : List (ℕ × List ℕ)

-- what binds it to its table line, and to the store below: the line's values, and what was true of the store
abbrev pub bound_to : Table → List (ℕ × List ℕ) → List (ℕ × List ℕ)
bound_to t origin = (size_of t.algorithm, t.salt) ∷ (t.data_block_size, t.root) ∷ (t.hash_block_size, t.dev)
    ∷ (t.data_blocks, t.hash_dev) ∷ (t.hash_start_block, []) ∷ origin

-- what was given was asked for at places in the set, which has with each place the one above it
abbrev pub AsksOnly : Table → (ℕ → ℕ → Bool) → List (ℕ × List ℕ) → Type 0
AsksOnly t set given = IsUpward t set × ((n : ℕ) (block : List ℕ) → Contains given (n, block) → AsksWithin t set n)

-- the numbers of all places in the set are in the list
abbrev pub Covers : Table → (ℕ → ℕ → Bool) → List ℕ → Type 0
Covers t set places = (n : ℕ) → IsAmong t set n → Contains places n

-- what is true of each
pub record IsChecking {H : Type 0} (hash : store.Ghosts H) (c : Checking H) : Type 0 where
  pub store : IsHashStoreOf hash c.table c.hash_store
  pub blocks : c.blocks ≤ c.table.hash_start_block + tree_len c.table
  pub was : StoreFacts
  pub origin : c.origin ≡ rows_of was
  pub since : c.since ≡ length was.given
  pub read : IsReadSince hash was c.hash_store
  pub checked : AreChecked c.table c.notes
  pub noted : WereGiven hash c.since c.hash_store c.notes
  pub answers : (n : ℕ) (block : List ℕ) → Contains c.given (n, block) → IsAnswer c.table c.notes n block
  pub refusal : IfSome c.refusal (ExplainsUnread c.table (hash_given hash c.table c.since c.hash_store)
      (was.failures < hash.failures c.hash_store))
  pub unrefused : c.refusal ≡ None → c.refused ≡ 0
  pub counted : c.refused ≡ 0 → c.refusal ≡ None
  pub unfailed : c.refusal ≢ Some refused.Store → hash.failures c.hash_store ≡ was.failures
  pub apart : AreApart c.notes
  pub within : c.refusal ≡ None → (set : ℕ → ℕ → Bool) → AsksOnly c.table set c.given → (n : ℕ) → Contains (numbers c.notes) n
      → IsAmong c.table set n
  pub reads : c.refusal ≡ None → hash.reads c.hash_store ≡ was.reads + length c.notes
  -- A read that was refused may have read a whole path.
  pub few : c.refusal ≢ None → (set : ℕ → ℕ → Bool) → AsksOnly c.table set c.given → (places : List ℕ) → Covers c.table set places
      → hash.reads c.hash_store ≤ was.reads + length places + height c.table
  -- Each block that was read was hashed once.
  pub hashed : c.hashed + was.reads ≤ hash.reads c.hash_store
  pub hashed_each : c.refusal ≡ None → c.hashed + was.reads ≡ hash.reads c.hash_store

-- nothing was read yet
abbrev pub unread : {H : Type 0} → store.Ghosts H → Table → H → Checking H
unread hash t h = record {
  table = t;
  hash_store = h;
  notes = [];
  given = [];
  hashed = 0;
  asked = 0;
  refused = 0;
  changes = 0;
  refusal = None;
  blocks = t.hash_start_block + tree_len t;
  since = length (hash.given h);
  origin = rows_of (facts_of hash h);
}
