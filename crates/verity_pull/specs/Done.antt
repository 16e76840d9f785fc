-- What a pull has done over four stores, over an old line or not.
use Rattle.std.specs.Prelude.{◌≡◌, ◌≢◌, ℕ, suc, ◌+◌, ◌<◌, ◌⊎◌, true, List, [], ◌++◌, length, take, slice_index_or, Option, None}
use Rattle.std.specs.Prelude.{MatchOption}
use Rattle.verity_digest.specs.Tree.{tree}
use Rattle.verity_store.specs.Blocks.{resized}
use Rattle.verity_store.specs.Stores.{IsOnlyRead}
use Rattle.verity_store.specs.declared.store.BlockStore as store
use Rattle.verity_chain.specs.Chain.{Given}
use Rattle.verity_chain.specs.Right.{Clash, Fits}
use Rattle.verity_chain.specs.Table.{Table, hashing_of, height, row_len, tree_len, hash_place}
use Rattle.verity_chain.specs.declared.place.Place.{Place}
use Rattle.verity_pull.specs.Over.{was_given, IsPulledOver}
use Rattle.verity_pull.specs.Pull.{marks_at, pull_given, source_given, laid, IsPulled, IsUntouched}
use Rattle.verity_pull.specs.Walk.{IsVouched, IsWrongAt}
use Rattle.verity_pull.specs.declared.either.Counts.{Counts}
use Rattle.verity_pull.specs.declared.fault.PullFault.{PullFault}
use Rattle.verity_pull.specs.declared.fault.PullFault.TheVariants as fault
use Rattle.verity_pull.specs.declared.fault.Role.{Role}
use Rattle.verity_pull.specs.declared.fault.Role.TheVariants as role

-- The facts of the four stores, the tree's line, the root hash of an old line, if one is of use, and the superblock's block; the stores
-- before and after.
module _ {L K S H : Type 0} (local_data : store.Ghosts L) (local_hash : store.Ghosts K) (source_data : store.Ghosts S)
    (source_hash : store.Ghosts H) (t : Table) (superblock : List ℕ) (l l' : L) (k k' : K) (s s' : S) (h h' : H) where
  -- what the stores gave in between at the places of the volume
  abbrev pub given_there : Given
  given_there = pull_given local_data source_data source_hash t (marks_at local_data source_data source_hash l s h) l' s' h'

  -- what was to stand in front of the tree
  abbrev pub front_there : List (List ℕ)
  front_there = laid t.hash_start_block superblock
      (resized (local_hash.size k) (t.hash_start_block + tree_len t) (local_hash.content k))

  -- the local stores hold the volume; over an old line but for blocks that both lines name alike
  abbrev pub HoldsVolume : Option (List ℕ) → Type 0
  HoldsVolume old = MatchOption old (IsPulled local_data local_hash t given_there front_there l' k')
      (λ root. IsPulledOver local_data local_hash t root given_there (was_given local_hash t (length (local_hash.given k)) k') front_there
      (local_data.content l) (local_hash.content k) l' k')

  -- What was done: the local stores hold the volume, and were synced; as many data blocks were read of the source, and written, as are
  -- counted, and all others are counted as kept; the source was only read. Where the local stores tell, and no old line was of use, they
  -- hold the image that fits the line, and its tree, or a store gave a clash.
  pub record IsDone (old : Option (List ℕ)) (counts : Counts) : Type 0 where
    pub holds : HoldsVolume old
    pub counted : counts.fetched + counts.kept ≡ t.data_blocks
    pub fetched : source_data.reads s' ≡ source_data.reads s + counts.fetched
    pub written : local_data.changes l' ≡ local_data.changes l + (1 + counts.fetched)
    pub data_tells : local_data.tells l' ≡ local_data.tells l
    pub hash_tells : local_hash.tells k' ≡ local_hash.tells k
    pub data_synced : local_data.synced l' ≡ true
    pub hash_synced : local_hash.synced k' ≡ true
    pub data_read : IsOnlyRead source_data s s'
    pub hash_read : IsOnlyRead source_hash h h'
    pub volume : old ≡ None → local_data.tells l ≡ true → local_hash.tells k ≡ true → (image : List (List ℕ)) → Fits t image
        → ((local_data.content l' ≡ image) × (local_hash.content k' ≡ take t.hash_start_block front_there ++ tree (hashing_of t) image))
        ⊎ Clash t given_there image

  -- What stands where it wasn't done: each block of the volume that a local store had is what it was, or ends a chain of given blocks from
  -- the line's root, unless that very store failed; nothing was changed where a store isn't one of the line, or memory was refused; and a
  -- source's block that is refused isn't the one that is named.
  pub record IsSafe (e : PullFault) : Type 0 where
    pub data_blocks : e ≢ fault.Store role.LocalData → (n : ℕ) → n < length (local_data.content l)
        → n < t.data_blocks → (slice_index_or (local_data.content l') n [] ≡ slice_index_or (local_data.content l) n [])
        ⊎ IsVouched local_data t given_there 0 n n l'
    pub hash_blocks : e ≢ fault.Store role.LocalHash → (v i : ℕ) → v < height t → i < row_len t (suc v)
        → hash_place t v i < length (local_hash.content k)
        → (slice_index_or (local_hash.content k') (hash_place t v i) [] ≡ slice_index_or (local_hash.content k) (hash_place t v i) [])
        ⊎ IsVouched local_hash t given_there (suc v) i (hash_place t v i) k'
    pub starved : e ≡ fault.NoMemory → IsUntouched local_data l l' × IsUntouched local_hash k k'
    pub unsuited : (which : Role) → e ≡ fault.Unsuited which → IsUntouched local_data l l' × IsUntouched local_hash k k'
    pub wrong : (place : Place) → e ≡ fault.Wrong place → IsWrongAt t
        (source_given source_data source_hash t (marks_at local_data source_data source_hash l s h) s' h') place
    pub data_read : IsOnlyRead source_data s s'
    pub hash_read : IsOnlyRead source_hash h h'
