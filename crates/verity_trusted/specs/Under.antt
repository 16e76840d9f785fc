-- A commit under a trusted table line. The facts of a store of the type S are S.BlockStore.
use Rattle.std.specs.Prelude.{◌≡◌, ℕ, suc, ◌+◌, ◌<◌, ◌≤◌, ◌⊎◌, Bool, true, false, List, length, drop, Option, Some, None}
use Rattle.verity_digest.specs.Tree.{root, tree}
use Rattle.verity_geometry.specs.Geometry.{levels_of}
use Rattle.verity_store.specs.declared.store.BlockStore as store
use Rattle.verity_superblock.specs.Superblock.{Volume}
use Rattle.verity_store.specs.declared.fault.Which.TheVariants as which
use Rattle.verity_chain.specs.Table.{Table, hashing_of, height, row_len}
use Rattle.verity_store.specs.Given.{GaveSince}
use Rattle.verity_chain.specs.Chain.{Given, given_by, WrongAt}
use Rattle.verity_chain.specs.Right.{Fits, Clash, GaveOther}
use Rattle.verity_chain.specs.declared.notes.ReadRefused.{ReadRefused}
use Rattle.verity_chain.specs.declared.notes.ReadRefused.TheVariants as refused
use Rattle.verity_pending.specs.declared.fault.EditFault.{EditFault}
use Rattle.verity_pending.specs.declared.fault.EditFault.TheVariants as fault
use Rattle.verity_plan.specs.declared.planning.CommitPlan.{CommitPlan}
use Rattle.verity_trusted.specs.declared.under.PlanRefused.{PlanRefused}
use Rattle.verity_trusted.specs.declared.under.PlanUnder.{PlanUnder}
use Rattle.verity_trusted.specs.declared.under.PlanRefused.TheVariants.{Untrusted, Fault}
use Rattle.verity_build.specs.Faults.{HasFailed}
use Rattle.verity_pending.specs.Draft.{Draft, edits_of}
use Rattle.verity_plan.specs.Making.{touched_blocks}
use Rattle.verity_plan.specs.Planning.{volume_shape, volume_hashing, IsPlan, IsRight, ReadsPaths, moves_of}
use Rattle.verity_plan.specs.Standing.{BeginsWith}

-- the table line has the volume's parameters and count, and the start and the root of its tree
pub record IsLineFor (t : Table) (v : Volume) (first : ℕ) (old_root : List ℕ) : Type 0 where
  pub algorithm : t.algorithm ≡ v.params.algorithm
  pub data_block_size : t.data_block_size ≡ v.params.data_block_size
  pub hash_block_size : t.hash_block_size ≡ v.params.hash_block_size
  pub salt : t.salt ≡ v.params.salt
  pub data_blocks : t.data_blocks ≡ v.data_blocks
  pub start : t.hash_start_block ≡ first
  pub root : t.root ≡ old_root

-- the plan has the touched blocks and the root of this image's tree with the edits made
abbrev pub PlansEdits : {A : Type 0} → Volume → Draft → ℕ → List (List ℕ) → CommitPlan A → Type 0
PlansEdits v d first image plan =
    (plan.made.items ≡ touched_blocks (volume_hashing v.params) (edits_of image d) first d.working
    (levels_of (volume_shape v.params d.working)))
    × (plan.root ≡ root (volume_hashing v.params) (edits_of image d).working)

-- behind the first `mark` of what it gave the hash store gave the block at this place of the tree
abbrev pub line_given : {H : Type 0} → store.Ghosts H → Table → ℕ → H → Given
line_given hash t mark h = given_by t (λ n block. ⊥) (GaveSince (hash.given h) mark)

-- so it is for every image that fits the table line, unless the hash store, behind the first `mark` of what it gave, gave a block
-- that differs from the image's own at its place and has its length and its digest
abbrev pub IsRightUnder : {H A : Type 0} → store.Ghosts H → Table → ℕ → H → Volume → Draft → ℕ → CommitPlan A → Type 0
IsRightUnder hash t mark h v d first plan = (image : List (List ℕ)) → Fits t image
    → PlansEdits v d first image plan ⊎ Clash t (line_given hash t mark h) image

-- what is read for a plan that is made: each hash block above an edited one, once, and one digest is made to check each
pub record ReadsEach (v : Volume) (d : Draft) (old new checks : ℕ) : Type 0 where
  pub paths : ReadsPaths v d 0 old new
  pub each : checks + old ≡ new

-- and whatever comes of it: at most those and one path, and no more digests
pub record ReadsMost (v : Volume) (d : Draft) (path old new checks : ℕ) : Type 0 where
  pub paths : ReadsPaths v d path old new
  pub few : checks + old ≤ new

-- what is read for a commit that is answered, where levels are moved too, and how many digests are made to check it
pub record ReadsAll (v : Volume) (d : Draft) (old new checks : ℕ) : Type 0 where
  pub paths : d.working ≡ d.committed → ReadsPaths v d 0 old new
  pub moved : ReadsPaths v d (moves_of v d) old new
  pub checks_most : ReadsPaths v d 0 0 checks
  pub each : new ≤ old + checks + moves_of v d

-- a commit that is answered: its plan is one for the volume and right for every image of the line, and over a store that tells for the
-- image that it holds; the next line has the new count and the new root; and what was hashed is the plan's count
pub record IsMadeUnder {H A : Type 0} (hash : store.Ghosts H) (t : Table) (h h' : H) (v : Volume) (d : Draft) (hashed hashed' : ℕ)
    (made : PlanUnder A) : Type 0 where
  pub plan : IsPlan v d t.hash_start_block t.root made.plan
  pub next : made.tree ≡ record t { data_blocks = d.working; root = made.plan.root }
  pub right : IsRightUnder hash t (length (hash.given h)) h' v d t.hash_start_block made.plan
  pub told : hash.tells h ≡ true → IsRight v d t.hash_start_block t.root (hash.content h) made.plan
  pub counted : hashed' ≡ hashed + made.plan.hashed

-- Behind the first `mark` of what it gave the hash store gave the block at this place of the tree without the digest that is named
-- for it, below a chain of given blocks. So for every image that fits the line it gave a block that isn't the image's own, and it
-- doesn't both tell and hold the image's tree.
pub record IsWrongBlock {H : Type 0} (hash : store.Ghosts H) (t : Table) (mark : ℕ) (old new : H) (level index : ℕ) : Type 0 where
  pub is_level : level < height t
  pub is_index : index < row_len t (suc level)
  pub wrong : WrongAt t (line_given hash t mark new) (suc level) index
  pub other : (image : List (List ℕ)) → Fits t image → GaveOther t (line_given hash t mark new) image
  pub not_held : hash.tells old ≡ true → (image : List (List ℕ)) → Fits t image
      → ¬ (BeginsWith (drop t.hash_start_block (hash.content old)) (tree (hashing_of t) image))
  pub unfailed : hash.failures new ≡ hash.failures old

-- why there is no plan: a block isn't to be trusted; or memory was refused; or the hash store failed
abbrev pub ExplainsUnplanned : {H : Type 0} → store.Ghosts H → Table → ℕ → (old new : H) → PlanRefused → Type 0
ExplainsUnplanned hash t mark old new (Untrusted level index) = IsWrongBlock hash t mark old new level index
ExplainsUnplanned hash t mark old new (Fault fault.NoMemory) = hash.failures new ≡ hash.failures old
ExplainsUnplanned hash t mark old new (Fault (fault.Store which.Hash)) = hash.failures old < hash.failures new
ExplainsUnplanned hash t mark old new (Fault _) = ⊥

-- why there is no plan, where a read was refused for this reason, or none was
abbrev pub refusal_of : Option ReadRefused → EditFault → PlanRefused
refusal_of (Some (refused.Mismatch level index)) f = Untrusted level index
refusal_of (Some refused.Store) f = Fault (fault.Store which.Hash)
refusal_of (Some refused.NoMemory) f = Fault fault.NoMemory
refusal_of None f = Fault f

-- after these refusals nothing was changed, and the flag `broken` isn't raised
abbrev pub LeavesWhole : Bool → PlanRefused → Type 0
LeavesWhole broken (Untrusted level index) = broken ≡ false
LeavesWhole broken (Fault fault.NoMemory) = broken ≡ false
LeavesWhole broken (Fault _) = Unit {0}

-- the answer of a commit
abbrev pub fault_under : PlanRefused → EditFault
fault_under (Untrusted level index) = fault.Untrusted level index
fault_under (Fault f) = f

-- why nothing was committed: as for a plan; or a store failed
abbrev pub ExplainsUncommitted : {D H : Type 0} → store.Ghosts D → store.Ghosts H → Table → ℕ → (d d' : D) (h h' : H) → PlanRefused → Type 0
ExplainsUncommitted data_facts hash t mark d d' h h' (Untrusted level index) = IsWrongBlock hash t mark h h' level index
    × (data_facts.failures d' ≡ data_facts.failures d)
ExplainsUncommitted data_facts hash t mark d d' h h' (Fault fault.NoMemory) =
    (data_facts.failures d' ≡ data_facts.failures d) × (hash.failures h' ≡ hash.failures h)
ExplainsUncommitted data_facts hash t mark d d' h h' (Fault (fault.Store which)) =
    HasFailed (data_facts.failures d < data_facts.failures d') (hash.failures h < hash.failures h') which
ExplainsUncommitted data_facts hash t mark d d' h h' (Fault _) = ⊥
