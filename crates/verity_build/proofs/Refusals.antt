-- What an answer says of the count of data blocks, of the offset and of both stores.
use Rattle.std.proofs.Common.{◌≡◌, ◌≢◌, ◌↔◌, ℕ, ◌+◌, ◌≤◌, refl, ap, arith, Result, Ok, Err, OnOk, IfErr, IsErrOf}
use Rattle.verity_profile.specs.Profile.{IsBlockCount}
use Rattle.verity_geometry.specs.declared.fault.GeometryFault.TheVariants.{BadCount}
use Rattle.verity_store.specs.declared.fault.Which.{Which}
use Rattle.verity_store.specs.declared.fault.Which.TheVariants.{Data, Hash}
use Rattle.verity_superblock.specs.Image.{CanBegin}
use Rattle.verity_build.specs.Faults.{CanBuild, Explains, HasFailed}
use Rattle.verity_build.specs.declared.fault.BuildFault.{BuildFault}
use Rattle.verity_build.specs.declared.fault.BuildFault.TheVariants.{Geometry, Store, NoMemory, Offset}

-- a fault before any store failed
pub unfailed_explains : (data_failed hash_failed : Type 0) (blocks offset size : ℕ) (fault : BuildFault)
    → Explains blocks offset size ⊥ ⊥ fault → Explains blocks offset size data_failed hash_failed fault
unfailed_explains data_failed hash_failed blocks offset size (Geometry fault) why = why
unfailed_explains data_failed hash_failed blocks offset size Offset why = why
unfailed_explains data_failed hash_failed blocks offset size NoMemory why = why
unfailed_explains data_failed hash_failed blocks offset size (Store Data) why = absurd why.1
unfailed_explains data_failed hash_failed blocks offset size (Store Hash) why = absurd why.1

-- U1 is told where the count isn't one of a volume, and there alone
pub tells_bad_count : {T : Type 0} (data_failed hash_failed : Type 0) (blocks offset size : ℕ) (r : Result T BuildFault)
    → OnOk r (CanBuild blocks offset size) → IfErr r (Explains blocks offset size data_failed hash_failed)
    → IsErrOf r (Geometry BadCount) ↔ ¬ (IsBlockCount blocks)
tells_bad_count data_failed hash_failed blocks offset size (Ok x) can why = (λ same. cc, λ none. absurd (none can.0))
tells_bad_count data_failed hash_failed blocks offset size (Err (Geometry fault)) can why =
    (λ _. why.1, λ _. ap (λ f. Err (Geometry f)) why.0)
tells_bad_count data_failed hash_failed blocks offset size (Err Offset) can why = (λ same. cc, λ none. absurd (none why.0))
tells_bad_count data_failed hash_failed blocks offset size (Err NoMemory) can why = (λ same. cc, λ none. absurd (none why.0))
tells_bad_count data_failed hash_failed blocks offset size (Err (Store which)) can why = (λ same. cc, λ none. absurd (none why.0.0))

-- U4 is told where the count is one of a volume and no tree can begin behind the offset, and there alone
pub tells_bad_offset : {T : Type 0} (data_failed hash_failed : Type 0) (blocks offset size : ℕ) (r : Result T BuildFault)
    → OnOk r (CanBuild blocks offset size) → IfErr r (Explains blocks offset size data_failed hash_failed)
    → IsErrOf r Offset ↔ (IsBlockCount blocks × ¬ (CanBegin offset size))
tells_bad_offset data_failed hash_failed blocks offset size (Ok x) can why = (λ same. cc, λ told. absurd (told.1 can.1))
tells_bad_offset data_failed hash_failed blocks offset size (Err (Geometry fault)) can why = (λ same. cc, λ told. absurd (why.1 told.0))
tells_bad_offset data_failed hash_failed blocks offset size (Err Offset) can why = (λ _. why, λ _. refl)
tells_bad_offset data_failed hash_failed blocks offset size (Err NoMemory) can why = (λ same. cc, λ told. absurd (told.1 why.1))
tells_bad_offset data_failed hash_failed blocks offset size (Err (Store which)) can why = (λ same. cc, λ told. absurd (told.1 why.0.1))

-- the store that is named has failed
pub has_failed : {T : Type 0} (data_failed hash_failed : Type 0) (r : Result T Which) (which : Which) → r ≡ Err which
    → (r ≡ Err Data → data_failed) → (r ≡ Err Hash → hash_failed) → HasFailed data_failed hash_failed which
has_failed data_failed hash_failed r Data is by_data by_hash = by_data is
has_failed data_failed hash_failed r Hash is by_data by_hash = by_hash is

-- a store that failed is one of the two
pub one_failed : (P : Type 0) (which : Which) → Store which ≢ Store Data → Store which ≢ Store Hash → P
one_failed P Data not_data not_hash = absurd (not_data refl)
one_failed P Hash not_data not_hash = absurd (not_hash refl)

pub no_fewer : (n more : ℕ) → n ≤ n + more
no_fewer n more = omega arith

pub same_fault : {T E : Type 0} (a b : E) → ◌≡◌ {A = Result T E} (Err a) (Err b) → a ≡ b
same_fault a b is = cc

-- where there is a tree, the count is one of a volume
pub good_count : {T : Type 0} (blocks offset size : ℕ) (r : Result T BuildFault) → OnOk r (CanBuild blocks offset size)
    → OnOk r (IsBlockCount blocks)
good_count blocks offset size (Ok x) can = can.0
good_count blocks offset size (Err fault) can = tt
