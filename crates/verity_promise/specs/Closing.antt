-- What is known of an editor that was closed. The facts of a store of the type S are S.BlockStore.
use Rattle.std.specs.Prelude.{◌≡◌, ℕ, true, false, List, IfSome, Result, Some, Ok}
use Rattle.std.specs.declared.alloc.AllocError.{AllocError}
use Rattle.verity_store.specs.declared.store.BlockStore as store
use Rattle.verity_edit.specs.Editing.{Editing, FitsStores, Stands}
use Rattle.nbd_hub.specs.declared.fault.ServeFault.{ServeFault}
use Rattle.nbd_hub.specs.Stream.{Ends}
use Rattle.verity_chain.specs.Table.{Table}
use Rattle.verity_chain.specs.Right.{Fits}
use Rattle.verity_check.specs.Verifier.{Verifying, IsOnlyReading}
use Rattle.verity_hub.specs.Verdicts.{HoldsFor, SaysRight, SaysExact}
use Rattle.verity_promise.specs.declared.edited.Edited.{Edited}
use Rattle.verity_promise.specs.Answers.{IsMadeOver}
use Rattle.verity_promise.specs.Lines.{IsLine}
use Rattle.verity_promise.specs.Delivery.{Serves}

module _ {D H : Type 0} (on_data : store.Ghosts D) (on_hash : store.Ghosts H) where
  -- the editor's stores and root are left, and a table line of them unless it was broken
  pub record IsClosed {A : Type 0} (e : Editing D H) (start : ℕ) (done : Result (Unit {0}) AllocError) (left : Edited D H A) : Type 0 where
    pub data_store : left.data_store ≡ e.data_store
    pub hash_store : left.hash_store ≡ e.hash_store
    pub root : left.root ≡ e.root
    pub done_is : left.done ≡ done
    pub table : IfSome left.table (λ t. (e.broken ≡ false)
        × IsLine on_data on_hash e.data_store e.hash_store start e.root e.volume.params.salt t)
    pub fits : e.broken ≡ false → FitsStores on_data on_hash e
    pub stands : e.broken ≡ false → on_data.tells e.data_store ≡ true → on_hash.tells e.hash_store ≡ true →
        Stands on_data on_hash e

module _ {D H : Type 0} (on_data : store.Ghosts D) (on_hash : store.Ghosts H) (called : List ℕ) (ends : Ends) (limit : ℕ)
    (result : Result (Unit {0}) ServeFault) where
  -- A stream was served under the table line of these stores: right for every image that fits the line, and exact where the
  -- stores hold one.
  pub record IsServed {A : Type 0} (left : Edited D H A) : Type 0 where
    pub done : left.done ≡ Ok tt
    pub t : Table
    pub table : left.table ≡ Some t
    pub old : Verifying D H
    pub new : Verifying D H
    pub over : IsMadeOver on_data on_hash t left.data_store left.hash_store old
    pub reads : IsOnlyReading on_data on_hash old new
    pub right : (image : List (List ℕ)) → Fits t image →
        Serves on_data on_hash called ends limit result t (SaysRight on_data on_hash new image)
    pub exact : (image : List (List ℕ)) → HoldsFor on_data on_hash old image
        → Serves on_data on_hash called ends limit result t (SaysExact on_data on_hash old new image)
