-- What a client is served of an edited volume. The facts of a store of the type S are S.BlockStore.
use Rattle.std.specs.Prelude.{◌≡◌, ◌≢◌, ◌⊎◌, true, ℕ, List, Option, Result, Ok, Some, None}
use Rattle.nbd_session.specs.declared.offer.Offer.{Offer}
use Rattle.nbd_hub.specs.declared.fault.ServeFault.{ServeFault}
use Rattle.nbd_hub.specs.Stream.{Ends, ServedBy}
use Rattle.verity_store.specs.declared.store.BlockStore as store
use Rattle.verity_edit.specs.declared.command.Command.{Command}
use Rattle.verity_edit.specs.declared.command.Reply.{Reply}
use Rattle.verity_chain.specs.Table.{Table}
use Rattle.verity_chain.specs.Right.{Fits}
use Rattle.verity_check.specs.Verifier.{Verifying, IsOnlyReading}
use Rattle.verity_check.specs.declared.fault.CheckFault.TheVariants.{NoMemory}
use Rattle.verity_hub.specs.Verdicts.{SaysRight, SaysExact}
use Rattle.verity_promise.specs.declared.edited.Edited.{Edited}
use Rattle.verity_promise.specs.declared.delivery.Unserved.{Unserved}
use Rattle.verity_promise.specs.declared.delivery.Unserved.TheVariants as unserved
use Rattle.verity_promise.specs.Scratch.{IsEdited, IsRefused}
use Rattle.verity_promise.specs.Answers.{IsMadeOver, offer_of}

-- nothing was served of an edited volume: memory was refused for a reply, or it has no table line; or no verifier was made
abbrev pub ExplainsUnmade : {D H A : Type 0} → Edited D H A → Unserved D H A → Type 0
ExplainsUnmade left (unserved.Opened r) = ⊥
ExplainsUnmade left (unserved.Edited same) = (same ≡ left) × ((left.done ≢ Ok tt) ⊎ (left.table ≡ None))
ExplainsUnmade left (unserved.Check fault) = fault ≡ NoMemory

-- what a reader has left and what a writer holds, before and after, where they tell
abbrev pub ends_of : (reader reader' writer writer' : Option (List ℕ)) → Ends
ends_of reader reader' writer writer' = record { reader = reader; reader' = reader'; writer = writer; writer' = writer' }

module _ {D H : Type 0} (on_data : store.Ghosts D) (on_hash : store.Ghosts H) (called : List ℕ) (ends : Ends) (limit : ℕ)
    (result : Result (Unit {0}) ServeFault) where
  -- a stream was served the volume of a table line, where S holds of an input and what is said to it
  abbrev pub Serves : Table → (S : Offer → (input said : List ℕ) → Type 0) → Type 0
  Serves t S = ServedBy (S (offer_of t called)) (offer_of t called) ends limit result

  -- A volume was edited, and served by the very stores that were left. Where they tell, what was committed is what each READ
  -- carries: each verdict is its exact bytes, or want of memory, or an EIO for which a store failed.
  pub record Delivers {C : Type 0} (A : Type 0) (d : D) (h : H) (offset : ℕ) (commands : List (Command C))
      (old_replies new_replies : List Reply) : Type 0 where
    pub left : Edited D H A
    pub edited : IsEdited on_data on_hash d h offset commands old_replies new_replies left
    pub done : left.done ≡ Ok tt
    pub t : Table
    pub table : left.table ≡ Some t
    pub made : Verifying D H
    pub after : Verifying D H
    pub over : IsMadeOver on_data on_hash t left.data_store left.hash_store made
    pub reads : IsOnlyReading on_data on_hash made after
    pub right : (image : List (List ℕ)) → Fits t image → Serves t (SaysRight on_data on_hash after image)
    pub exact : (data_told : on_data.tells d ≡ true) (hash_told : on_hash.tells h ≡ true)
        → Serves t (SaysExact on_data on_hash made after (edited.scratch data_told hash_told).state.edits.committed)

module _ {D H C : Type 0} (on_data : store.Ghosts D) (on_hash : store.Ghosts H) (d : D) (h : H) (offset : ℕ)
    (commands : List (Command C)) (old_replies new_replies : List Reply) where
  -- Why no client was served.
  abbrev pub ExplainsUnserved : {A : Type 0} → Unserved D H A → Type 0
  ExplainsUnserved (unserved.Opened r) = IsRefused on_data on_hash d h offset r × (new_replies ≡ old_replies)
  ExplainsUnserved (unserved.Edited left) =
      IsEdited on_data on_hash d h offset commands old_replies new_replies left × ((left.done ≢ Ok tt) ⊎ (left.table ≡ None))
  ExplainsUnserved {A = A} (unserved.Check fault) =
      (fault ≡ NoMemory) × ((left : Edited D H A) × IsEdited on_data on_hash d h offset commands old_replies new_replies left)
