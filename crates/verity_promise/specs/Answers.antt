-- What clients are told, whatever two stores return. The facts of a store of the type S are S.BlockStore.
use Rattle.std.specs.Prelude.{◌≡◌, ℕ, ◌+◌, ◌*◌, ◌<◌, ◌⊎◌, List, [], ◌++◌, length}
use Rattle.nbd_session.specs.declared.offer.Offer.{Offer}
use Rattle.nbd_hub.specs.declared.events.Event.{Event}
use Rattle.nbd_hub.specs.declared.events.HubReply.{HubReply}
use Rattle.nbd_hub.specs.After.{EachAfter}
use Rattle.verity_store.specs.declared.store.BlockStore as store
use Rattle.verity_chain.specs.Table.{Table}
use Rattle.verity_chain.specs.Right.{Fits}
use Rattle.verity_check.specs.Verifier.{Verifying, IsOnlyReading}
use Rattle.verity_check.specs.declared.fault.CheckFault.TheVariants as check
use Rattle.verity_hub.specs.Verdicts.{IsRightFor}
use Rattle.verity_promise.specs.declared.answers.AnswerFault.{AnswerFault}
use Rattle.verity_promise.specs.declared.answers.AnswerFault.TheVariants.{Check, Memory}

-- the export of a table line's volume, under this name
abbrev pub offer_of : Table → (called : List ℕ) → Offer
offer_of t called = record { name = called; size = t.data_blocks * t.data_block_size; block = t.data_block_size }

module _ {D H : Type 0} (on_data : store.Ghosts D) (on_hash : store.Ghosts H) (t : Table) (d : D) (h : H) where
  -- a verifier of the table line was made over these very stores, and counts what they give, and their failures, from then on
  pub record IsMadeOver (v : Verifying D H) : Type 0 where
    pub table : v.table ≡ t
    pub data_store : v.data_store ≡ d
    pub hash_store : v.hash_store ≡ h
    pub data_mark : v.data_mark ≡ on_data.failures d
    pub hash_mark : v.hash_mark ≡ on_hash.failures h
    pub since : v.since ≡ record { of_data = length (on_data.given d); of_hash = length (on_hash.given h) }

  -- Replies were added to the first of the events. For every image that fits the table line, after each of them the output of
  -- each session is the talk of its own input, by verdicts that are right for the image: its own bytes, unless a store, in a
  -- later state of the very one that was handed in, had given by then a block that clashes with the image's own; ENOMEM; or EIO,
  -- where such a store had given a wrong block in the range by then, or had failed. These states follow one another; that what an
  -- event asked lies between the state before it and its own is said by `Hub::run`.
  pub record AreRightAnswers {A B : Type 0} (called : List ℕ) (events : List (Event B)) (old new : List (HubReply A)) : Type 0 where
    pub made : Verifying D H
    pub left : Verifying D H
    pub over : IsMadeOver made
    pub reads : IsOnlyReading on_data on_hash made left
    pub added : List (HubReply A)
    pub replies : new ≡ old ++ added
    pub right : (image : List (List ℕ)) → Fits t image → EachAfter (λ now next o k e r. IsOnlyReading on_data on_hash now next)
        (λ v. IsRightFor on_data on_hash v image) made left (offer_of t called) [] events added

  -- No other fault is named. Where no verifier was made, nothing was done; where memory was refused for a reply, the events with
  -- a reply were done and no other, and not all of them have one.
  abbrev pub ExplainsUnanswered : {A B : Type 0} → List ℕ → List (Event B) → (old new : List (HubReply A)) → AnswerFault → Type 0
  ExplainsUnanswered called events old new (Check fault) =
      (new ≡ old) × ((fault ≡ check.Lengths) ⊎ (fault ≡ check.CacheSize) ⊎ (fault ≡ check.NoMemory))
  ExplainsUnanswered called events old new Memory = AreRightAnswers called events old new × (length new < length old + length events)
