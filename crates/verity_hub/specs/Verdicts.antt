-- A verifier as an export, and the verdicts that are right under its table line. The facts of a store of the type S are S.BlockStore.
use Rattle.std.specs.Prelude.{◌≡◌, ℕ, ◌+◌, ◌*◌, ◌≤◌, ◌⊎◌, List, length, Result, Ok, Err}
use Rattle.std.specs.List.{concat}
use Rattle.verity_store.specs.declared.store.BlockStore as store
use Rattle.verity_chain.specs.Right.{AreRight, bytes_of}
use Rattle.verity_chain.specs.Table.{height}
use Rattle.verity_check.specs.Range.{touched}
use Rattle.verity_check.specs.Holds.{Holds}
use Rattle.verity_check.specs.Verifier.{Verifying, given_to, MayServe, MayRefuse}
use Rattle.nbd_session.specs.declared.offer.Offer.{Offer}
use Rattle.nbd_session.specs.declared.phase.Phase.TheVariants.{Flags}
use Rattle.nbd_session.specs.Protocol.{nbd_eio, nbd_enomem}
use Rattle.nbd_session.specs.Talk.{Verdict, Bytes, Refused, Judged, hear, talk}
use Rattle.nbd_session.specs.Export.{Facts, eios}
use Rattle.nbd_session.specs.declared.export.ExportFault.{ExportFault}
use Rattle.nbd_session.specs.declared.export.ExportFault.TheVariants as export
use Rattle.verity_check.specs.declared.fault.CheckFault.{CheckFault}
use Rattle.verity_check.specs.declared.fault.CheckFault.TheVariants as check

-- an answer as a session takes it: a refusal is want of memory, or else Io
abbrev pub answer_of : Result (Unit {0}) CheckFault → Result (Unit {0}) ExportFault
answer_of (Ok x) = Ok x
answer_of (Err check.NoMemory) = Err export.NoMemory
answer_of (Err fault) = Err export.Io

-- The verdict is the image's own bytes; or want of memory; or EIO.
abbrev pub IsExactFor : (image : List (List ℕ)) → (offset len : ℕ) → Verdict → Type 0
IsExactFor image offset len (Bytes bytes) = (length bytes ≡ len) × (bytes ≡ bytes_of image offset len)
IsExactFor image offset len (Refused error) = (error ≡ nbd_enomem) ⊎ (error ≡ nbd_eio)

module _ {D H : Type 0} (data_facts : store.Ghosts D) (hash_facts : store.Ghosts H) where
  -- both stores tell, and hold the image and its tree under the table line
  abbrev pub HoldsFor : Verifying D H → (image : List (List ℕ)) → Type 0
  HoldsFor v image = Holds v.table (data_facts.tells v.data_store) (data_facts.content v.data_store) (hash_facts.tells v.hash_store)
      (hash_facts.content v.hash_store) image

  -- the whole volume is these bytes, and its stores tell
  abbrev pub IsContent : Verifying D H → (content : List ℕ) → Type 0
  IsContent v content = (image : List (List ℕ)) × HoldsFor v image × (content ≡ concat image)

  -- how often the two stores failed
  abbrev pub failures_of : Verifying D H → ℕ
  failures_of v = data_facts.failures v.data_store + hash_facts.failures v.hash_store

  -- how often the two stores were read
  abbrev pub reads_of : Verifying D H → ℕ
  reads_of v = data_facts.reads v.data_store + hash_facts.reads v.hash_store

  -- what a session sees of a verifier; memory may be lacked for any range, and a range costs at most one read of each data block
  -- that it touches, and for each of these as many reads of hash blocks as there are levels
  abbrev pub facts_of : Verifying D H → Facts
  facts_of v = record {
    size = v.table.data_blocks * v.table.data_block_size;
    block = v.table.data_block_size;
    may_serve = MayServe data_facts hash_facts v;
    may_refuse = MayRefuse data_facts hash_facts v;
    may_lack = λ offset len. Unit {0};
    steady = IsContent v;
    failures = failures_of v;
    reads = reads_of v;
    may_cost = λ offset len n. n ≤ touched v.table offset len + touched v.table offset len * height v.table;
  }

  -- The verdict is right for an image: its bytes, unless a store gave a block that clashes with it; or want of memory; or
  -- EIO where the verifier may refuse the range.
  abbrev pub IsRightFor : Verifying D H → (image : List (List ℕ)) → (offset len : ℕ) → Verdict → Type 0
  IsRightFor v image offset len (Bytes bytes) = (length bytes ≡ len) ×
      AreRight v.table (given_to data_facts hash_facts v) image offset len bytes
  IsRightFor v image offset len (Refused error) = (error ≡ nbd_enomem) ⊎ ((error ≡ nbd_eio) × MayRefuse data_facts hash_facts v offset len)

  -- This was said for an input, by verdicts that are right for an image.
  pub record SaysRight (v : Verifying D H) (image : List (List ℕ)) (offer : Offer) (input said : List ℕ) : Type 0 where
    pub verdicts : List Verdict
    pub judged : Judged (IsRightFor v image) (hear offer Flags input).answers verdicts
    pub exact : said ≡ talk offer input verdicts

  -- This was said for an input between two moments: every verdict is the image's own bytes, or want of memory, or an EIO,
  -- and the stores' failures rose by one at least for each EIO.
  pub record SaysExact (old new : Verifying D H) (image : List (List ℕ)) (offer : Offer) (input said : List ℕ) : Type 0 where
    pub verdicts : List Verdict
    pub judged : Judged (IsExactFor image) (hear offer Flags input).answers verdicts
    pub counted : failures_of old + eios verdicts ≤ failures_of new
    pub exact : said ≡ talk offer input verdicts
