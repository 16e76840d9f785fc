-- Runs of calls: what each call leaves, all of them leave.
use Rattle.std.proofs.Common.{refl, ◌∙◌, arith, Result, Ok, Err, OnErr}
use Rattle.verity_store.specs.declared.fault.StoreFault.{StoreFault}
use Rattle.verity_store.proofs.GivenLemmas.{goes_on_same, goes_on_then}
use Rattle.verity_store.specs.Stores.{IsLater, IsOnlyRead}
use Rattle.verity_store.specs.declared.store.BlockStore as store

pub later_same : {S : Type 0} (facts : store.Ghosts S) (s : S) → IsLater facts s s
later_same facts s = record {
  tells = refl;
  size = refl;
  fixed = refl;
  gave = goes_on_same _;
  failures = omega arith;
  reads = omega arith;
  changes = omega arith;
  room = omega arith;
}

pub later_then : {S : Type 0} (facts : store.Ghosts S) (old now new : S) → IsLater facts old now → IsLater facts now new →
    IsLater facts old new
later_then facts old now new first second =
    record {
      tells = second.tells ∙ first.tells;
      size = second.size ∙ first.size;
      fixed = second.fixed ∙ first.fixed;
      gave = goes_on_then _ _ _ first.gave second.gave;
      failures = omega (arith, first.failures, second.failures);
      reads = omega (arith, first.reads, second.reads);
      changes = omega (arith, first.changes, second.changes);
      room = omega (arith, first.room, second.room);
    }

pub only_read_same : {S : Type 0} (facts : store.Ghosts S) (s : S) → IsOnlyRead facts s s
only_read_same facts s = record { content = refl; changes = refl; room = refl; later = later_same facts s }

pub only_read_then : {S : Type 0} (facts : store.Ghosts S) (old now new : S) → IsOnlyRead facts old now → IsOnlyRead facts now new →
    IsOnlyRead facts old new
only_read_then facts old now new first second =
    record {
      content = second.content ∙ first.content;
      changes = second.changes ∙ first.changes;
      room = second.room ∙ first.room;
      later = later_then facts old now new first.later second.later;
    }

-- a fact of an answer that may be one
pub on_err_always : (result : Result (Unit {0}) StoreFault) (P : Type 0) → P → OnErr result P
on_err_always (Ok u) P p = tt
on_err_always (Err e) P p = p
