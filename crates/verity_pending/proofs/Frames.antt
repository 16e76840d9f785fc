-- Runs of calls of a store: what each call leaves, all of them leave.
use Rattle.std.proofs.Common.{◌≡◌, ◌≤◌, refl, ◌∙◌, arith}
use Rattle.verity_store.specs.Given.{GoesOn}
use Rattle.verity_store.proofs.GivenLemmas.{goes_on_then}
use Rattle.verity_store.specs.Stores.{IsLater, StaysStore, IsOnlyWritten, IsKept}
use Rattle.verity_store.specs.declared.store.BlockStore as store
use Rattle.verity_store.proofs.StoreLemmas.{later_same, later_then}

pub stays_then : {S : Type 0} (facts : store.Ghosts S) (old now new : S) → StaysStore facts old now → StaysStore facts now new →
    StaysStore facts old new
stays_then facts old now new first second =
    record {
      tells = second.tells ∙ first.tells;
      size = second.size ∙ first.size;
      fixed = second.fixed ∙ first.fixed;
      gave = goes_on_then _ _ _ first.gave second.gave;
      failures = omega (arith, first.failures, second.failures);
      changes = omega (arith, first.changes, second.changes);
      room = omega (arith, first.room, second.room);
    }

pub stays_of : {S : Type 0} (facts : store.Ghosts S) (old new : S) → IsLater facts old new → StaysStore facts old new
stays_of facts old new later = record {
  tells = later.tells;
  size = later.size;
  fixed = later.fixed;
  gave = later.gave;
  failures = later.failures;
  changes = later.changes;
  room = later.room;
}

pub written_same : {S : Type 0} (facts : store.Ghosts S) (s : S) → IsOnlyWritten facts s s
written_same facts s = record { reads = refl; later = later_same facts s }

pub written_then : {S : Type 0} (facts : store.Ghosts S) (old now new : S) → IsOnlyWritten facts old now →
    IsOnlyWritten facts now new → IsOnlyWritten facts old new
written_then facts old now new first second =
    record { reads = second.reads ∙ first.reads; later = later_then facts old now new first.later second.later }

pub kept_then : {S : Type 0} (facts : store.Ghosts S) (old now new : S) → IsKept facts old now → IsKept facts now new → IsKept facts old new
kept_then facts old now new first second =
    record {
      content = second.content ∙ first.content;
      changes = second.changes ∙ first.changes;
      reads = second.reads ∙ first.reads;
      later = later_then facts old now new first.later second.later;
    }

-- a call that reads nothing, after others
pub wrote : {S : Type 0} (facts : store.Ghosts S) (old now new : S) → IsOnlyWritten facts old now →
    facts.tells new ≡ facts.tells now → facts.size new ≡ facts.size now → facts.fixed new ≡ facts.fixed now
    → GoesOn (facts.given now) (facts.given new) → facts.failures now ≤ facts.failures new → facts.reads new ≡ facts.reads now
    → facts.changes now ≤ facts.changes new → facts.room now ≤ facts.room new → IsOnlyWritten facts old new
wrote facts old now new first tells size fixed gave failures reads changes room =
    written_then facts old now new first (record {
      reads = reads;
      later = record {
        tells = tells;
        size = size;
        fixed = fixed;
        gave = gave;
        failures = failures;
        reads = omega arith;
        changes = changes;
        room = room;
      };
    })

pub stays_same : {S : Type 0} (facts : store.Ghosts S) (s : S) → StaysStore facts s s
stays_same facts s = stays_of facts s s (later_same facts s)

pub written_of : {S : Type 0} (facts : store.Ghosts S) (old new : S) → IsKept facts old new → IsOnlyWritten facts old new
written_of facts old new kept = record { reads = kept.reads; later = kept.later }
