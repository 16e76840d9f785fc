use Rattle.std.proofs.Common.{◌≡◌, ◌-◌, ◌^◌, ℕ, true, arith}
use Rattle.std.proofs.lemmas.List.Elements.{All-get_or}
use Rattle.verity_chain.specs.declared.place.Place.{Place}
use Rattle.verity_chain.specs.declared.place.Place.TheVariants as places
use Rattle.verity_report.specs.declared.finding.Verdict.{Verdict}
use Rattle.verity_report.specs.declared.finding.Verdict.TheVariants as verdicts
use Rattle.verity_slice_report.specs.Sliced.{is_of, below_place}
use Rattle.verity_slice_report.proofs.KeptLemmas.{counted_more}
use Rattle.verity_slice_report.proofs.kept.unchecked_of.Goals as goal

pub below_of-requires-clause-kept : goal.below_of-requires-clause-kept
below_of-requires-clause-kept c =
    All-get_or (λ fault. is_of c.args.tree.now c.args.run fault ≡ true) c.args.faults.now c.loop-fault.fault-index
    (places.Data 0, verdicts.Bad) (omega (arith, c.loop-fault-test.true, c.loop-fault.auto.fault-index-end)) c.requires.kept

pub loop-fault-preserved : goal.loop-fault-preserved
loop-fault-preserved c =
    counted_more (λ (fault : Place × Verdict). below_place c.args.tree.now c.args.run fault.0) (2 ^ 64 - 1) c.args.faults.now
    c.loop-fault.fault-index (places.Data 0, verdicts.Bad) c.loop-fault.unchecked c.saturating_add-unchecked.result
    (omega (arith, c.loop-fault-test.true, c.loop-fault.auto.fault-index-end)) c.loop-fault.invariant
    (omega (arith, c.saturating_add-unchecked.ensures, c.below_of.ensures))
