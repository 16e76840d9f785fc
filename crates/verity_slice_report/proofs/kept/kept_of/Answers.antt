use Rattle.std.proofs.Common.{◌≡◌, ◌<◌, ◌++◌, length, ℕ, List, [], ◌∷◌, true, false, sym, ap, ◌∙◌, arith}
use Rattle.std.specs.Prelude.{slice_index_or}
use Rattle.verity_chain.specs.declared.place.Place.{Place}
use Rattle.verity_chain.specs.declared.place.Place.TheVariants as places
use Rattle.verity_report.specs.declared.finding.Verdict.{Verdict}
use Rattle.verity_report.specs.declared.finding.Verdict.TheVariants as verdicts
use Rattle.verity_slice_report.specs.Sliced.{is_of}
use Rattle.verity_slice_report.proofs.KeptLemmas.{kept_more, kept_same, not_true}
use Rattle.verity_slice_report.proofs.kept.kept_of.Goals as goal
use Rattle.verity_slice_report.proofs.kept.kept_of.Goals.{then-is_kept+in_ok-push, else-is_kept}

pub loop-fault-preserved : goal.loop-fault-preserved
loop-fault-preserved c =
    let p = is_of c.args.tree.now c.args.run in
    let xs = c.args.faults.now in
    let i = c.loop-fault.fault-index in
    let d : Place × Verdict = (places.Data 0, verdicts.Bad) in
    let low : i < length xs = omega (arith, c.loop-fault-test.true, c.loop-fault.auto.fault-index-end) in
    elim c.if-is_kept.branch [
      | then-is_kept+in_ok-push w ↦ ap (λ v. v.items) w.kept-is ∙ w.in_ok-push.ensures.items
          ∙ ap (λ (ys : List (Place × Verdict)). ys ++ slice_index_or xs i d ∷ []) c.loop-fault.invariant
          ∙ sym (kept_more p xs i d low (c.is_kept.ensures.0 w.if-is_kept.true))
      | else-is_kept w ↦ ap (λ v. v.items) w.kept-is ∙ c.loop-fault.invariant
          ∙ sym (kept_same p xs i d low (not_true (p (slice_index_or xs i d)) c.is_kept.result c.is_kept.ensures.1 w.if-is_kept.false))
    ]
