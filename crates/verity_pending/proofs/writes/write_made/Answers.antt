use Rattle.std.proofs.Common.{◌≡◌, ℕ, ◌<◌, List, length, set, arith, subst, sym, ap, ◌∙◌}
use Rattle.std.proofs.lemmas.List.{get_or_read}
use Rattle.verity_store.specs.Blocks.{ChangesAt}
use Rattle.verity_pending.specs.Plan.{Planned, planned_at, nothing_planned}
use Rattle.verity_pending.proofs.Frames.{wrote}
use Rattle.verity_pending.proofs.WriteLemmas.{AreWritten-more, OnlyPlanned-more}
use Rattle.verity_pending.proofs.writes.write_made.Goals as goal

pub loop-made-preserved : goal.loop-made-preserved
loop-made-preserved g c =
    let inv = c.loop-made.invariant in
    let one = c.in_ok-write.ensures in
    let n : ℕ = c.loop-made.made-index in
    let plan : List Planned = c.args.plan.now in
    let below : n < length plan = omega arith in
    let item : Planned = c.made-item.result in
    let is : item ≡ planned_at plan n = get_or_read plan n item below c.made-item.is nothing_planned in
    let old = g.H.BlockStore.content c.args.hash_store.now in
    let now = g.H.BlockStore.content c.loop-made.hash_store in
    let new = g.H.BlockStore.content c.write.new.self in
    let within = c.requires.within n below in
    record {
      written = λ told.
          AreWritten-more n plan now new below (omega arith) (inv.written told)
          (one.written (inv.written_only.later.tells ∙ told) ∙ ap (λ b. set now c.at.result b) c.block.ensures
          ∙ ap (λ a. set now a item.block) c.at.ensures ∙ (λ i. set now (is i).at (is i).block));
      others = OnlyPlanned-more n plan old now new inv.others (subst (λ (a : ℕ). ChangesAt a now new) (c.at.ensures
          ∙ ap (λ m. m.at) is) one.others);
      len = one.others.0 ∙ inv.len;
      unfailed = omega arith;
      written_only = wrote g.H.BlockStore _ _ _ inv.written_only one.tells one.size one.fixed one.gave one.failures one.reads
          (omega (arith, one.counted))
          (omega (arith, one.room));
    }

pub returns-clause-written : goal.returns-clause-written
returns-clause-written g c = λ told want each i below. c.loop-made.invariant.written told want each i (omega arith)

pub returns-in_err-write-clause-others : goal.returns-in_err-write-clause-others
returns-in_err-write-clause-others g c =
    let n : ℕ = c.loop-made.made-index in
    let plan : List Planned = c.args.plan.now in
    let below : n < length plan = omega arith in
    let is : c.made-item.result ≡ planned_at plan n = get_or_read plan n c.made-item.result below c.made-item.is nothing_planned in
    λ q free.
    c.in_err-write.ensures.others.1 q (λ e. free n below (sym (c.at.ensures ∙ ap (λ m. m.at) is) ∙ sym e))
    ∙ c.loop-made.invariant.others q (λ d l. free d (omega arith))
