use Rattle.std.proofs.Common.{◌≡◌, ◌*◌, ◌/◌, ◌%◌, ◌<◌, ◌≤◌, length, arith, rules, ◌∙◌, sym, ap, set, ⊎_elim}
use Rattle.std.proofs.lemmas.Bool.{cases_lt}
use Rattle.std.proofs.lemmas.Nat.{mod_below}
use Rattle.verity_pending.specs.Slots.{slots, child_at}
use Rattle.verity_pending.specs.declared.child.Child.{Child}
use Rattle.verity_store.proofs.BlockLemmas.{length-cut}
use Rattle.verity_plan.proofs.SlotLemmas.{FillsSlots-more}
use Rattle.verity_plan.proofs.plan.fill.Goals as goal

pub loop-at-preserved : goal.loop-at-preserved
loop-at-preserved g c =
    let k = c.args.per_block in
    let d = c.args.size in
    let at = c.loop-at.at in
    let before = c.loop-at.invariant in
    let children = c.args.children.now.items in
    let child : Child = c.at-child.result in
    let is : child ≡ child_at children at = c.at-child.ensures in
    let low : child.number % k < k = mod_below child.number k (omega arith) in
    let here : child.number / k ≡ c.args.index = search rules in
    record {
      least = omega arith;
      most = omega arith;
      passed = λ d l h. ⊎_elim (λ earlier. before.passed d l earlier)
          (λ ge. let e : d ≡ at = omega arith in ap (λ x. (child_at children x).number / k) e
          ∙ ap (λ x. x.number / k) (sym is) ∙ here) (cases_lt d at);
      slots =
          let len = length-cut d k c.args.block.now in
          let room : k * d ≤ length c.loop-at.block = omega arith in
          let inside : (child_at children at).number % k < length (slots d k c.args.block.now) =
          (let same = ap (λ x. x.number % k) is in omega arith) in
          FillsSlots-more k children c.args.start at (slots d k c.args.block.now) (slots d k c.loop-at.block)
          (slots d k c.set_slot.new.block) before.least (omega arith) before.slots
          inside (c.set_slot.ensures.slots k low room ∙ ap (λ x. set (slots d k c.loop-at.block) (child.number % k) x)
          c.bytes.ensures ∙ (λ i. set (slots d k c.loop-at.block) ((is i).number % k) (is i).digest));
      tail = c.set_slot.ensures.tail k low ∙ before.tail;
    }
