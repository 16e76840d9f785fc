use Rattle.std.proofs.Common.{◌≡◌, ℕ, ◌+◌, ◌++◌, ◌∷◌, [], length, rules, ap, ◌∙◌}
use Rattle.verity_digest.specs.Tree.{Hashing}
use Rattle.verity_digest.specs.Hash.{hashing}
use Rattle.verity_pending.specs.declared.child.Child.{Child}
use Rattle.verity_pending.specs.Plan.{Planned}
use Rattle.verity_plan.proofs.level.make_block.Goals as goal

pub returns-in-Ok-push-clause-made : goal.returns-in-Ok-push-clause-made
returns-in-Ok-push-clause-made g c = λ content shown old new count holds renews.
    let h : Hashing = hashing c.args.hasher.now.salted (length c.args.block.now) in
    let i : ℕ = c.args.index in
    let at : ℕ = c.args.level.now.start + i in
    let r = c.in-Ok.ensures.made content shown old new count holds renews in
    let planned : c.push.new.self.items ≡ c.args.plan.now.items ++ c.in-Ok-behind.made ∷ [] = search rules in
    let made : c.in-Ok-behind.made ≡ record { at = at; block = c.make_again.new.block } = c.in-Ok-behind.ensures in
    let child : Child = record { number = i; digest = c.in-Ok.digest } in
    let nexted : c.push-2.new.self.items ≡ c.args.next.now.items ++ child ∷ [] = search rules in (
      planned ∙ ap (λ (m : Planned). c.args.plan.now.items ++ m ∷ []) made
          ∙ (λ j. let m : Planned = record { at = at; block = r.0 j } in c.args.plan.now.items ++ m ∷ []),
      nexted ∙ (λ j. c.args.next.now.items ++ record { number = i; digest = r.1 j } ∷ []),
    )

pub returns-in-Ok-push-clause-planned : goal.returns-in-Ok-push-clause-planned
returns-in-Ok-push-clause-planned g c =
    let planned : c.push.new.self.items ≡ c.args.plan.now.items ++ c.in-Ok-behind.made ∷ [] = search rules in
    record {
      block = c.make_again.new.block;
      sized = c.make_again.auto.block;
      added = planned ∙ ap (λ (m : Planned). c.args.plan.now.items ++ m ∷ []) c.in-Ok-behind.ensures;
    }
