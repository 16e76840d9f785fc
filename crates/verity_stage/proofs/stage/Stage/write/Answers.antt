use Rattle.std.proofs.Common.{◌≡◌, Some, arith, rules, ap, ◌∙◌}
use Rattle.verity_stage.specs.Inside.{stage_of}
use Rattle.verity_stage.proofs.StageLemmas.{staged_write}
use Rattle.verity_stage.proofs.stage.Stage.write.Goals as goal

pub returns-clause-done : goal.returns-clause-done
returns-clause-done g c = λ content.
    let updates = c.in_ok-insert.ensures.updates in
    let copied : c.in_ok-bytes.bytes.items ≡ c.args.block.now = search rules in
    let here : c.self.inside.blocks ≡ c.args.self.now.blocks = ap (λ s. s.blocks) c.self.view_is in
    rw (← c.self.view_is) (staged_write content (stage_of c.self.inside) c.insert.new.self.entries c.args.n c.args.block.now
    (omega (arith, c.requires.within))
    (updates.1 ∙ ap Some (c.new.ensures ∙ copied)) updates.2)
