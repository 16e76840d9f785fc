use Rattle.std.proofs.Common.{◌≡◌, Some, arith, rules, ap, ◌∙◌}
use Rattle.verity_pending.proofs.Drafts.{edits_write}
use Rattle.verity_pending.specs.Pend.{draft}
use Rattle.verity_pending.proofs.pending.Pending.write.Goals as goal

pub returns-in-Ok-insert-clause-done : goal.returns-in-Ok-insert-clause-done
returns-in-Ok-insert-clause-done g c = λ image.
    let updates = c.in-Ok-insert.ensures.updates in
    let copied : c.in-Ok.bytes.items ≡ c.args.block.now = search rules in
    rw (← c.self.view_is) (edits_write image (draft c.self.inside) c.insert.new.self.entries c.args.n c.args.block.now (omega arith)
    (updates.1 ∙ ap Some (c.new.ensures ∙ copied)) updates.2)
