use Rattle.std.proofs.Common.{◌∙◌, length, ap, sym}
use Rattle.verity_tree.specs.Waits.{Waits}
use Rattle.verity_tree.proofs.SlotLemmas.{length-slots}
use Rattle.verity_tree.proofs.waiting.Waiting.len.Goals as goal

pub returns-clause-value : goal.returns-clause-value
returns-clause-value g c =
    let w = c.self.inside in
    sym (length-slots w.size w.count w.bytes.items) ∙ ap (λ (x : Waits). length x.blocks) c.self.view_is
