use Rattle.std.proofs.Common.{◌≡◌, ◌-◌, ◌++◌, length, replicate, ap, ◌∙◌, sym}
use Rattle.std.specs.List.{concat}
use Rattle.verity_tree.proofs.SlotLemmas.{bytes_are}
use Rattle.verity_tree.proofs.open_block.OpenBlock.bytes.Goals as goal

pub returns-clause-value : goal.returns-clause-value
returns-clause-value g c = λ h same.
    let b = c.self.inside in
    let size : length b.bytes.items ≡ h.block_size = ap (λ o. o.block_size) c.self.view_is ∙ sym same in
    c.deref.ensures.value
    ∙ bytes_are b.digest_size b.filled b.bytes.items (record { within = c.self.invariant.within; zeros = c.self.invariant.zeros })
    ∙ ap (λ o. concat o.digests ++ replicate (length b.bytes.items - length (concat o.digests)) 0) c.self.view_is
    ∙ ap (λ n. concat c.args.self.now.digests ++ replicate (n - length (concat c.args.self.now.digests)) 0) size
