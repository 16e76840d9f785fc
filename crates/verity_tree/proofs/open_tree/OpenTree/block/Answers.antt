use Rattle.std.proofs.Common.{sym, ap, ◌∙◌}
use Rattle.std.proofs.lemmas.List.{get_or_read}
use Rattle.verity_digest.specs.Tree.{Hashing, hash_block}
use Rattle.verity_tree.specs.Open.{Open}
use Rattle.verity_tree.specs.Climb.{nothing_open}
use Rattle.verity_tree.specs.Opens.{hashing_of}
use Rattle.verity_tree.proofs.Comings.{opens_settled}
use Rattle.verity_tree.proofs.open_tree.OpenTree.block.Goals as goal

pub returns-clause-value : goal.returns-clause-value
returns-clause-value g c =
    let tree = c.args.self.now in
    let h : Hashing = hashing_of tree in
    let is = get_or_read tree.blocks.items c.args.level c.index.result.now c.requires.level c.index.ensures nothing_open in
    let size = (tree.alike c.args.level c.requires.level).0 in
    c.bytes.ensures.value h (sym size ∙ ap (λ (o : Open). o.block_size) (sym is))
    ∙ ap (λ (o : Open). hash_block h o.digests)
    (is ∙ sym (opens_settled h tree.waiting.items tree.blocks.items c.args.level c.requires.level c.requires.settled))

pub returns-clause-len : goal.returns-clause-len
returns-clause-len g c =
    let tree = c.args.self.now in
    let is = get_or_read tree.blocks.items c.args.level c.index.result.now c.requires.level c.index.ensures nothing_open in
    c.bytes.ensures.len ∙ ap (λ (o : Open). o.block_size) is ∙ (tree.alike c.args.level c.requires.level).0
