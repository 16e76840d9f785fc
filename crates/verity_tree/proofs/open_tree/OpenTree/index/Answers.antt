use Rattle.std.proofs.Common.{sym, ap, ◌∙◌}
use Rattle.std.proofs.lemmas.List.{get_or_read}
use Rattle.verity_tree.specs.Open.{Open}
use Rattle.verity_tree.specs.Climb.{nothing_open}
use Rattle.verity_tree.specs.Opens.{hashing_of}
use Rattle.verity_tree.proofs.Comings.{opens_at}
use Rattle.verity_tree.proofs.open_tree.OpenTree.index.Goals as goal

pub returns : goal.returns
returns g c =
    let tree = c.args.self.now in
    let is = get_or_read tree.blocks.items c.args.level c.index.result.now c.requires c.index.ensures nothing_open in
    let at = opens_at (hashing_of tree) tree.waiting.items tree.blocks.items c.args.level c.requires in
    c.index-2.ensures ∙ ap (λ (o : Open). o.index) is ∙ sym (ap (λ (o : Open). o.index) at)
