use Rattle.std.proofs.Common.{◌≡◌, ℕ, ◌+◌, ◌/◌, length, sym, ap, ◌∙◌, arith}
use Rattle.std.proofs.lemmas.List.{get_or_read, length-append}
use Rattle.verity_geometry.specs.Geometry.{digests_per_block}
use Rattle.verity_tree.specs.Open.{Open, most}
use Rattle.verity_tree.specs.Climb.{open_at, nothing_open}
use Rattle.verity_tree.specs.Coming.{coming}
use Rattle.verity_tree.specs.Opens.{hashing_of, opens}
use Rattle.verity_tree.proofs.Comings.{opens_at}
use Rattle.verity_tree.proofs.open_tree.OpenTree.is_full.Goals as goal

pub is_full-requires : goal.is_full-requires
is_full-requires g c =
    let tree = c.args.self.now in
    let level : ℕ = c.args.level in
    let is = get_or_read tree.blocks.items level c.index.result.now c.requires.level c.index.ensures nothing_open in
    let alike = tree.alike level c.requires.level in
    let whole : length (open_at (opens tree) level).digests ≡ length c.index.result.now.digests + c.coming.result =
    ap (λ (o : Open). length o.digests) (opens_at (hashing_of tree) tree.waiting.items tree.blocks.items level c.requires.level)
    ∙ length-append (open_at tree.blocks.items level).digests (coming (hashing_of tree) tree.waiting.items level)
    ∙ (λ i. length (sym is i).digests + sym c.coming.ensures i) in
    let room : most c.index.result.now ≡ digests_per_block tree.geometry = ap most is ∙ (λ i. alike.0 i / alike.1 i) in
    omega (arith, whole, room, c.requires.most)

pub returns : goal.returns
returns g c =
    let tree = c.args.self.now in
    let level : ℕ = c.args.level in
    let is = get_or_read tree.blocks.items level c.index.result.now c.requires.level c.index.ensures nothing_open in
    let alike = tree.alike level c.requires.level in
    let whole : length (open_at (opens tree) level).digests ≡ length c.index.result.now.digests + c.coming.result =
    ap (λ (o : Open). length o.digests) (opens_at (hashing_of tree) tree.waiting.items tree.blocks.items level c.requires.level)
    ∙ length-append (open_at tree.blocks.items level).digests (coming (hashing_of tree) tree.waiting.items level)
    ∙ (λ i. length (sym is i).digests + sym c.coming.ensures i) in
    let room : most c.index.result.now ≡ digests_per_block tree.geometry = ap most is ∙ (λ i. alike.0 i / alike.1 i) in
    (λ full. whole ∙ c.is_full.ensures.0 full ∙ room, λ full. c.is_full.ensures.1 (sym whole ∙ full ∙ sym room))
