use Rattle.std.proofs.Common.{ℕ, ◌+◌, ◌<◌, List, [], length, set, sym, ap, ◌∙◌, subst, arith}
use Rattle.std.specs.Prelude.{Some}
use Rattle.std.proofs.lemmas.List.{get_or_read}
use Rattle.verity_digest.specs.Hash.{Salted, hashing, salted_digest}
use Rattle.verity_digest.specs.Tree.{Hashing, hash_block}
use Rattle.verity_tree.specs.Open.{Open}
use Rattle.verity_tree.specs.Waits.{Waits}
use Rattle.verity_tree.specs.Climb.{nothing_open, Closes}
use Rattle.verity_tree.specs.Coming.{opens_from}
use Rattle.verity_tree.specs.Opens.{hashing_of, opens}
use Rattle.verity_tree.proofs.Comings.{opens_at, closes_top}
use Rattle.verity_tree.proofs.open_tree.OpenTree.finish.Goals as goal

pub next-requires : goal.next-requires
next-requires g c =
    let tree = c.args.self.now in
    let level : ℕ = c.args.level in
    let h : Hashing = hashing_of tree in
    let bs : List Open = tree.blocks.items in
    let ws : List Waits = tree.waiting.items in
    let there : level < length bs = omega (arith, c.requires.level) in
    let is = get_or_read bs level c.index_mut-block.result.now there c.index_mut-block.ensures.value nothing_open in
    omega (arith, c.requires.few, ap (λ (o : Open). o.index) (opens_at h ws bs level there), ap (λ (o : Open). o.index) is)

pub returns-clause-closes : goal.returns-clause-closes
returns-clause-closes g c =
    let tree = c.args.self.now in
    let level : ℕ = c.args.level in
    let h : Hashing = hashing_of tree in
    let bs : List Open = tree.blocks.items in
    let ws : List Waits = tree.waiting.items in
    let there : level < length bs = omega (arith, c.requires.level) in
    let is = get_or_read bs level c.index_mut-block.result.now there c.index_mut-block.ensures.value nothing_open in
    let size = (tree.alike level there).0 in
    let digest = c.digest-digest.ensures.digest
    ∙ ap (salted_digest tree.hasher.salted) (c.bytes.ensures.value h (sym size ∙ ap (λ (o : Open). o.block_size) (sym is))
    ∙ ap (λ (o : Open). hash_block h o.digests) is) in
    let next = c.next.ensures ∙ ap {A = Open} {B = Open} (λ o. record o { digests = []; index = o.index + 1 }) is in
    let same = ap (λ (s : Salted). hashing s tree.geometry.hash_size) c.digest-digest.ensures.salted in
    subst (λ x. Closes h level (opens tree) (opens_from x ws 0 (set bs level c.next.new.self)) tree.root (Some c.digest-digest.result))
    (sym same)
    (closes_top h ws bs level c.next.new.self there c.requires.settled next c.digest-digest.result tree.root c.requires.level digest)
