use Rattle.std.proofs.Common.{ℕ, ◌+◌, ◌<◌, ◌++◌, ◌∷◌, List, [], length, sym, ap, ◌∙◌, arith}
use Rattle.std.proofs.lemmas.List.{get_or_read, length-set}
use Rattle.verity_digest.specs.Tree.{Hashing, hash_block}
use Rattle.verity_tree.specs.Open.{Open}
use Rattle.verity_tree.specs.Waits.{Waits}
use Rattle.verity_tree.specs.Climb.{nothing_open}
use Rattle.verity_tree.specs.Coming.{none_wait}
use Rattle.verity_tree.specs.Opens.{hashing_of}
use Rattle.verity_tree.proofs.Comings.{opens_at, closes_waiting, alike_set, waiting_set}
use Rattle.verity_tree.proofs.open_tree.OpenTree.wait.Goals as goal

pub next-requires : goal.next-requires
next-requires g c =
    let tree = c.args.self.now in
    let level : ℕ = c.args.level in
    let h : Hashing = hashing_of tree in
    let bs : List Open = tree.blocks.items in
    let ws : List Waits = tree.waiting.items in
    let there : level < length bs = omega (arith, c.requires.level) in
    let is = get_or_read bs level c.index_mut-block.result.now there c.index_mut-block.ensures.value nothing_open in
    omega (arith, c.requires.few, ap (λ (o : Open). o.index) (opens_at h ws bs level there), ap (λ (o : Open). o.index) is)

pub invariant_of-self : goal.invariant_of-self
invariant_of-self g c =
    let tree = c.args.self.now in
    let level : ℕ = c.args.level in
    let h : Hashing = hashing_of tree in
    let bs : List Open = tree.blocks.items in
    let ws : List Waits = tree.waiting.items in
    let there : level < length bs = omega (arith, c.requires.level) in
    let row : level < length ws = omega (arith, tree.rows, tree.levels) in
    let is = get_or_read bs level c.index_mut-block.result.now there c.index_mut-block.ensures.value nothing_open in
    let waits = get_or_read ws level c.index_mut-waiting.result.now row c.index_mut-waiting.ensures.value none_wait in
    record {
      shaped = tree.shaped;
      sized = tree.sized;
      levels = length-set bs level c.next.new.self ∙ tree.levels;
      alike = alike_set tree.geometry bs level c.next.new.self tree.alike there
          (ap (λ (o : Open). o.block_size) c.next.ensures ∙ ap (λ (o : Open). o.block_size) is)
          (ap (λ (o : Open). o.digest_size) c.next.ensures ∙ ap (λ (o : Open). o.digest_size) is);
      rows = length-set ws level c.put.new.self ∙ tree.rows;
      waits = waiting_set tree.geometry ws level c.put.new.self tree.waits row
          (ap (λ (w : Waits). w.size) c.put.ensures ∙ ap (λ (w : Waits). w.size) waits)
          (ap (λ (w : Waits). w.room) c.put.ensures ∙ ap (λ (w : Waits). w.room) waits);
    }

pub returns-clause-closes : goal.returns-clause-closes
returns-clause-closes g c =
    let tree = c.args.self.now in
    let level : ℕ = c.args.level in
    let h : Hashing = hashing_of tree in
    let bs : List Open = tree.blocks.items in
    let ws : List Waits = tree.waiting.items in
    let there : level < length bs = omega (arith, c.requires.level) in
    let row : level < length ws = omega (arith, tree.rows, tree.levels) in
    let is = get_or_read bs level c.index_mut-block.result.now there c.index_mut-block.ensures.value nothing_open in
    let waits = get_or_read ws level c.index_mut-waiting.result.now row c.index_mut-waiting.ensures.value none_wait in
    let size = (tree.alike level there).0 in
    let bytes = c.bytes.ensures.value h (sym size ∙ ap (λ (o : Open). o.block_size) (sym is))
    ∙ ap (λ (o : Open). hash_block h o.digests) is in
    let next = c.next.ensures ∙ ap {A = Open} {B = Open} (λ o. record o { digests = []; index = o.index + 1 }) is in
    let put = ap (λ (w : Waits). w.blocks) c.put.ensures ∙ ap (λ (w : Waits). w.blocks ++ c.bytes.result.now ∷ []) waits in
    closes_waiting h ws bs level c.next.new.self there c.requires.settled next c.put.new.self c.bytes.result.now row c.requires.level
    bytes put tree.root
