use Rattle.std.proofs.Common.{◌≡◌, ℕ, suc, ◌+◌, ◌-◌, ◌/◌, ◌<◌, ◌++◌, List, [], length, map, set, get_or, sym, ap, ◌∙◌, arith}
use Rattle.std.specs.Fork.{slice_chunk}
use Rattle.std.proofs.lemmas.List.{get_or_read, get_or-map, ext_get_or, length-append, length-map, length-take-le}
use Rattle.verity_digest.specs.Hash.{Salted, hashing, salted_digest}
use Rattle.verity_digest.specs.Tree.{Hashing}
use Rattle.verity_digest.proofs.Sha.{length-digest_of}
use Rattle.verity_geometry.specs.Geometry.{digests_per_block}
use Rattle.verity_tree.specs.Open.{Open, most}
use Rattle.verity_tree.specs.Waits.{Waits}
use Rattle.verity_tree.specs.Climb.{open_at, nothing_open}
use Rattle.verity_tree.specs.Coming.{none_wait, waits_at, coming, with_coming, opens_from}
use Rattle.verity_tree.specs.Opens.{hashing_of, opens}
use Rattle.verity_tree.proofs.Comings.{opens_at, coming_other, settles_opens}
use Rattle.verity_tree.proofs.open_tree.OpenTree.settle.Goals as goal

pub put_all-requires-clause-sized : goal.put_all-requires-clause-sized
put_all-requires-clause-sized g c = λ j below.
    let tree = c.args.self.now in
    let level : ℕ = c.args.level in
    let h : Hashing = hashing_of tree in
    let bs : List Open = tree.blocks.items in
    let ws : List Waits = tree.waiting.items in
    let m : ℕ = level - 1 in
    let up : suc m ≡ level = omega (arith, c.if-level-eq0.false) in
    let row : m < length ws = omega (arith, tree.rows, tree.levels, c.requires.level, up) in
    let is = get_or_read bs level c.index_mut-block.result.now c.requires.level c.index_mut-block.ensures.value nothing_open in
    let waits = get_or_read ws m c.index_mut-below.result.now row c.index_mut-below.ensures.value none_wait in
    let out : List (List ℕ) = c.digest_many.new.out in
    let count : length out ≡ c.len-count.result = c.digest_many.auto.out ∙ length-take-le c.len-count.result _ c.len-count.ensures.most in
    let blocks : List (List ℕ) = (waits_at ws m).blocks in
    let many : c.len-count.result ≡ length blocks = c.len-count.ensures.value ∙ ap (λ (w : Waits). length w.blocks) waits in
    ap length (c.digest_many.ensures.digests j (omega (arith, c.digest_many.auto.out, below)))
    ∙ length-digest_of tree.hasher.salted.algorithm (tree.hasher.salted.salt ++ slice_chunk c.bytes.result.now c.hash_size.result j)
    ∙ tree.sized ∙ sym (tree.alike level c.requires.level).1 ∙ ap (λ (o : Open). o.digest_size) (sym is)

pub put_all-requires-clause-room : goal.put_all-requires-clause-room
put_all-requires-clause-room g c =
    let tree = c.args.self.now in
    let level : ℕ = c.args.level in
    let h : Hashing = hashing_of tree in
    let bs : List Open = tree.blocks.items in
    let ws : List Waits = tree.waiting.items in
    let m : ℕ = level - 1 in
    let up : suc m ≡ level = omega (arith, c.if-level-eq0.false) in
    let row : m < length ws = omega (arith, tree.rows, tree.levels, c.requires.level, up) in
    let is = get_or_read bs level c.index_mut-block.result.now c.requires.level c.index_mut-block.ensures.value nothing_open in
    let waits = get_or_read ws m c.index_mut-below.result.now row c.index_mut-below.ensures.value none_wait in
    let out : List (List ℕ) = c.digest_many.new.out in
    let count : length out ≡ c.len-count.result = c.digest_many.auto.out ∙ length-take-le c.len-count.result _ c.len-count.ensures.most in
    let blocks : List (List ℕ) = (waits_at ws m).blocks in
    let many : c.len-count.result ≡ length blocks = c.len-count.ensures.value ∙ ap (λ (w : Waits). length w.blocks) waits in
    let alike = tree.alike level c.requires.level in
    let comes : length (coming h ws level) ≡ length blocks = ap (λ l. length (coming h ws l)) (sym up) ∙ length-map blocks h.digest in
    let whole : length (open_at (opens tree) level).digests ≡ length c.index_mut-block.result.now.digests + length (coming h ws level) =
    ap (λ (o : Open). length o.digests) (opens_at h ws bs level c.requires.level)
    ∙ length-append (open_at bs level).digests (coming h ws level)
    ∙ (λ i. length (sym is i).digests + length (coming h ws level)) in
    let room : most c.index_mut-block.result.now ≡ digests_per_block tree.geometry = ap most is ∙ (λ i. alike.0 i / alike.1 i) in
    omega (arith, whole, comes, many, count, room, c.requires.most)

pub returns-clause-others : goal.returns-clause-others
returns-clause-others g c = λ l apart.
    let tree = c.args.self.now in
    let level : ℕ = c.args.level in
    let h : Hashing = hashing_of tree in
    let bs : List Open = tree.blocks.items in
    let ws : List Waits = tree.waiting.items in
    let m : ℕ = level - 1 in
    let up : suc m ≡ level = omega (arith, c.if-level-eq0.false) in
    let same = ap (λ (s : Salted). hashing s tree.geometry.hash_size) c.digest_many.ensures.salted in
    ap (λ x. coming x (set ws m c.clear.new.self) l) same ∙ coming_other h ws m c.clear.new.self l (λ e. apart (e ∙ up))

pub returns-clause-opens : goal.returns-clause-opens
returns-clause-opens g c =
    let tree = c.args.self.now in
    let level : ℕ = c.args.level in
    let h : Hashing = hashing_of tree in
    let bs : List Open = tree.blocks.items in
    let ws : List Waits = tree.waiting.items in
    let m : ℕ = level - 1 in
    let up : suc m ≡ level = omega (arith, c.if-level-eq0.false) in
    let row : m < length ws = omega (arith, tree.rows, tree.levels, c.requires.level, up) in
    let is = get_or_read bs level c.index_mut-block.result.now c.requires.level c.index_mut-block.ensures.value nothing_open in
    let waits = get_or_read ws m c.index_mut-below.result.now row c.index_mut-below.ensures.value none_wait in
    let out : List (List ℕ) = c.digest_many.new.out in
    let count : length out ≡ c.len-count.result = c.digest_many.auto.out ∙ length-take-le c.len-count.result _ c.len-count.ensures.most in
    let blocks : List (List ℕ) = (waits_at ws m).blocks in
    let many : c.len-count.result ≡ length blocks = c.len-count.ensures.value ∙ ap (λ (w : Waits). length w.blocks) waits in
    let same = ap (λ (s : Salted). hashing s tree.geometry.hash_size) c.digest_many.ensures.salted in
    let size : c.hash_size.result ≡ c.index_mut-below.result.now.size =
    c.hash_size.ensures.value ∙ sym (tree.waits m row).0 ∙ ap (λ (w : Waits). w.size) (sym waits) in
    let made : out ≡ map h.digest blocks =
    ext_get_or [] out (map h.digest blocks) (count ∙ many ∙ sym (length-map blocks h.digest))
    (λ j below.
    c.digest_many.ensures.digests j (omega (arith, c.digest_many.auto.out, below))
    ∙ ap (salted_digest tree.hasher.salted)
    (ap (λ z. slice_chunk c.bytes.result.now z j) size
    ∙ c.bytes.ensures.value j (omega (arith, below, count, c.len-count.ensures.value))
    ∙ ap (λ (w : Waits). get_or w.blocks j []) waits)
    ∙ sym (get_or-map h.digest blocks j [] [] (omega (arith, below, count, many)))) in
    let next : c.put_all.new.self ≡ with_coming (open_at bs (suc m)) out =
    c.put_all.ensures ∙ ap {A = Open} {B = Open} (λ o. with_coming o out) (is ∙ ap (λ l. open_at bs l) (sym up)) in
    ap (λ x. opens_from x (set ws m c.clear.new.self) 0 (set bs level c.put_all.new.self)) same
    ∙ ap (λ l. opens_from h (set ws m c.clear.new.self) 0 (set bs l c.put_all.new.self)) (sym up)
    ∙ settles_opens h ws bs m c.put_all.new.self c.clear.new.self out row (omega (arith, up, c.requires.level)) made next
    (ap (λ (w : Waits). w.blocks) c.clear.ensures)
