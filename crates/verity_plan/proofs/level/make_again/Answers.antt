use Rattle.std.proofs.Common.{◌≡◌, ℕ, ◌*◌, ◌/◌, ◌<◌, ◌≤◌, [], length, get_or, arith, subst, sym, ap, ◌∙◌}
use Rattle.std.specs.Prelude.{IfSome}
use Rattle.std.specs.Int.{div_ceil}
use Rattle.std.specs.Fork.{slice_chunk}
use Rattle.verity_digest.specs.Tree.{Hashing, per_block, pack, hash_block}
use Rattle.verity_digest.specs.Hash.{hashing}
use Rattle.verity_digest.proofs.Sha.{length-digest_of}
use Rattle.verity_digest.proofs.Packing.{get_or-pack}
use Rattle.verity_plan.specs.Level.{Renews}
use Rattle.verity_pending.specs.Slots.{slots}
use Rattle.verity_pending.proofs.Untouched.{begun}
use Rattle.verity_plan.proofs.LevelLemmas.{can_remake}
use Rattle.verity_plan.proofs.level.make_again.Goals as goal

pub returns-clause-digest_size : goal.returns-clause-digest_size
returns-clause-digest_size g c = ap length c.digest.ensures.digest ∙ length-digest_of c.args.hasher.now.salted.algorithm _
    ∙ sym c.requires.level.digest_size

pub returns-clause-made : goal.returns-clause-made
returns-clause-made g c = λ content shown old new count holds renews.
    let h : Hashing = hashing c.args.hasher.now.salted (length c.args.block.now) in
    let level = c.args.level.now in
    let k : ℕ = level.per_block in
    let d : ℕ = level.digest_size in
    let i : ℕ = c.args.index in
    let l = c.requires.level in
    let some : 0 < k = l.some in
    let same : d ≡ h.digest_size = l.digest_size in
    let width : per_block h ≡ k = ap (λ n. n / h.digest_size) c.requires.sized ∙ sym l.width in
    let before = c.in_ok-read_old.ensures in
    let renewed : Renews h.digest_size old new c.args.children.now.items =
    subst (λ (w : ℕ). Renews w old new c.args.children.now.items) same renews in
    let first = λ (far : level.old.len ≤ i) (z : i ≡ 0). subst
    (λ (w : ℕ). IfSome level.old.first (λ digest. get_or (slots w k c.read_old.new.block) 0 [] ≡ digest)) same (before.first far z) in
    let can = can_remake h old new k i level.digests c.min-len.result level.old content
    c.args.children.now.items c.read_old.new.block
    (omega arith) width some (omega arith) c.min-len.ensures (before.read content shown) first count holds renewed in
    let done : c.remake.new.block ≡ hash_block h (slice_chunk new k i) = c.remake.ensures h new (sym same) can in
    let inside : i < div_ceil (length new) (per_block h) =
    begun (length new) (per_block h) i (omega arith) (let e : i * per_block h ≡ i * k = ap (λ w. i * w) width in omega arith) in
    let whole : c.remake.new.block ≡ get_or (pack h new) i [] = done ∙ ap (λ w. hash_block h (slice_chunk new w i)) (sym width)
    ∙ sym (get_or-pack h new i inside) in
    (whole, c.digest.ensures.digest ∙ ap (λ s. h.digest s) whole)
