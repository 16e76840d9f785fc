use Rattle.std.proofs.Common.{ℕ, ◌<◌, ◌≤◌, List, length, take, map, sym, ap, ◌∙◌, arith}
use Rattle.std.proofs.lemmas.List.{length-take-le, length-map, ext_get_or, get_or-map}
use Rattle.verity_digest.specs.Hash.{salted_digest}
use Rattle.verity_pending.specs.declared.child.Child.{Child}
use Rattle.verity_pending.specs.Slots.{nobody, child_at}
use Rattle.verity_pending.specs.Leaves.{hashed_leaf}
use Rattle.verity_pending.proofs.leaves.digest_run.Goals as goal

below_take : {X : Type 0} (xs : List X) (n j : ℕ) → n ≤ length xs → j < n → j < length (take n xs)
below_take xs n j fits lt = omega (arith, length-take-le n xs fits)

pub returns-clause-made : goal.returns-clause-made
returns-clause-made g c =
    let salted = c.args.hasher.now.salted in
    let old : List Child = c.args.leaves.now in
    let new : List Child = c.put_digests.new.leaves in
    let f : Child → Child = λ child. hashed_leaf salted c.args.written.now.entries c.args.zero.now child.number in
    ext_get_or nobody new (map f old) (c.put_digests.auto.leaves ∙ sym (length-map old f))
    (λ j below.
    let inside : j < length old = omega (arith, c.put_digests.auto.leaves) in
    let digest = c.digest_many.ensures.digests j (below_take _ (length old) j c.requires.few inside)
    ∙ ap (salted_digest salted) (c.gather.ensures j inside) in
    c.put_digests.ensures j inside
    ∙ (λ i. record { number = (child_at old j).number; digest = digest i })
    ∙ sym (get_or-map f old j nobody nobody inside))
