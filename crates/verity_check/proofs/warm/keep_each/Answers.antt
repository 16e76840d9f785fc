use Rattle.std.proofs.Common.{◌≡◌, ◌+◌, ◌*◌, ◌-◌, ℕ, inl, inr, [], length, refl, take, drop, ap, sym, ◌∙◌, subst, arith}
use Rattle.std.proofs.lemmas.List.{get_or_read_under}
use Rattle.verity_check.specs.Cache.{IsKept}
use Rattle.verity_check.proofs.warm.keep_each.Goals as goal
use Rattle.verity_check.proofs.warm.keep_each.Goals.{then-is_same, else-is_same}

pub each-preserved : goal.each-preserved
each-preserved g c = λ m b kept. elim c.if-is_same.branch [
  | then-is_same w ↦ elim (w.remember_block.ensures m b (subst (λ d. IsKept d m b) w.data_cache-is kept)) [
    | inl old ↦ c.each.invariant m b old
    | inr at ↦
        let j : ℕ = c.each.j in
        let size : ℕ = c.args.size in
        let width : j * size + size - j * size ≡ size = omega arith in
        let same = sym (get_or_read_under c.args.digests.now c.each.j (length c.args.digests.now) c.index-digests-j.result []
        c.index-digests-j.is c.each-test.true refl) ∙ c.is_same.ensures w.if-is_same.true
        ∙ get_or_read_under c.args.names.now c.each.j (length c.args.names.now) c.index-names-j.result [] c.index-names-j.is
        (omega (arith, c.each-test.true, c.requires.names)) refl in
        inr (j, c.each-test.true, same, at.0, at.1 ∙ ap (λ k. take k (drop (j * size) c.args.blocks.now)) width)
  ]
  | else-is_same w ↦ c.each.invariant m b (subst (λ d. IsKept d m b) w.data_cache-is kept)
]
