use Rattle.std.proofs.Common.{◌≡◌, ℕ, ◌+◌, ◌-◌, ◌/◌, ◌<◌, ◌≤◌, ◌∷◌, ◌++◌, [], List, length, take, map, get_or, eqb}
use Rattle.std.proofs.Common.{arith, subst, sym, ap, ◌∙◌}
use Rattle.std.specs.List.{dedup}
use Rattle.std.proofs.lemmas.List.{map_more, take_all}
use Rattle.std.proofs.lemmas.Simd.{map-map}
use Rattle.verity_pending.specs.declared.child.Child.{Child}
use Rattle.verity_pending.specs.Slots.{nobody}
use Rattle.verity_plan.proofs.DedupLemmas.{dedup_kept, dedup_pushed}
use Rattle.verity_plan.proofs.plan.parents.Goals as goal
use Rattle.verity_plan.proofs.plan.parents.Goals.{then-not-is_last+in_ok-push, else-not-is_last}

pub loop-c-preserved : goal.loop-c-preserved
loop-c-preserved g c =
    let k : ℕ = c.args.per_block in
    let items : List Child = c.args.children.now.items in
    let f : Child → ℕ = λ child. child.number / k in
    let here : ℕ = c.at.result.number / k in
    let ns : List ℕ = map f (take c.loop-c.c items) in
    let test = c.loop-c-test.true in
    let below : c.loop-c.c < length items = omega (arith, c.len-count.ensures) in
    let more : map f (take (c.loop-c.c + 1) items) ≡ ns ++ here ∷ [] =
    map_more f items c.loop-c.c nobody below ∙ ap (λ x. ns ++ f x ∷ []) (sym c.at.ensures) in
    let before : c.loop-c.up.items ≡ dedup eqb ns = c.loop-c.invariant in
    let seen : c.deref.result.now ≡ c.loop-c.up.items = c.deref.ensures.value in
    elim c.if-not-is_last.branch [
      | then-not-is_last+in_ok-push w ↦
          ap (λ v. v.items) w.up-is ∙ w.in_ok-push.ensures.items
          ∙ dedup_pushed c.loop-c.up.items ns here before
          (subst (λ (u : List ℕ). 0 < length u → get_or u (length u - 1) 0 ≡ here → ⊥) seen (c.is_last.ensures.other w.if-not-is_last.true))
          ∙ ap (dedup eqb) (sym more)
      | else-not-is_last w ↦
          let last = c.is_last.ensures.same w.if-not-is_last.false in
          ap (λ v. v.items) w.up-is
          ∙ dedup_kept c.loop-c.up.items ns here before (subst (λ (u : List ℕ). 0 < length u) seen last.0)
          (subst (λ (u : List ℕ). get_or u (length u - 1) 0 ≡ here) seen last.1)
          ∙ ap (dedup eqb) (sym more)
    ]

pub returns : goal.returns
returns g c =
    let k : ℕ = c.args.per_block in
    let items : List Child = c.args.children.now.items in
    let test = c.loop-c-test.false in
    let all : length items ≤ c.loop-c.c = omega (arith, c.len-count.ensures) in
    c.loop-c.invariant
    ∙ ap (λ xs. dedup eqb (map (λ child. child.number / k) xs)) (take_all c.loop-c.c items all)
    ∙ ap (dedup eqb) (sym (map-map (λ n. n / k) (λ child. child.number) items))
