use Rattle.std.proofs.Common.{◌≡◌, ℕ, suc, ◌+◌, List, length, refl, sym, ap, subst, ◌∙◌, arith, set, true}
use Rattle.verity_store.specs.Blocks.{ChangesAt}
use Rattle.verity_chain.specs.Table.{hashing_of, hash_place}
use Rattle.verity_chain.specs.Stores.{Gave}
use Rattle.verity_chain.proofs.ChainLemmas.{ok_here, same_here, differs_here, gave_here}
use Rattle.verity_report.specs.Descent.{known}
use Rattle.verity_pull.specs.Over.{IsHeldAt}
use Rattle.verity_pull.proofs.OverLemmas.{held_rows}
use Rattle.verity_pull.proofs.over.take_hash.Goals as goal

pub hold-requires-clause-whole : goal.hold-requires-clause-whole
hold-requires-clause-whole g c =
    let turn : c.args.level + 1 ≡ suc c.args.level = omega arith in
    c.read.auto.out ∙ c.requires.block ∙ sym (c.requires.rows.whole c.args.level c.requires.level)
    ∙ ap (λ m. length (known c.args.rows.now m).block) (sym turn)

pub returns-clause-rows : goal.returns-clause-rows
returns-clause-rows g c =
    let turn : c.args.level + 1 ≡ suc c.args.level = omega arith in
    held_rows c.args.tree.now c.args.level c.args.index c.read.new.out c.args.rows.now c.hold.new.rows
    (subst (λ m. IsHeldAt m c.args.index c.read.new.out c.args.rows.now c.hold.new.rows) turn c.hold.ensures)
    (c.read.auto.out ∙ c.requires.block) c.requires.rows

pub returns-clause-held : goal.returns-clause-held
returns-clause-held g c =
    let turn : c.args.level + 1 ≡ suc c.args.level = omega arith in
    subst (λ m. IsHeldAt m c.args.index c.read.new.out c.args.rows.now c.hold.new.rows) turn c.hold.ensures

pub returns-clause-gave : goal.returns-clause-gave
returns-clause-gave g c = λ mark marked.
    let H = g.H.BlockStore in
    let e = c.read.ensures in
    let y : List ℕ = c.read.new.out in
    let sized : length c.read.new.out ≡ H.size c.read.new.self =
    c.read.auto.out ∙ c.requires.block ∙ sym c.requires.source.size ∙ sym e.size in
    let here : Gave H mark c.read.new.self c.hash_place-number.result y =
    gave_here H mark c.args.source.now c.read.new.self c.hash_place-number.result y
    (ok_here c.read.result _ e.given c.if-is_err.ensures.value) marked sized e.content e.tells
    (ok_here c.read.result _ e.right c.if-is_err.ensures.value) in
    subst (λ n. Gave H mark c.read.new.self n y) c.hash_place-number.ensures.value here

pub returns-then-not-matches-clause-wrong : goal.returns-then-not-matches-clause-wrong
returns-then-not-matches-clause-wrong g c =
    let H = g.H.BlockStore in
    let e = c.read.ensures in
    let y : List ℕ = c.read.new.out in
    let sized : length c.read.new.out ≡ H.size c.read.new.self =
    c.read.auto.out ∙ c.requires.block ∙ sym c.requires.source.size ∙ sym e.size in (
      refl,
      (λ mark marked.
          subst (λ n. Gave H mark c.read.new.self n y) c.hash_place-number.ensures.value
          (gave_here H mark c.args.source.now c.read.new.self c.hash_place-number.result y
          (ok_here c.read.result _ e.given c.if-is_err.ensures.value) marked sized e.content e.tells
          (ok_here c.read.result _ e.right c.if-is_err.ensures.value))),
      differs_here c.matches.result _ c.matches.ensures.value c.if-not-matches.true,
    )
