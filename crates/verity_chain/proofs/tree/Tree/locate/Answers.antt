use Rattle.std.proofs.Common.{◌≡◌, ◌<◌, ℕ, ap, ◌∙◌, arith}
use Rattle.verity_digest.specs.Shape.{level_start}
use Rattle.verity_geometry.specs.Geometry.{levels_of, start_of}
use Rattle.verity_chain.specs.Table.{branching, height}
use Rattle.verity_chain.proofs.TableLaws.{blocks_from, none_from}
use Rattle.verity_chain.proofs.tree.Tree.locate.Goals as goal

pub returns-then-start-at-clause-index : goal.returns-then-start-at-clause-index
returns-then-start-at-clause-index g c =
    let t = c.args.self.now in
    let l : ℕ = c.loop-level.level in
    let levels : c.levels-level-end.result ≡ height t = c.levels-level-end.ensures.value ∙ ap levels_of c.self.invariant.1
    ∙ ap height c.self.view_is in
    let there : l < height t = omega (arith, c.loop-level-test.true, levels) in
    let start : c.level_start-start.result ≡ level_start (branching t) t.data_blocks l =
    c.level_start-start.ensures.value ∙ ap (λ s. start_of s l) c.self.invariant.1
    ∙ ap (λ v. level_start (branching v) v.data_blocks l) c.self.view_is in
    omega (arith, c.loop-level.invariant.within, blocks_from t l there, start, c.if-start-at.true)

pub unreachable-requires : goal.unreachable-requires
unreachable-requires g c =
    let t = c.args.self.now in
    let l : ℕ = c.loop-level.level in
    let levels : c.levels-level-end.result ≡ height t = c.levels-level-end.ensures.value ∙ ap levels_of c.self.invariant.1
    ∙ ap height c.self.view_is in
    let top : l ≡ height t = omega (arith, c.loop-level-test.false, c.loop-level.auto.level-end, levels) in
    omega (arith, c.loop-level.invariant.within, none_from t l top)
