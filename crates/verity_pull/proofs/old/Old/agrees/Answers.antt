use Rattle.std.proofs.Common.{◌≡◌, ℕ, suc, ◌+◌, List, sym, subst, arith}
use Rattle.verity_chain.specs.Table.{path_index}
use Rattle.verity_chain.proofs.ChainLemmas.{same_here}
use Rattle.verity_pull.specs.Over.{rooted, was_given, IsOldName}
use Rattle.verity_pull.proofs.OverLemmas.{named_by_ends}
use Rattle.verity_pull.proofs.old.Old.agrees.Goals as goal

pub returns-else-are_same-clause-found : goal.returns-else-are_same-clause-found
returns-else-are_same-clause-found g c = λ mark marked ends.
    let K = g.K.BlockStore in
    let t = c.args.tree.now in
    let root : List ℕ = c.args.self.now.root in
    let rows = c.args.self.now.rows in
    let turn : c.args.level + 1 ≡ suc c.args.level = omega arith in
    let is = subst (λ r. IsOldName (rooted t root) r (path_index t c.args.n r) rows c.in-Some.was) turn c.in-Some.ensures in
    c.look.ensures.found mark marked ends
    (subst (λ i. Rattle.verity_chain.specs.Chain.Names (rooted t root) (was_given K t mark c.args.local.now)
    (suc c.args.level) i c.in-Some.was)
    (sym c.above-index.ensures.value)
    (named_by_ends (rooted t root) (was_given K t mark c.args.local.now) rows (suc c.args.level)
    (path_index t c.args.n (suc c.args.level)) c.in-Some.was (omega (arith, c.requires.level)) ends is.parent is.name))

pub returns-then-are_same-clause-alike : goal.returns-then-are_same-clause-alike
returns-then-are_same-clause-alike g c = λ yes.
    let t = c.args.tree.now in
    let root : List ℕ = c.args.self.now.root in
    let rows = c.args.self.now.rows in
    let turn : c.args.level + 1 ≡ suc c.args.level = omega arith in
    let is = subst (λ r. IsOldName (rooted t root) r (path_index t c.args.n r) rows c.in-Some.was) turn c.in-Some.ensures in
    subst (λ d. IsOldName (rooted t root) (suc c.args.level) (path_index t c.args.n (suc c.args.level)) rows d)
    (same_here c.are_same.result _ c.are_same.ensures c.if-are_same.true) is
