use Rattle.std.proofs.Common.{rules, ◌≡◌, ◌<◌, ◌≤◌, ◌+◌, ◌-◌, ℕ, List, [], ◌∷◌, ◌++◌, length, sym, subst, arith}
use Rattle.verity_moved.specs.Moved.{Moving, moved_content}
use Rattle.verity_moved.proofs.MovedLemmas.{moved_within}
use Rattle.verity_moved.proofs.moved.MovedBlockStore.read.Goals as goal

pub overflow_add-self-inside : goal.overflow_add-self-inside
overflow_add-self-inside g c =
    let stores = g.S.BlockStore in
    let inside = c.self.inside in
    let there = moved_within (stores.size inside.store) inside.here inside.there inside.count (stores.content inside.store) c.args.n
    c.if-n-self.false
    (subst (λ m. c.args.n < length (moved_content (stores.size m.store) m (stores.content m.store))) (sym c.self.view_is)
    c.requires.within) in
    omega (arith, there, c.len-len.ensures, c.len-len.type_inv)
