use Rattle.std.proofs.Common.{ℕ, ◌+◌, ◌<◌, ◌≡◌, List, [], inl, inr, length, get_or, set, sym, subst, arith}
use Rattle.std.proofs.lemmas.Bool.{cases_lt}
use Rattle.std.proofs.lemmas.List.{get_or-set_same, get_or-set_other}
use Rattle.verity_pull.specs.Walk.{IsName}
use Rattle.verity_pull.proofs.row.name_each.Goals as goal

pub each-preserved : goal.each-preserved
each-preserved g c = λ k upto.
    let t = c.args.tree.now in
    let rows = c.args.rows.now in
    let n : ℕ = c.args.n in
    let j : ℕ = c.each.j in
    let names : List (List ℕ) = c.each.names in
    let name : List ℕ = c.name_of.result in
    let there : c.each.j < length c.each.names = omega (arith, c.each-test.true, c.each.auto.names) in
    elim (cases_lt k c.each.j) [
      | inl lt ↦
          subst (λ d. IsName t 0 (n + k) rows d) (sym (get_or-set_other names j k name [] (λ e. omega (arith, e, lt))))
          (c.each.invariant k lt)
      | inr ge ↦
          let is : c.each.j ≡ k = omega (arith, ge, upto) in
          subst (λ m. IsName t 0 (n + m) rows (get_or (set names j name) m [])) is
          (subst (λ d. IsName t 0 (n + j) rows d) (sym (get_or-set_same names j name [] there)) c.name_of.ensures)
    ]
