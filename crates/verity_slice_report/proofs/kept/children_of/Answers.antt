use Rattle.std.proofs.Common.{◌≡◌, ◌+◌, ◌-◌, ◌*◌, ◌^◌, ◌≤◌, ℕ, min, max, ap, arith}
use Rattle.std.proofs.lemmas.Nat.{div-add-mod'}
use Rattle.verity_chain.specs.Table.{branching, path_index}
use Rattle.verity_slice_report.proofs.PlaceLemmas.{path_low}
use Rattle.verity_slice_report.proofs.BelowLemmas.{first_low, children_first, count_few}
use Rattle.verity_slice_report.proofs.kept.children_of.Goals as goal

pub overflow_mul-parents : goal.overflow_mul-parents
overflow_mul-parents c =
    let t = c.args.tree.now in
    let ok = c.table-table.ensures.allowed in
    let k : c.siblings-per_block.result ≡ branching t = omega (arith, c.siblings-per_block.ensures.value, div-add-mod' 0 (branching t)) in
    omega (
      arith,
      first_low t ok (c.args.run.end - 1) c.args.row c.args.parents.first c.requires.first,
      ap (λ m. c.args.parents.first * m) k,
      c.path_index-last.ensures,
      c.path_index-last.type_inv,
    )

pub overflow_add-last : goal.overflow_add-last
overflow_add-last c =
    let t = c.args.tree.now in
    let ok = c.table-table.ensures.allowed in
    omega (
      arith,
      c.path_index-last.ensures,
      path_low t ok (c.args.run.end - 1) c.args.row,
      c.requires.within,
      count_few t ok,
    )

pub returns-clause-value : goal.returns-clause-value
returns-clause-value c =
    let t = c.args.tree.now in
    let run = c.args.run in
    let parents = c.args.parents in
    let k : c.siblings-per_block.result ≡ branching t = omega (arith, c.siblings-per_block.ensures.value, div-add-mod' 0 (branching t)) in
    let first : c.max.result ≡ max (path_index t run.first c.args.row) (parents.first * branching t) =
    omega (arith, c.max.ensures, c.path_index-first.ensures, ap (λ m. parents.first * m) k) in
    let end : c.min.result ≡ min (path_index t (run.end - 1) c.args.row + 1) (parents.end * branching t) =
    omega (
      arith,
      c.min.ensures,
      c.saturating_mul.ensures,
      c.path_index-last.ensures,
      c.path_index-last.type_inv,
      ap (λ m. parents.end * m) k,
      path_low t c.table-table.ensures.allowed (run.end - 1) c.args.row,
      c.requires.within,
      count_few t c.table-table.ensures.allowed,
    ) in
    λ i. record { first = first i; end = end i }

pub returns-clause-first : goal.returns-clause-first
returns-clause-first c =
    let t = c.args.tree.now in
    let ok = c.table-table.ensures.allowed in
    let k : c.siblings-per_block.result ≡ branching t = omega (arith, c.siblings-per_block.ensures.value, div-add-mod' 0 (branching t)) in
    omega (
      arith,
      c.max.ensures,
      c.path_index-first.ensures,
      ap (λ m. c.args.parents.first * m) k,
      children_first t ok c.args.run c.args.row c.args.parents c.requires.some c.requires.first,
    )

pub returns-clause-few : goal.returns-clause-few
returns-clause-few c =
    let t = c.args.tree.now in
    let ok = c.table-table.ensures.allowed in
    omega (
      arith,
      c.min.ensures,
      c.path_index-last.ensures,
      path_low t ok (c.args.run.end - 1) c.args.row,
      c.requires.within,
      c.requires.some,
      count_few t ok,
    )
