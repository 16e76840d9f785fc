use Rattle.std.proofs.Common.{◌≡◌, ℕ, suc, ◌-◌, ◌*◌, ◌/◌, ◌<◌, ◌≤◌, sym, subst, arith}
use Rattle.std.proofs.lemmas.Nat.{div_below}
use Rattle.std.proofs.Math.Nat.{mul-le-mul_left}
use Rattle.verity_chain.specs.Table.{Table, branching, path_index}
use Rattle.verity_chain.proofs.TableLaws.{path_index-suc, some_branch}
use Rattle.verity_pull.proofs.over.span_end.Goals as goal

pub loop-row-preserved : goal.loop-row-preserved
loop-row-preserved g c =
    let t = c.args.tree.now in
    let inv = c.loop-row.invariant in
    let row : ℕ = c.loop-row.row - 1 in
    let turn : suc (c.loop-row.row - 1) ≡ c.loop-row.row = omega (arith, c.loop-row-test.true) in
    let wide : c.loop-row.end * c.siblings-per_block.result ≤ c.loop-row.end * branching c.args.tree.now =
    mul-le-mul_left c.loop-row.end (omega (arith, c.siblings-per_block.ensures.value)) in
    record {
      row = omega (arith, inv.row);
      within = λ lt. omega (
        arith,
        c.min-end.ensures,
        c.data_blocks-blocks.ensures.value,
        blocks_same t c.table.result.now
            c.table.ensures.value,
      );
      span = λ j low below.
          let short : path_index c.args.tree.now j (c.loop-row.row - 1) < c.loop-row.end * branching c.args.tree.now =
          omega (arith, below, c.min-end.ensures, c.saturating_mul.ensures, wide) in
          inv.span j low
          (subst (λ r. path_index t j r < c.loop-row.end) turn
          (subst (λ i. i < c.loop-row.end) (sym (path_index-suc t j row))
          (div_below (path_index t j row) (branching t) c.loop-row.end (some_branch t c.requires.allowed) short)));
    } where
      blocks_same : (a b : Table) → b ≡ a → b.data_blocks ≡ a.data_blocks
      blocks_same a b e = Rattle.std.proofs.Common.ap (λ (x : Table). x.data_blocks) e
