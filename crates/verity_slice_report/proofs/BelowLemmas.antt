-- How many places of a slice lie below one.
use Rattle.std.proofs.Common.{ℕ, zero, suc, ◌+◌, ◌-◌, ◌*◌, ◌/◌, ◌^◌, ◌<◌, ◌≤◌, ◌≡◌, min, max, refl, sym, ap, ◌∙◌, subst, arith}
use Rattle.std.proofs.Math.Nat.{le-div_iff_mul-le, max-le, mul-le-mul_right}
use Rattle.verity_profile.proofs.Bounds.{block_count_high}
use Rattle.verity_slice.specs.declared.run.Run.{Run}
use Rattle.verity_chain.specs.Table.{Table, IsTable, branching, path_index}
use Rattle.verity_chain.proofs.TableLaws.{path_index-suc, some_branch}
use Rattle.verity_slice_report.specs.Sliced.{children, below}
use Rattle.verity_slice_report.proofs.PlaceLemmas.{path_mono, path_low}

-- the children of a place up to the one above a data block begin no later than the place below that one
pub first_low : (t : Table) → IsTable t → (n r first : ℕ) → first ≤ path_index t n (suc r) → first * branching t ≤ path_index t n r
first_low t ok n r first le =
    (le-div_iff_mul-le {k = branching t} {x = first} {y = path_index t n r} (some_branch t ok)).0
    (omega (arith, le, path_index-suc t n r))

pub count_few : (t : Table) → IsTable t → t.data_blocks ≤ 2 ^ 40
count_few t ok = block_count_high t.data_blocks ok.blocks

pub children_first : (t : Table) → IsTable t → (run : Run) (r : ℕ) (parents : Run) → run.first < run.end
    → parents.first ≤ path_index t (run.end - 1) (suc r) → (children t run r parents).first ≤ path_index t (run.end - 1) r
children_first t ok run r parents some le =
    max-le (path_mono t ok run.first (run.end - 1) r (omega (arith, some)))
    (first_low t ok (run.end - 1) r parents.first le)
