use Rattle.std.proofs.Common.{ℕ, ◌+◌, ◌≡◌, List}
use Rattle.verity_report.specs.Stores.{listed_in}
use Rattle.verity_report.specs.Descent.{IsRun, IsSoFar}
use Rattle.verity_report.proofs.siblings.pass_over.Given as goal

abbrev pub invariant-each : goal.invariant-each
invariant-each g l =
    let t = l.tree in
    record {
      run : IsRun l.j l.fn.rows l.rows;
      found : (data_gave hash_gave : List (ℕ × List ℕ)) (base now : ℕ)
          → IsSoFar t (listed_in t data_gave hash_gave) l.fn.rows l.fn.unchecked base now
          → IsSoFar t (listed_in t data_gave hash_gave) l.rows l.unchecked base now;
      counted : l.unchecked ≡ l.fn.unchecked + l.j;
    }
