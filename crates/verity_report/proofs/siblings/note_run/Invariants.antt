use Rattle.std.proofs.Common.{ℕ, ◌+◌, ◌<◌, ◌≡◌, List, [], length, get_or}
use Rattle.std.specs.Prelude.{Contains}
use Rattle.verity_chain.specs.Table.{hashing_of}
use Rattle.verity_report.specs.Stores.{listed_in}
use Rattle.verity_report.specs.Descent.{IsRun, IsSoFar}
use Rattle.verity_report.proofs.siblings.note_run.Given as goal

abbrev pub invariant-each : goal.invariant-each
invariant-each g l =
    let t = l.tree in
    record {
      run : IsRun l.j l.fn.rows l.rows;
      found : (data_gave hash_gave : List (ℕ × List ℕ)) (blocks : ℕ → List ℕ)
          → ((j : ℕ) → j < length l.digests → (get_or l.digests j [] ≡ (hashing_of t).digest (blocks j))
          × Contains data_gave (l.n + j, blocks j))
          → (base now : ℕ) → IsSoFar t (listed_in t data_gave hash_gave) l.fn.rows l.fn.unchecked base now
          → IsSoFar t (listed_in t data_gave hash_gave) l.rows l.unchecked base now;
      counted : l.unchecked ≡ l.fn.unchecked;
    }
