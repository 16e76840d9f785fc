use Rattle.std.proofs.Common.{◌-◌, ◌≡◌, ℕ, ◌^◌, ◌<◌, ◌≤◌}
use Rattle.verity_geometry.proofs.geometry.count_levels.Given as goal

-- reach is the power that the levels so far make, and no smaller one reaches the count
pub record IsCounted (k n reach levels : ℕ) : Type 0 where
  pub power : reach ≡ k ^ levels
  pub least : (l : ℕ) → l < levels → k ^ l < n
  pub few : levels ≤ 40

abbrev pub invariant-loop-reach : goal.invariant-loop-reach
invariant-loop-reach l = IsCounted l.per_block l.blocks l.reach l.levels

abbrev pub decreases-loop-reach : goal.decreases-loop-reach
decreases-loop-reach l = l.blocks - l.reach
