-- When which fault is answered.
use Rattle.std.specs.Prelude.{ℕ, List}
use Rattle.verity_profile.specs.Profile.{IsBlockCount}
use Rattle.verity_slice.specs.Slices.{Covers}
use Rattle.verity_slice.specs.declared.run.Run.{Run}
use Rattle.verity_build.specs.Faults.{Explains}
use Rattle.verity_slices.specs.declared.fault.JoinFault.{JoinFault}
use Rattle.verity_slices.specs.declared.fault.JoinFault.TheVariants.{Uncovered, Build}

-- J1 where the count is one of a volume and the runs don't cover so many blocks; else the fault of a build
abbrev pub ExplainsJoin : List Run → ℕ → ℕ → ℕ → ℕ → Type 0 → Type 0 → JoinFault → Type 0
ExplainsJoin runs leaves blocks offset hash_size data_failed hash_failed Uncovered = IsBlockCount blocks × ¬ (Covers runs leaves)
ExplainsJoin runs leaves blocks offset hash_size data_failed hash_failed (Build fault) =
    Explains blocks offset hash_size data_failed hash_failed fault
