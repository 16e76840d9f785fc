-- The fields of a stage.
use Rattle.std.specs.Prelude.{◌≤◌, ◌^◌}
use Rattle.verity_profile.specs.Profile.{IsBlockSize}
use Rattle.verity_stage.specs.declared.stage.Stage.TheInside.{Inside}
use Rattle.verity_stage.specs.Stage.{Stage, IsStage}

abbrev pub stage_of : {A : Type 0} → Inside A → Stage
stage_of s = record { size = s.size; least = s.least; blocks = s.blocks; written = s.written.entries }

-- what every stage keeps
pub record KeepsStage {A : Type 0} (s : Inside A) : Type 0 where
  pub is_stage : IsStage (stage_of s)
  pub profile : IsBlockSize s.size
  pub few : s.blocks ≤ 2 ^ 41
