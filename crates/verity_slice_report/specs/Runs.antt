-- Where the hash blocks of a slice stand.
use Rattle.std.specs.Prelude.{ℕ, zero, suc, ◌+◌, ◌-◌, ◌<◌, List, [], ◌∷◌, ◌++◌, nat_lt, if◌then◌else◌}
use Rattle.verity_slice.specs.declared.run.Run.{Run}
use Rattle.verity_chain.specs.Table.{Table, height, hash_place, path_index}

-- the numbers in the hash store of the blocks of a level
abbrev pub level_run : Table → Run → ℕ → Run
level_run t run l = record {
  first = hash_place t l (path_index t run.first (suc l));
  end = hash_place t l (path_index t (run.end - 1) (suc l)) + 1;
}

-- of the first levels
abbrev pub level_runs : Table → Run → ℕ → List Run
level_runs t run zero = []
level_runs t run (suc l) = level_runs t run l ++ level_run t run l ∷ []

-- of all levels
abbrev pub runs_above : Table → Run → List Run
runs_above t run = if nat_lt run.first run.end then level_runs t run (height t) else []
