-- A script's store as contracts see it.
use Rattle.std.specs.Prelude.{◌≡◌, ◌+◌, ◌≤◌, All, length, map, reverse, vec_len, vec_capacity}
use Rattle.verity_profile.specs.Profile.{IsBlockSize}
use Rattle.test_stores.specs.Script.{Script, block_of, IsSized}
use Rattle.test_stores.specs.declared.script.ScriptStore.TheInside.{Inside}

abbrev pub script_of : {A : Type 0} → Inside A → Script
script_of s =
    record {
      size = s.size;
      blocks = s.blocks;
      answers = map block_of (reverse s.left.items);
      given = s.given.items;
      reads = s.read_count.steps;
      failures = s.failed.steps;
      changes = s.changed.steps;
    }

-- the size is one of the profile, all blocks have it, and there is room to keep all that is left
pub record IsSound {A : Type 0} (s : Inside A) : Type 0 where
  pub profile : IsBlockSize s.size
  pub room : vec_len s.left + vec_len s.given ≤ vec_capacity s.given
  pub left_sized : All (IsSized s.size) s.left.items
  pub given_sized : All (λ one. length one.1 ≡ s.size) s.given.items
