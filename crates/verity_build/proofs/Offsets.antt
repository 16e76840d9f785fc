-- What holds of the offset 0.
use Rattle.std.proofs.Common.{◌≡◌, ◌≢◌, ◌↔◌, ℕ, [], List, ap, rules, Result, Ok, Err, IfErr, IsErrOf}
use Rattle.verity_profile.specs.Profile.{IsBlockCount}
use Rattle.verity_superblock.specs.Image.{CanBegin, start_behind}
use Rattle.verity_build.specs.Parameters.{front}
use Rattle.verity_build.specs.declared.fault.BuildFault.{BuildFault}
use Rattle.verity_build.specs.declared.fault.BuildFault.TheVariants.{Offset}

pub no_front : (size : ℕ) (content : List (List ℕ)) → front 0 size content ≡ []
no_front size content = search rules

pub first_start : (size : ℕ) → start_behind 0 size ≡ 1
first_start size = search rules

pub can_begin : (size : ℕ) → CanBegin 0 size
can_begin size = search rules

-- U4 is never told
pub no_bad_offset : {T : Type 0} (blocks size : ℕ) (r : Result T BuildFault)
    → IsErrOf r Offset ↔ (IsBlockCount blocks × ¬ (CanBegin 0 size)) → IfErr r (λ fault. fault ≢ Offset)
no_bad_offset blocks size (Ok x) told = tt
no_bad_offset blocks size (Err fault) told = λ is. absurd ((told.0 (ap (λ f. Err f) is)).1 (can_begin size))
