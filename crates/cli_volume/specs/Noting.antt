-- What a notice was told of where a commit is answered.
use Rattle.std.specs.Prelude.{◌≡◌, ◌⊎◌, Option, None, Some, Result, Ok, Err, ⊤}
use Rattle.verity_edit.specs.declared.command.Committed.{Committed}
use Rattle.verity_superblock.specs.Superblock.{Volume}
use Rattle.verity_commit.specs.declared.notice.Notice as notice

-- It was told of the commit that is answered; else of none, or of one with which it didn't let go on, or of one that failed later.
abbrev pub IsNoted : {N F : Type 0} → notice.Ghosts N F → (old new : N) → Volume → Result Committed F → Type 0
IsNoted facts old new volume (Ok committed) = facts.noted old new volume committed
IsNoted facts old new volume (Err e) = (new ≡ old) ⊎ (((fault : _) × facts.declined old new fault)
    ⊎ ((other : Volume) × (committed : Committed) × facts.noted old new other committed))

-- it was told of a commit, which went on
abbrev pub WasNoted : {N F : Type 0} → notice.Ghosts N F → (old new : N) → Type 0
WasNoted facts old new = (volume : Volume) × (committed : Committed) × facts.noted old new volume committed

-- the keeper of the devices that was there is there as it was
abbrev pub HasKeeper : {K : Type 0} → (old new : Option K) → Type 0
HasKeeper None new = ⊤
HasKeeper (Some keeper) new = new ≡ Some keeper
