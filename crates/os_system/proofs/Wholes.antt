-- Whole numbers of blocks, of what is here and at servers.
use Rattle.std.proofs.Common.{◌≡◌, ℕ, ◌-◌, ◌*◌, ◌/◌, ◌%◌, ◌<◌, Result, Ok, Err, IfOk, refl, sym, ap, subst, ◌∙◌, arith}
use Rattle.std.proofs.Math.Nat.{mod-eq-sub-div-mul, mul-div_cancel}
use Rattle.std.specs.declared.fs.File.{File}
use Rattle.verity_store.specs.declared.raw_file.RawFile.{Ghosts}
use Rattle.os_files.specs.Parts.{HasAsked}
use Rattle.os_files.specs.declared.part.Part.{Part}
use Rattle.os_files.specs.declared.part.Part.TheVariants.{First}
use Rattle.os_files.specs.declared.volume_file.VolumeFile.{VolumeFile}
use Rattle.os_host.proofs.Counts.{counted}
use Rattle.os_system.specs.Located.{HasBlocks, LiesThere}
use Rattle.os_system.specs.declared.located.Located.{Located}
use Rattle.os_system.specs.declared.located.Located.TheVariants.{There}
use Rattle.os_system.specs.declared.located.Remote.{Remote}

-- so many blocks are whole
pub whole_mod : (blocks size : ℕ) → 0 < size → (blocks * size) % size ≡ 0
whole_mod blocks size some = mod-eq-sub-div-mul (blocks * size) size
    ∙ ap (λ (k : ℕ). blocks * size - k * size) (mul-div_cancel blocks some) ∙ omega arith

-- the bytes of as many blocks as were asked for are of no other number of blocks
pub asked : (count size blocks : ℕ) → 0 < size → count * size ≡ blocks * size → HasAsked (First count) blocks
asked count size blocks some is = sym (mul-div_cancel blocks some) ∙ ap (λ (k : ℕ). k / size) (sym is) ∙ mul-div_cancel count some

-- a store of so many bytes at a server has the blocks of its part
pub lies_there : {F S E : Type 0} {g : Ghosts File} (r : Result S E) (file : S → Located (VolumeFile File g) F) (count : S → ℕ)
    (remote : Remote F) (part : Part) (size blocks : ℕ) → 0 < size → HasBlocks part (remote.len / size) blocks
    → IfOk r (λ s. file s ≡ There remote.file) → IfOk r (λ s. count s * size ≡ blocks * size)
    → IfOk r (λ s. LiesThere remote part size (count s) (file s))
lies_there {F = F} {E = E} {g = g} (Ok s) file count remote part size blocks some has is whole =
    subst (λ (f : Located (VolumeFile File g) F). LiesThere remote part size (count s) f) (sym is) (
      refl,
      subst (λ (n : ℕ). HasBlocks part (remote.len / size) n)
          (sym (counted {E = E} (Ok s) count size blocks (blocks * size) some refl whole)) has,
    )
lies_there (Err e) file count remote part size blocks some has is whole = tt
