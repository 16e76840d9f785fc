-- How many blocks a store has of what was opened.
use Rattle.std.proofs.Common.{◌≡◌, ◌≢◌, ℕ, ◌-◌, ◌*◌, ◌/◌, ◌%◌, ◌<◌, ◌↔◌, Bool, true, false, IsTrue}
use Rattle.std.proofs.Common.{Result, Ok, Err, IfOk, refl, sym, ap, ◌∙◌, arith}
use Rattle.std.proofs.Math.Nat.{mod-eq-sub-div-mul, mul-div_cancel}
use Rattle.std.specs.declared.fs.File.{File}
use Rattle.verity_profile.specs.Profile.{is_block_size, IsBlockSize}
use Rattle.verity_profile.proofs.Bounds.{block_size_low}
use Rattle.verity_store.specs.declared.fault.StoreFault.{StoreFault}
use Rattle.verity_store.specs.declared.fault.StoreFault.TheVariants as store
use Rattle.os_host.specs.Lengths.{IsLenOf, IsRagged}
use Rattle.os_files.specs.declared.identity.Identity.{Identity}
use Rattle.os_files.specs.declared.identity.Identity.TheVariants as identity
use Rattle.os_host.specs.declared.paths.Paths.{Ghosts}

-- as many as were asked for, where it has the bytes of as many
pub counted : {S E : Type 0} (r : Result S E) (count : S → ℕ) (size blocks len : ℕ) → 0 < size → len ≡ blocks * size
    → IfOk r (λ s. count s * size ≡ len) → IfOk r (λ s. count s ≡ blocks)
counted (Ok s) count size blocks len some whole is =
    sym (mul-div_cancel (count s) some) ∙ ap (λ k. k / size) (is ∙ whole) ∙ mul-div_cancel blocks some
counted (Err e) count size blocks len some whole is = tt

-- so many blocks are whole
whole_mod : (blocks size : ℕ) → 0 < size → (blocks * size) % size ≡ 0
whole_mod blocks size some = mod-eq-sub-div-mul (blocks * size) size
    ∙ ap (λ (k : ℕ). blocks * size - k * size) (mul-div_cancel blocks some) ∙ omega arith

-- a device's first blocks are whole, and of a file the system says how many bytes it has
pub ragged : {P : Type 0} (facts : Ghosts P) (p : P) (identity : Identity) (file : File) (blocks all size : ℕ) → 0 < size
    → IsRagged facts p identity file (blocks * size) size
    → (len : ℕ) × IsLenOf facts p identity file all len × (len % size ≢ 0)
ragged facts p (identity.File dev ino) file blocks all size some (len, is, more) = (len, is, more)
ragged facts p (identity.Device rdev) file blocks all size some (len, is, more) =
    absurd (more (ap (λ (k : ℕ). k % size) is ∙ whole_mod blocks size some))

decided : (b : Bool) → ¬ (¬ IsTrue b) → IsTrue b
decided true twice = refl
decided false twice = absurd (twice (λ it. cc it))

-- a size that isn't refused is one of the profile
pub sized : {S : Type 0} (size : ℕ) (r : Result S StoreFault) → (r ≡ Err store.BlockSize) ↔ ¬ IsBlockSize size → r ≡ Err store.Ragged
    → 0 < size
sized size r wrong is = omega (arith, block_size_low size (decided (is_block_size size) (λ no. cc (sym is ∙ wrong.1 no))))
