-- Blocks in groups.
use Rattle.std.proofs.Common.{◌≡◌, ℕ, ◌+◌, ◌-◌, ◌*◌, ◌<◌, ◌≤◌, List, ◌∙◌, take, drop, arith, ap}
use Rattle.std.proofs.lemmas.List.{drop-take, drop-drop, take-take}
use Rattle.std.proofs.Math.Nat.{mul-le-mul_left}
use Rattle.std.specs.Fork.{slice_chunk}

-- a block of a group
pub block_in_group : (blocks : List ℕ) (size at j n k : ℕ) → j < n → at ≡ k * size →
    slice_chunk (take (n * size) (drop at blocks)) size j ≡ slice_chunk blocks size (k + j)
block_in_group blocks size at j n k lt e =
    let next : j + 1 ≤ n = omega arith in
    let fits : size * (j + 1) ≤ size * n = mul-le-mul_left size next in
    let split : n * size ≡ j * size + (n * size - j * size) = omega (arith, fits) in
    let place : at + j * size ≡ (k + j) * size = omega arith in
    ap (λ (m : ℕ). take size (drop (j * size) (take m (drop at blocks)))) split
    ∙ ap (take size) (drop-take (j * size) (n * size - j * size) (drop at blocks))
    ∙ take-take size (n * size - j * size) (drop (j * size) (drop at blocks)) (omega (arith, fits))
    ∙ ap (take size) (drop-drop (j * size) at blocks)
    ∙ ap (λ (m : ℕ). take size (drop m blocks)) place
