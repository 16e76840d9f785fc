use Rattle.std.proofs.Common.{◌≡◌, ℕ, ◌+◌, ◌*◌, ◌/◌, ◌<◌, ◌≤◌, arith}
use Rattle.std.proofs.lemmas.Nat.{div-add-mod', div_below, le-div, mod_below}
use Rattle.verity_slice.specs.Slices.{cut}
use Rattle.verity_slice.proofs.laws.cuts_evenly.Goals as goal

-- what a number leaves over is less than the divisor
parts : (n d : ℕ) → 0 < d → (n / d * d ≤ n) × (n < (n / d + 1) * d)
parts n d some =
    let whole = div-add-mod' n d in
    let left = mod_below n d some in
    let low : n / d * d ≤ n = omega (arith, whole) in
    let high : n < (n / d + 1) * d = omega (arith, whole, left) in
    (low, high)

pub returns : goal.returns
returns c len count some =
    record {
      first = (let e : 0 / count ≡ 0 = (let b = div_below 0 count 1 some (omega (arith, some)) in omega (arith, b)) in
          (let z : len * 0 / count ≡ 0 = (let b = div_below (len * 0) count 1 some (omega (arith, some)) in omega (arith, b)) in z));
      last =
          let p = parts (len * count) count some in
          let low : len ≤ len * count / count = le-div len (len * count) count some (omega arith) in
          let high : len * count / count < len + 1 = div_below (len * count) count (len + 1) some (omega (arith, some)) in
          omega (arith, low, high);
      least = λ i.
          let a = parts (len * i) count some in
          let b = parts len count some in
          le-div (cut len count i + len / count) (len * (i + 1)) count some (omega (arith, a.0, b.0));
      most = λ i.
          let a = parts (len * i) count some in
          let b = parts len count some in
          let high : len * (i + 1) / count < cut len count i + len / count + 2 =
          div_below (len * (i + 1)) count (cut len count i + len / count + 2) some (omega (arith, a.1, b.1)) in
          omega (arith, high);
    }
