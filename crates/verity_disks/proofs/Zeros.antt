-- So many zeros.
use Rattle.std.proofs.Common.{◌≡◌, ℕ, length, replicate}
use Rattle.std.proofs.lemmas.List.{length-replicate}

pub zeros_len : (n : ℕ) → length (replicate {A = ℕ} n 0) ≡ n
zeros_len n = length-replicate {A = ℕ} n 0
