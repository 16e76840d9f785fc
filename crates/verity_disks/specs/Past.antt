-- Since the present moment there is no other.
use Rattle.std.proofs.Common.{◌⊎◌, inl, inr, ℕ, ◌<◌, List, [], ◌∷◌, length, arith}
use Rattle.verity_disks.specs.Disks.{Contents}
use Rattle.verity_disks.specs.Tearing.{Three, MightHaveLeft}

-- a moment that is kept is before the next one
kept_before : (moments : List Three) (t : ℕ) (c : Contents) → MightHaveLeft t moments c → t < length moments
kept_before [] t c left = elim left [ ]
kept_before (three ∷ earlier) t c (inl here) = omega (arith, here.0)
kept_before (three ∷ earlier) t c (inr there) = omega (arith, kept_before earlier t c there)

pub no_later : (moments : List Three) (P : Type 0) (c : Contents) → P ⊎ MightHaveLeft (length moments) moments c → P
no_later moments P c (inl now) = now
no_later moments P c (inr past) = absurd (omega (arith, kept_before moments (length moments) c past))
