-- The present moment is one of those since an earlier one, and since itself there is no other.
use Rattle.std.proofs.Common.{◌⊎◌, inl, inr, ℕ, ◌<◌, List, [], ◌∷◌, length, arith}
use Rattle.os_line_file.specs.Folder.{Texts}
use Rattle.os_line_file.specs.Log.{Kept, Log, Leaves, LeftSince, MightHaveLeft}

pub now_left : (log : Log) (t : ℕ) (c : Texts) → Leaves log.kept c → LeftSince log t c
now_left log t c now = inl now

-- a moment that is kept is before the next one
kept_before : (past : List Kept) (t : ℕ) (c : Texts) → MightHaveLeft t past c → t < length past
kept_before [] t c left = elim left [ ]
kept_before (kept ∷ earlier) t c (inl here) = omega (arith, here.0)
kept_before (kept ∷ earlier) t c (inr there) = omega (arith, kept_before earlier t c there)

only : (past : List Kept) (P : Type 0) (c : Texts) → P ⊎ MightHaveLeft (length past) past c → P
only past P c (inl now) = now
only past P c (inr left) = absurd (omega (arith, kept_before past (length past) c left))

pub no_later : (log : Log) (c : Texts) → LeftSince log (length log.past) c → Leaves log.kept c
no_later log c left = only log.past (Leaves log.kept c) c left
