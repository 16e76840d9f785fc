-- A chain of table lines.
use Rattle.std.proofs.Common.{ℕ, List, [], ◌∷◌, ⊎_elim, inl, inr}
use Rattle.verity_chain.specs.Table.{Table}
use Rattle.verity_chain.specs.Right.{Fits}
use Rattle.verity_pending.specs.Draft.{edits_of}
use Rattle.verity_trusted.specs.Lines.{LineStep, AreRightLines, KeepsLines}

pub lines_kept : (steps : List LineStep) (t : Table) (image : List (List ℕ)) → AreRightLines steps t → Fits t image
    → KeepsLines steps t image
lines_kept [] t image right fits = inl fits
lines_kept (s ∷ steps) t image right fits =
    ⊎_elim
    (λ next. ⊎_elim inl (λ clash. inr (inr clash)) (lines_kept steps s.next (edits_of image s.draft).working right.1 next))
    (λ clash. inr (inl clash))
    (right.0 image fits)
