-- Chains of table lines: the new line of one commit is the old line of the next.
use Rattle.std.specs.Prelude.{ℕ, ◌⊎◌, ⊤, List, [], ◌∷◌}
use Rattle.verity_store.specs.Given.{GaveSince}
use Rattle.verity_chain.specs.Table.{Table}
use Rattle.verity_chain.specs.Chain.{Given, given_by}
use Rattle.verity_chain.specs.Right.{Fits, Clash}
use Rattle.verity_pending.specs.Draft.{Draft, edits_of}

-- a commit under a line: its edits, the line that it answered, the log of what its hash store ever gave, and how much of the log is
-- from before the commit
pub record LineStep : Type 0 where
  pub draft : Draft
  pub next : Table
  pub log : List (ℕ × List ℕ)
  pub mark : ℕ

-- what its hash store gave in it at the places of the tree
abbrev pub step_given : Table → LineStep → Given
step_given t s = given_by t (λ n block. ⊥) (GaveSince s.log s.mark)

-- an image with the edits of these commits made
abbrev pub image_after : List LineStep → List (List ℕ) → List (List ℕ)
image_after [] image = image
image_after (s ∷ steps) image = image_after steps (edits_of image s.draft).working

-- the line of the last of them
abbrev pub line_after : List LineStep → Table → Table
line_after [] t = t
line_after (s ∷ steps) t = line_after steps s.next

-- each of them is right: the edited image fits the line that was answered, for every image that fits the one before, or there is a clash
abbrev pub AreRightLines : List LineStep → Table → Type 0
AreRightLines [] t = ⊤
AreRightLines (s ∷ steps) t = ((image : List (List ℕ)) → Fits t image
    → Fits s.next (edits_of image s.draft).working ⊎ Clash t (step_given t s) image) × AreRightLines steps s.next

-- in one of them there is a clash
abbrev pub HasClash : List LineStep → Table → List (List ℕ) → Type 0
HasClash [] t image = ⊥
HasClash (s ∷ steps) t image = Clash t (step_given t s) image ⊎ HasClash steps s.next (edits_of image s.draft).working

-- the last line is that of the image with all edits made, or there is a clash
abbrev pub KeepsLines : List LineStep → Table → List (List ℕ) → Type 0
KeepsLines steps t image = Fits (line_after steps t) (image_after steps image) ⊎ HasClash steps t image
