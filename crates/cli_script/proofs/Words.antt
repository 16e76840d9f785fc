-- The words of a line, cut off one by one.
use Rattle.std.proofs.Common.{◌≡◌, ℕ, ◌+◌, ◌<◌, ◌==◌, List, [], ◌∷◌, length, arith, Option, Some, None, refl, ◌∙◌, lit<}
use Rattle.std.proofs.lemmas.List.Splits.{length-slice_split}
use Rattle.verity_superblock.specs.Line.{fields_of}
use Rattle.cli_script.specs.Script.{Asked, asked_of}

from_some : (word place digits : List ℕ) (more : List (List ℕ)) → 0 < length more → asked_of (word ∷ place ∷ digits ∷ more) ≡ None
from_some word place digits [] h = absurd (omega arith)
from_some word place digits (m ∷ more) h = refl

-- more than three words are no command
pub too_many : (word place digits rest : List ℕ) → asked_of (word ∷ place ∷ digits ∷ fields_of rest) ≡ None
too_many word place digits rest =
    from_some word place digits (fields_of rest) (omega (arith, length-slice_split (λ b. b == 32) rest))
