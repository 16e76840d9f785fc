use Rattle.std.proofs.Common.{◌≡◌, ℕ, List, ◌++◌, ◌∷◌, Option, None, Some, Bor}
use Rattle.std.specs.Prelude.{IfSome, MatchOption}
use Rattle.std.proofs.lemmas.Str.Pattern.{split_parts}
use Rattle.cli_arguments.proofs.slicing.around.Goals as goal

-- a text that was cut at a mark
parts_of : (N : Type 0) (B : List ℕ → Type 0) (c : ℕ) (text : List ℕ) (r : Option (Bor (List ℕ) × Bor (List ℕ)))
    → MatchOption r N (λ x. (text ≡ x.0.now ++ (c ∷ x.1.now)) × B x.0.now) → IfSome r (λ x. text ≡ x.0.now ++ (c ∷ x.1.now))
parts_of N B c text None given = tt
parts_of N B c text (Some x) given = given.0

pub returns : goal.returns
returns c = parts_of _ _ _ _ _ (split_parts c.args.mark c.args.text.now c.split_once.result c.split_once.ensures.cases c.requires)
