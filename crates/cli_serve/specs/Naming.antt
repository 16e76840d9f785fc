-- Which bad places were named.
use Rattle.std.specs.Prelude.{Bool, List}
use Rattle.cli_serve.specs.declared.bad.Bad.{Bad}

-- these were, and whether it was printed that no more are
pub record Naming : Type 0 where
  pub places : List Bad
  pub is_over : Bool
