-- What a step of a way down did.
use Rattle.std.specs.Prelude.{ℕ}
use Rattle.verity_pull.specs.declared.over.Step.{Step}
use Rattle.verity_pull.specs.declared.over.Step.TheVariants as step

-- how many hash blocks it fetched
abbrev pub fetched_by : Step → ℕ
fetched_by step.Held = 0
fetched_by step.Fetched = 1
fetched_by (step.Kept next) = 0

-- this is so where the way goes on down
abbrev pub IfDown : Step → Type 0 → Type 0
IfDown step.Held P = P
IfDown step.Fetched P = P
IfDown (step.Kept next) P = Unit {0}

-- this is so of the next data block, where what is below is kept
abbrev pub IfKept : Step → (ℕ → Type 0) → Type 0
IfKept step.Held P = Unit {0}
IfKept step.Fetched P = Unit {0}
IfKept (step.Kept next) P = P next
