-- A store that gives what it was told to give.
use Rattle.std.specs.Prelude.{◌≡◌, ℕ, ◌+◌, Option, None, Some, List, [], ◌∷◌, ◌++◌, length}
use Rattle.test_stores.specs.declared.answer.Answer.{Answer}
use Rattle.test_stores.specs.declared.answer.Answer.TheVariants.{Block, Fault}

-- the block of an answer, if it isn't a fault
abbrev pub block_of : {A : Type 0} → Answer A → Option (List ℕ)
block_of (Block block) = Some block
block_of Fault = None

-- how many bytes an answer's block has; at a fault, as many as it should
abbrev pub answer_len : {A : Type 0} → ℕ → Answer A → ℕ
answer_len size (Block block) = length block
answer_len size Fault = size

-- an answer's block, if it has one, has the size
abbrev pub IsSized : {A : Type 0} → ℕ → Answer A → Type 0
IsSized size answer = answer_len size answer ≡ size

-- a script's store: its size and length, the blocks of the answers that are left (None for a fault), the next one first,
-- what was given for which numbers, in order, and its three counts
pub record Script : Type 0 where
  pub size : ℕ
  pub blocks : ℕ
  pub answers : List (Option (List ℕ))
  pub given : List (ℕ × List ℕ)
  pub reads : ℕ
  pub failures : ℕ
  pub changes : ℕ

-- the block that the next read gives, if it gives one
abbrev pub next_block : List (Option (List ℕ)) → Option (List ℕ)
next_block [] = None
next_block (answer ∷ answers) = answer

-- the answers that the next read leaves
abbrev pub later_answers : List (Option (List ℕ)) → List (Option (List ℕ))
later_answers [] = []
later_answers (answer ∷ answers) = answers

-- what a read of block `n` leaves: where it gives a block, that block with the number is kept
abbrev pub after_read : ℕ → Option (List ℕ) → Script → Script
after_read n None s = record s { answers = later_answers s.answers; reads = s.reads + 1; failures = s.failures + 1 }
after_read n (Some block) s = record s { answers = later_answers s.answers; reads = s.reads + 1; given = s.given ++ (n, block) ∷ [] }

-- what a call that only fails leaves
abbrev pub after_fault : Script → Script
after_fault s = record s { failures = s.failures + 1 }

-- what a change leaves, which is refused
abbrev pub after_change : Script → Script
after_change s = record s { failures = s.failures + 1; changes = s.changes + 1 }
