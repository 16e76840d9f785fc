use Rattle.std.proofs.Common.{ℕ, ◌<◌, ◌≢◌}
use Rattle.verity_chain.specs.Notes.{note_at}
use Rattle.verity_chain.proofs.notes.find.Given as goal

abbrev pub invariant-loop-c : goal.invariant-loop-c
invariant-loop-c g l = record { none : (d : ℕ) → d < l.c → (note_at l.notes d).number ≢ l.number }
