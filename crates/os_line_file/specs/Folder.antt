-- What calls do to FILE and FILE.next, and what a crash may leave of both.
use Rattle.std.specs.Prelude.{◌≡◌, ◌⊎◌, ℕ, ◌≤◌, List, Option, None}

-- the texts of FILE and of FILE.next; none where there is no file
pub record Texts : Type 0 where
  pub line : Option (List ℕ)
  pub next : Option (List ℕ)

-- another FILE.next, or none
abbrev pub with_next : Option (List ℕ) → Texts → Texts
with_next next texts = record { line = texts.line; next = next }

-- FILE.next has taken FILE's place
abbrev pub replaced : Texts → Texts
replaced texts = record { line = texts.next; next = None }

-- while FILE.next is made anew: FILE is one that a crash might have left before, and FILE.next is there in any way
abbrev pub KeepsLine : (Texts → Type 0) → Texts → Type 0
KeepsLine may_leave c = (d : Texts) × may_leave d × (c.line ≡ d.line)

-- while FILE.next takes FILE's place: both are as they were, or FILE is FILE.next, which may stand at its old place too
abbrev pub MayReplace : Texts → Texts → Type 0
MayReplace seen c = (c ≡ seen) ⊎ ((c.line ≡ seen.next) × ((c.next ≡ seen.next) ⊎ (c.next ≡ None)))

-- while FILE.next is removed: FILE is as it was, and FILE.next too, or it is gone
abbrev pub MayRemove : Texts → Texts → Type 0
MayRemove old c = (c.line ≡ old.line) × ((c.next ≡ old.next) ⊎ (c.next ≡ None))

-- a crash leaves what is seen
abbrev pub IsDurable : Texts → (Texts → Type 0) → Type 0
IsDurable seen may_leave = (c : Texts) → may_leave c → c ≡ seen

-- Time goes on: a crash since t might have left what it might have left before, or what it may leave in this call.
pub record Elapses (before now : ℕ) (past since : ℕ → Texts → Type 0) (in_call : Texts → Type 0) : Type 0 where
  pub later : before ≤ now
  pub nothing_else : (t : ℕ) (c : Texts) → t ≤ before → since t c → past t c ⊎ in_call c
  pub keeps : (t : ℕ) (c : Texts) → t ≤ before → past t c → since t c

-- A crash at any moment since old leaves texts that have P.
pub record LeavesOnly {F : Type 0} (moment : F → ℕ) (left_since : F → ℕ → Texts → Type 0) (old new : F)
    (P : Texts → Type 0) : Type 0 where
  pub later : moment old ≤ moment new
  pub each : (c : Texts) → left_since new (moment old) c → P c
  -- for a run that began earlier
  pub before : (t : ℕ) (c : Texts) → t ≤ moment old → left_since new t c → left_since old t c ⊎ P c
