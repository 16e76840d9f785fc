-- The steps of a folder that tears: what is on the device, what was done since, and how it stood at each moment before.
use Rattle.std.specs.Prelude.{◌≡◌, ◌⊎◌, ℕ, ◌≤◌, List, [], ◌∷◌, length, None, Some}
use Rattle.os_line_file.specs.Folder.{Texts, with_next, replaced, MayReplace, MayRemove}

-- FILE.next was made anew with this text, took FILE's place, or was removed
pub data Step : Type 0 where
  Wrote : List ℕ → Step
  Replaced : Step
  Removed : Step

abbrev pub applied : Step → Texts → Texts
applied (Wrote text) texts = with_next (Some text) texts
applied Replaced texts = replaced texts
applied Removed texts = with_next None texts

-- both files after a step that a crash cuts short
abbrev pub InPart : Step → Texts → Texts → Type 0
InPart (Wrote text) old c = c.line ≡ old.line
InPart Replaced old c = MayReplace old c
InPart Removed old c = MayRemove old c

-- what is on the device, and what was done since, the last step first
pub record Kept : Type 0 where
  pub durable : Texts
  pub steps : List Step

abbrev pub after : Texts → List Step → Texts
after durable [] = durable
after durable (step ∷ earlier) = applied step (after durable earlier)

-- each step in part
abbrev pub InParts : Texts → List Step → Texts → Type 0
InParts durable [] c = c ≡ durable
InParts durable (step ∷ earlier) c = (mid : Texts) × InParts durable earlier mid × InPart step mid c

-- what is seen: every step is done
abbrev pub seen_of : Kept → Texts
seen_of kept = after kept.durable kept.steps

-- what a crash may leave
abbrev pub Leaves : Kept → Texts → Type 0
Leaves kept c = InParts kept.durable kept.steps c

-- what a crash might have left at one of these moments, of which the last stands first, from number t on
abbrev pub MightHaveLeft : ℕ → List Kept → Texts → Type 0
MightHaveLeft t [] c = ⊥
MightHaveLeft t (kept ∷ earlier) c = ((t ≤ length earlier) × Leaves kept c) ⊎ MightHaveLeft t earlier c

-- a folder, and how it stood at each moment before, the last one first
pub record Log : Type 0 where
  pub kept : Kept
  pub past : List Kept

-- the same, at the next moment
abbrev pub next_moment : Kept → Log → Log
next_moment kept log = record { kept = kept; past = log.kept ∷ log.past }

-- a step more
abbrev pub stepped : Step → Log → Log
stepped step log = next_moment (record { durable = log.kept.durable; steps = step ∷ log.kept.steps }) log

-- all of it is on the device
abbrev pub synced : Log → Log
synced log = next_moment (record { durable = seen_of log.kept; steps = [] }) log

-- a folder that nothing was done to since it was opened, with these texts
abbrev pub fresh : Texts → Log
fresh texts = record { kept = record { durable = texts; steps = [] }; past = [] }

-- what a crash might have left since a moment
abbrev pub LeftSince : Log → ℕ → Texts → Type 0
LeftSince log t c = Leaves log.kept c ⊎ MightHaveLeft t log.past c
