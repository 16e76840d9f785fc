-- A store of which the blocks of some runs are shown. The facts of a store of the type S are S.BlockStore.
use Rattle.std.specs.Prelude.{ℕ, ◌≤◌, ◌≡◌, Bool, true, if◌then◌else◌, List, [], ◌∷◌, ◌++◌, length, slice_index_or, Contains}
use Rattle.verity_slice.specs.Slices.{IsIn}
use Rattle.verity_slice.specs.declared.run.Run.{Run}
use Rattle.verity_store.specs.Given.{GoesOn, GaveSince}
use Rattle.verity_store.specs.declared.store.BlockStore as store

-- a run has the block of this number
abbrev pub IsShown : List Run → ℕ → Type 0
IsShown runs n = (run : Run) × Contains runs run × IsIn run n

-- one run has all blocks from `first` to before `end`
abbrev pub AreShown : List Run → ℕ → ℕ → Type 0
AreShown runs first end = (run : Run) × Contains runs run × (run.first ≤ first) × (end ≤ run.end)

-- what was true of the store below when the portion was made
pub record Facts : Type 0 where
  pub tells : Bool
  pub given : List (ℕ × List ℕ)
  pub fixed : List (ℕ × List ℕ)
  pub reads : ℕ
  pub changes : ℕ

-- what is true of a store now
abbrev pub facts_of : {S : Type 0} → store.Ghosts S → S → Facts
facts_of facts s = record {
  tells = facts.tells s;
  given = facts.given s;
  fixed = facts.fixed s;
  reads = facts.reads s;
  changes = facts.changes s;
}

-- the same in numbers and lists of bytes, as a store is bound to them
abbrev pub rows_of : Facts → List (ℕ × List ℕ)
rows_of was = ((if was.tells then 1 else 0), []) ∷ (was.reads, []) ∷ (was.changes, []) ∷ (length was.given, []) ∷ was.given ++ was.fixed

-- the ends of runs, one after the other
abbrev pub ends_of : List Run → List ℕ
ends_of [] = []
ends_of (run ∷ runs) = run.first ∷ run.end ∷ ends_of runs

-- what a portion is bound to: its runs, and what was true of the store below when it was made
abbrev pub bound_to : List Run → List (ℕ × List ℕ) → List (ℕ × List ℕ)
bound_to runs past = (0, ends_of runs) ∷ past

-- the store below; the runs of blocks that are shown; the blocks that were given; how many reads were asked for; and what was true of the
-- store below when the portion was made
pub record Portioned (S : Type 0) : Type 0 where
  pub store : S
  pub runs : List Run
  pub given : List (ℕ × List ℕ)
  pub asked : ℕ
  pub past : List (ℕ × List ℕ)

-- nothing was read yet
abbrev pub portion_of : {S : Type 0} → store.Ghosts S → S → List Run → Portioned S
portion_of facts s runs = record { store = s; runs = runs; given = []; asked = 0; past = rows_of (facts_of facts s) }

-- what is true of each, where that was true of the store below
pub record IsPortionSince {S : Type 0} (facts : store.Ghosts S) (was : Facts) (p : Portioned S) : Type 0 where
  pub past : p.past ≡ rows_of was
  pub tells : facts.tells p.store ≡ was.tells
  pub fixed : facts.fixed p.store ≡ was.fixed
  pub gave : GoesOn was.given (facts.given p.store)
  pub reads : was.reads ≤ facts.reads p.store
  pub changes : was.changes ≤ facts.changes p.store
  -- What was given of a block that is shown, the store below gave since then.
  pub shown : (n : ℕ) (block : List ℕ) → Contains p.given (n, block) → IsShown p.runs n
      → GaveSince (facts.given p.store) (length was.given) n block
  -- Unless that store was changed, it is the block that it holds, where it tells.
  pub own : facts.changes p.store ≡ was.changes → (n : ℕ) (block : List ℕ) → Contains p.given (n, block) → IsShown p.runs n
      → facts.tells p.store ≡ true → slice_index_or (facts.content p.store) n [] ≡ block
  -- It gave nothing else since then than blocks that are shown.
  pub within : (n : ℕ) (block : List ℕ) → GaveSince (facts.given p.store) (length was.given) n block → IsShown p.runs n

abbrev pub IsPortion : {S : Type 0} → store.Ghosts S → Portioned S → Type 0
IsPortion facts p = (was : Facts) × IsPortionSince facts was p
