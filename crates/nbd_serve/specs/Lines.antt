-- What a server prints.
use Rattle.std.specs.Prelude.{◌≡◌, ◌+◌, ◌==◌, ◌&&◌, ◌≤◌, ℕ, Bool, true, false, not, ◌||◌, if◌then◌else◌, nat_le}
use Rattle.std.specs.Prelude.{Option, Some, None, slice_get, List, [], ◌∷◌, ◌++◌, length, map, codes}
use Rattle.std.specs.List.{flat_map, list_any, sum_by}
use Rattle.std.specs.Fmt.{decimal}
use Rattle.std.specs.Io.KnownBytes.{Appends}
use Rattle.nbd_hub.specs.Texts.{serve_text}
use Rattle.nbd_hub.specs.declared.fault.ServeFault.{ServeFault}

-- a text, and the end of its line
abbrev pub line : List ℕ → List ℕ
line text = text ++ 10 ∷ []

-- the line of a session that ended: its number, and the fault for which it was left, or none
abbrev pub ended_line : ℕ × Option ServeFault → List ℕ
ended_line (number, None) = codes "session " ++ (decimal number ++ line (codes " ended"))
ended_line (number, Some fault) = codes "session " ++ (decimal number ++ (codes " " ++ line (serve_text fault)))

-- the line of the session at this place was printed
pub record IsEnded (old new : Option (List ℕ)) (numbers : List ℕ) (at : ℕ) (fault : Option ServeFault) : Type 0 where
  pub number : ℕ
  pub is_there : slice_get numbers at ≡ Some number
  pub printed : Appends old new (ended_line (number, fault))

-- it names a fault
abbrev pub names_fault : ℕ × Option ServeFault → Bool
names_fault (number, None) = false
names_fault (number, Some fault) = true

-- how often a number stands in a list
abbrev pub times : ℕ → List ℕ → ℕ
times number numbers = sum_by (λ other. if other == number then 1 else 0) numbers

-- 1 for each number from 1 to `accepted`, 0 for the others
abbrev pub given : ℕ → ℕ → ℕ
given number accepted = if nat_le 1 number && nat_le number accepted then 1 else 0

-- where a server stands: how many sessions have ended, how many connections were accepted, the numbers of those that are connected,
-- and whether a line named a fault
pub record Standing : Type 0 where
  pub ended : ℕ
  pub accepted : ℕ
  pub numbers : List ℕ
  pub faulty : Bool

abbrev pub standing : ℕ → ℕ → List ℕ → Bool → Standing
standing ended accepted numbers faulty = record { ended = ended; accepted = accepted; numbers = numbers; faulty = faulty }

-- a line was printed for each session that ended meanwhile, and each number that was given is connected or stands in one line
pub record Tells (old new : Option (List ℕ)) (before after : Standing) : Type 0 where
  pub ends : List (ℕ × Option ServeFault)
  pub printed : Appends old new (flat_map ended_line ends)
  pub count : after.ended ≡ before.ended + length ends
  pub faulty : after.faulty ≡ (before.faulty || list_any names_fault ends)
  pub once : (k : ℕ) → times k after.numbers + times k (map (λ ended. ended.0) ends) + given k before.accepted
      ≡ times k before.numbers + given k after.accepted

-- A line was printed for each of so many sessions, in the order in which they ended; the numbers from 1 on stand in one line each; and
-- whether none of them names a fault.
pub record IsServing (old new : Option (List ℕ)) (sessions : ℕ) (answer : Bool) : Type 0 where
  pub ends : List (ℕ × Option ServeFault)
  pub printed : Appends old new (flat_map ended_line ends)
  pub count : length ends ≡ sessions
  pub numbered : (k : ℕ) → 1 ≤ k → k ≤ sessions → times k (map (λ ended. ended.0) ends) ≡ 1
  pub clean : answer ≡ not (list_any names_fault ends)

-- the same, and before them the line which says that clients are waited for
pub record IsServed (old new : Option (List ℕ)) (sessions : ℕ) (answer : Bool) : Type 0 where
  pub ends : List (ℕ × Option ServeFault)
  pub printed : Appends old new (line (codes "listening") ++ flat_map ended_line ends)
  pub count : length ends ≡ sessions
  pub numbered : (k : ℕ) → 1 ≤ k → k ≤ sessions → times k (map (λ ended. ended.0) ends) ≡ 1
  pub clean : answer ≡ not (list_any names_fault ends)
