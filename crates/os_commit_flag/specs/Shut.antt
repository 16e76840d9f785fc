-- Where no commit of a hash device is under way, over a system.
use Rattle.std.specs.Prelude.{◌≡◌, ◌⊎◌, ℕ, min, true, List, length, Option, None, Some}
use Rattle.os_files.specs.Identities.{IsDevice}
use Rattle.os_files.specs.Reached.{BesideAt}
use Rattle.os_files.specs.declared.system.System.{Ghosts}
use Rattle.verity_journal.specs.Journal.{Says}
use Rattle.verity_journal.specs.declared.head.Gate.{Gate}
use Rattle.verity_journal.specs.declared.head.Gate.TheVariants as gate

-- what stands at a path was opened, or there is nothing
abbrev pub IsFoundAt : {S F D J : Type 0} → Ghosts S F D J → S → List ℕ → Option F → Type 0
IsFoundAt facts s path (Some opened) = facts.opens s path opened
IsFoundAt facts s path None = facts.lacks s path

-- what the first 13 bytes of what was opened, or all where it has fewer, say of it: a journal's head and gate stand there
abbrev pub HasGateNow : {S F D J : Type 0} → Ghosts S F D J → S → F → Gate → Type 0
HasGateNow facts s opened gate = (first : List ℕ) × facts.begins s opened first × (length first ≡ min (facts.len opened) 13)
    × Says first gate

-- what was opened has no more than a beginning of a journal's head, maybe no byte, or a closed gate behind one
abbrev pub HasShutGateNow : {S F D J : Type 0} → Ghosts S F D J → S → F → Type 0
HasShutGateNow facts s opened = HasGateNow facts s opened gate.Begun ⊎ HasGateNow facts s opened gate.Closed

-- no gate is open at a path
abbrev pub IsShutNow : {S F D J : Type 0} → Ghosts S F D J → S → List ℕ → Type 0
IsShutNow facts s path = facts.lacks s path ⊎ ((opened : _) × facts.opens s path opened × HasShutGateNow facts s opened)

-- no gate is open beside a hash device; a block device has none there
abbrev pub IsShutBeside : {S F D J : Type 0} → Ghosts S F D J → S → List ℕ → Type 0
IsShutBeside facts s hash_path = facts.has_device s hash_path
    ⊎ ((path : List ℕ) × BesideAt facts s hash_path path × IsShutNow facts s path)

-- what was opened begins with a journal's head and an open gate
abbrev pub HasOpenGateNow : {S F D J : Type 0} → Ghosts S F D J → S → F → Type 0
HasOpenGateNow facts s opened = HasGateNow facts s opened gate.Open

-- what was opened is no journal, or one of another version
abbrev pub HasNoGateNow : {S F D J : Type 0} → Ghosts S F D J → S → F → Type 0
HasNoGateNow facts s opened = HasGateNow facts s opened gate.Foreign

-- a gate is open at a path
abbrev pub IsOpenNow : {S F D J : Type 0} → Ghosts S F D J → S → List ℕ → Type 0
IsOpenNow facts s path = (opened : _) × facts.opens s path opened × HasOpenGateNow facts s opened

-- a gate is open beside a hash device
abbrev pub IsOpenBeside : {S F D J : Type 0} → Ghosts S F D J → S → List ℕ → Type 0
IsOpenBeside facts s hash_path = (path : List ℕ) × BesideAt facts s hash_path path × IsOpenNow facts s path

-- no gate is open beside a hash device, or it is the one that is named
abbrev pub IsOtherShutBeside : {S F D J : Type 0} → Ghosts S F D J → S → List ℕ → List ℕ → Type 0
IsOtherShutBeside facts s hash_path named = facts.has_device s hash_path
    ⊎ ((path : List ℕ) × BesideAt facts s hash_path path × (facts.leads s named path ⊎ IsShutNow facts s path))

-- no journal can be opened at a path: the system refused a call, or a block device was opened there
abbrev pub IsClosedOffNow : {S F D J : Type 0} → Ghosts S F D J → S → List ℕ → Type 0
IsClosedOffNow facts s path = (facts.refuses s ≡ true)
    ⊎ ((opened : _) × facts.opens s path opened × IsDevice (facts.identity opened))

-- no journal can be used at a path: none can be opened there, or what was opened is none
abbrev pub IsUnusableNow : {S F D J : Type 0} → Ghosts S F D J → S → List ℕ → Type 0
IsUnusableNow facts s path = IsClosedOffNow facts s path ⊎ ((opened : _) × facts.opens s path opened × HasNoGateNow facts s opened)

-- nor beside a hash device
abbrev pub IsUnusableBeside : {S F D J : Type 0} → Ghosts S F D J → S → List ℕ → Type 0
IsUnusableBeside facts s hash_path = (path : List ℕ) × BesideAt facts s hash_path path × IsUnusableNow facts s path
