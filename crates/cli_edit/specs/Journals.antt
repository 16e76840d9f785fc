-- Where a volume's journal stands, over a system of paths.
use Rattle.std.specs.Prelude.{◌≡◌, ◌⊎◌, List, ℕ, ◌++◌, codes, Option, MatchOption}
use Rattle.std.specs.Borrow.{Bor}
use Rattle.os_files.specs.declared.identity.Identity.{Identity}
use Rattle.os_host.specs.declared.opening.Opened.{Opened}
use Rattle.os_host.specs.declared.paths.Paths.{Ghosts}

-- the path beside a hash device: that of the file that its path leads to, with `.journal` behind it
abbrev pub Beside : {P : Type 0} → Ghosts P → P → List ℕ → List ℕ → Type 0
Beside facts p hash_path path = (led : List ℕ) × facts.leads p hash_path led × (path ≡ led ++ codes ".journal")

-- the journal's path: the one that is named, or the one beside HASH
abbrev pub IsJournalPath : {P : Type 0} → Ghosts P → P → Option (Bor (List ℕ)) → List ℕ → List ℕ → Type 0
IsJournalPath facts p named hash_path path = MatchOption named (Beside facts p hash_path path) (λ text. path ≡ text.now)

-- one of a volume's two files was opened at a path
abbrev pub IsOneOf : {P : Type 0} → Ghosts P → P → List ℕ → (image device : Identity) → Type 0
IsOneOf facts p path image device = (opened : Opened) × facts.opens p path opened
    × ((opened.identity ≡ image) ⊎ (opened.identity ≡ device))

-- what was opened at the journal's path is one of a volume's two files
abbrev pub IsInVolume : {P : Type 0} → Ghosts P → P → Option (Bor (List ℕ)) → List ℕ → (image device : Identity) → Type 0
IsInVolume facts p named hash_path image device = (path : List ℕ) × IsJournalPath facts p named hash_path path
    × IsOneOf facts p path image device
