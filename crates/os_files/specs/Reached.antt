-- What a system's commands reach at its paths.
use Rattle.std.specs.Prelude.{◌≡◌, ℕ, List, ◌++◌, codes}
use Rattle.cli_faults.specs.declared.command.Lock.{Lock}
use Rattle.os_files.specs.declared.system.System.{Ghosts}

-- another has a lock on what is opened at a path that shuts this one out
abbrev pub IsShutOutAt : {S F D J : Type 0} → Ghosts S F D J → S → List ℕ → Lock → Type 0
IsShutOutAt facts s path lock = (file : _) × facts.opens s path file × facts.shuts_out s file lock

-- the path beside a hash device: that of the file that its path leads to, with `.journal` behind it
abbrev pub BesideAt : {S F D J : Type 0} → Ghosts S F D J → S → List ℕ → List ℕ → Type 0
BesideAt facts s hash_path path = (led : List ℕ) × facts.leads s hash_path led × (path ≡ led ++ codes ".journal")
