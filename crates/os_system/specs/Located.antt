-- What was opened, here or at a server, and what a store over it lies in.
use Rattle.std.specs.Prelude.{◌≡◌, ◌⊎◌, ℕ, ◌*◌, ◌/◌, min, List, ⊤}
use Rattle.std.specs.declared.fs.File.{File}
use Rattle.remote_url.specs.Grammar.{HasScheme, Names}
use Rattle.remote_url.specs.declared.source.Source.{Source}
use Rattle.verity_store.specs.declared.raw_file.RawFile.{Ghosts}
use Rattle.os_host.specs.Parts.{LiesAsPart}
use Rattle.os_files.specs.declared.identity.Identity.{Identity}
use Rattle.os_files.specs.declared.identity.Identity.TheVariants.{Device}
use Rattle.os_host.specs.declared.opening.Opened.{Opened}
use Rattle.os_files.specs.declared.part.Part.{Part}
use Rattle.os_files.specs.declared.part.Part.TheVariants.{All, First, AtMost, New}
use Rattle.os_files.specs.declared.volume_file.VolumeFile.{VolumeFile}
use Rattle.os_system.specs.declared.located.Located.{Located}
use Rattle.os_system.specs.declared.located.Located.TheVariants.{Here, There}
use Rattle.os_system.specs.declared.located.Remote.{Remote}

-- which file or device it is: one at a server is none of those here
abbrev pub identity_of : {F : Type 0} → Located Opened (Remote F) → Identity
identity_of (Here opened) = opened.identity
identity_of (There remote) = Device 18446744073709551615

-- how many bytes it had when it was opened
abbrev pub len_of : {F : Type 0} → Located Opened (Remote F) → ℕ
len_of (Here opened) = opened.len
len_of (There remote) = remote.len

-- this of what is here, and that of what is at a server
abbrev pub ByPlace : {L F : Type 0} → (here : L → Type 0) → (there : F → Type 0) → Located L F → Type 0
ByPlace here there (Here opened) = here opened
ByPlace here there (There remote) = there remote

-- a text names this source, which isn't a path, and this was opened there
pub record IsReached {F : Type 0} (reaches : Source → F → ℕ → Type 0) (text : List ℕ) (remote : Remote F) : Type 0 where
  pub source : Source
  pub named : Names text source
  pub scheme : HasScheme text
  pub reached : reaches source remote.file remote.len

-- a path that is no URL, and what was opened there; or a URL, and what was opened where it says
abbrev pub OpensAt : {F : Type 0} → (opens : List ℕ → Opened → Type 0) → (reaches : Source → F → ℕ → Type 0) → List ℕ
    → Located Opened (Remote F) → Type 0
OpensAt opens reaches text = ByPlace (λ opened. (¬ HasScheme text) × opens text opened) (IsReached reaches text)

-- how many blocks a part has of a file at a server that has so many
abbrev pub HasBlocks : Part → (all blocks : ℕ) → Type 0
HasBlocks All all blocks = blocks ≡ all
HasBlocks (First count) all blocks = blocks ≡ count
HasBlocks (AtMost count) all blocks = blocks ≡ min all count
HasBlocks New all blocks = ⊥

-- a store lies in this part of what was opened here
abbrev pub LiesHere : {F : Type 0} → Opened → Part → (size : ℕ) → {g : Ghosts File} → Located (VolumeFile File g) F → Type 0
LiesHere opened part size = ByPlace (LiesAsPart opened part size) (λ _. ⊥)

-- a store of so many blocks lies in this part of a file at a server
abbrev pub LiesThere : {F : Type 0} → Remote F → Part → (size blocks : ℕ) → {g : Ghosts File} → Located (VolumeFile File g) F → Type 0
LiesThere remote part size blocks =
    ByPlace (λ _. ⊥) (λ file. (file ≡ remote.file) × HasBlocks part (remote.len / size) blocks)

-- a store of so many blocks lies in this part of what was opened
abbrev pub LiesOver : {F : Type 0} → Located Opened (Remote F) → Part → (size blocks : ℕ) → {g : Ghosts File}
    → Located (VolumeFile File g) F → Type 0
LiesOver (Here opened) part size blocks file = LiesHere opened part size file
LiesOver (There remote) part size blocks file = LiesThere remote part size blocks file
