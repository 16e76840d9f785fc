-- What follows from the way in which both files are settled.
use Rattle.std.proofs.Common.{◌≡◌, ◌⊎◌, inl, inr, subst, refl, Option, Some, None, ◌<◌}
use Rattle.std.specs.Prelude.{◌≢◌, IsSome, IfOk, IfErr, OnOk, Result, Ok, Err}
use Rattle.os_line_file.specs.Folder.{Texts}
use Rattle.os_line_file.specs.declared.folder.LineFolder as folder
use Rattle.cli_faults.specs.Errors.{IsS1For}
use Rattle.cli_faults.specs.Faults.{failure_of}
use Rattle.cli_faults.specs.declared.fault.Fault.TheVariants as fault
use Rattle.verity_line_file.specs.Outcome.{IsSettled}
use Rattle.verity_line_file.specs.Shown.{Values}
use Rattle.verity_line_file.specs.declared.fault.LineFileFault.{LineFileFault}
use Rattle.verity_line_file.specs.declared.fault.LineFileFault.TheVariants as why
use Rattle.verity_line_file.specs.declared.line_file.Settled.{Settled}
use Rattle.verity_line_file.specs.declared.line_file.Settled.TheVariants.{Nothing}
use Rattle.verity_pending.specs.declared.fault.EditFault.{EditFault}
use Rattle.verity_pending.specs.declared.fault.EditFault.TheVariants as edit
use Rattle.verity_superblock.specs.declared.faults.SuperFault.TheVariants as super
use Rattle.verity_superblock.specs.declared.faults.TableFault.{TableFault}
use Rattle.verity_superblock.specs.declared.faults.TableFault.TheVariants as table
use Rattle.cli_line_file.specs.Faults.{line_failure, refused_folder}
use Rattle.cli_line_file.specs.Settling.{StaysUnlessFailed}

pub some_none : {A : Type 0} (o : Option A) → IsSome o → o ≡ None → ⊥
some_none None some is = cc
some_none (Some a) some is = cc

pub none_of : {A : Type 0} (o : Option A) → (IsSome o → ⊥) → o ≡ None
none_of None other = refl
none_of (Some a) other = absurd (other refl)

pub some_or_none : {A : Type 0} (o : Option A) → (o ≡ None) ⊎ IsSome o
some_or_none None = inl refl
some_or_none (Some a) = inr refl

pub both_ok : {T E : Type 0} (r : Result T E) (P Q R : Type 0) → (P → Q → R) → OnOk r P → OnOk r Q → OnOk r R
both_ok (Ok value) P Q R then p q = then p q
both_ok (Err e) P Q R then p q = tt

pub three_ok : {T E : Type 0} (r : Result T E) (P Q R S : Type 0) → (P → Q → R → S) → OnOk r P → OnOk r Q → OnOk r R → OnOk r S
three_ok (Ok value) P Q R S then p q r = then p q r
three_ok (Err e) P Q R S then p q r = tt

pub map_ok : {T E : Type 0} (r : Result T E) (P Q : T → Type 0) → ((t : T) → P t → Q t) → IfOk r P → IfOk r Q
map_ok (Ok value) P Q then p = then value p
map_ok (Err e) P Q then p = tt

pub map_err : {T E : Type 0} (r : Result T E) (P Q : E → Type 0) → ((e : E) → P e → Q e) → IfErr r P → IfErr r Q
map_err (Ok value) P Q then p = tt
map_err (Err e) P Q then p = then e p

-- whatever the error is
pub any_err : {T E : Type 0} (r : Result T E) (Q : E → Type 0) → ((e : E) → Q e) → IfErr r Q
any_err (Ok value) Q each = tt
any_err (Err e) Q each = each e

-- where there was a FILE.next, something was done
pub does : (v : Values) (old new : Texts) (done : Settled) → IsSome old.next → IsSettled v old new done → done ≡ Nothing → ⊥
does v old new done some settled nothing = some_none old.next some
    (subst (λ (d : Settled). IsSettled v old new d) nothing settled).0

-- no fault of a line or a volume is S1
no_line : (e : TableFault) → failure_of (fault.Table e) ≡ refused_folder → ⊥
no_line table.NoMemory is = cc
no_line _ is = cc

no_edit : (e : EditFault) → failure_of (fault.Edit e) ≡ refused_folder → ⊥
no_edit edit.NoMemory is = cc
no_edit (edit.Superblock super.NoMemory) is = cc
no_edit _ is = cc

module _ {G : Type 0} (facts : folder.Ghosts G) (old new : G) where
  -- a fault of the folder, and all others, as a command has them
  pub stays : (e : LineFileFault) (top : EditFault) → (e ≢ why.Folder → new ≡ old)
      → (e ≡ why.Folder → facts.failures old < facts.failures new) → StaysUnlessFailed facts old new (line_failure e top)
  stays why.Folder top same failed = inr (refl, failed refl)
  stays (why.Line e) top same failed = inl (same (λ is. cc))
  stays why.Values top same failed = inl (same (λ is. cc))
  stays why.Top top same failed = inl (same (λ is. cc))
  stays why.NoMemory top same failed = inl (same (λ is. cc))

  pub system : (reason : Type 0) (e : LineFileFault) (top : EditFault) → (e ≡ why.Folder → facts.failures old < facts.failures new)
      → IsS1For (reason ⊎ (facts.failures old < facts.failures new)) (line_failure e top)
  system reason why.Folder top failed is = inr (failed refl)
  system reason (why.Line e) top failed is = absurd (no_line e is)
  system reason why.Values top failed is = absurd (no_edit edit.Line is)
  system reason why.Top top failed is = absurd (no_edit top is)
  system reason why.NoMemory top failed is = absurd (let same : line_failure why.NoMemory top ≡ refused_folder = is in cc)
