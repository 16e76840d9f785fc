-- What a verifier's answer says as an export's.
use Rattle.std.proofs.Common.{◌≡◌, ◌≢◌, Result, Ok, Err, OnOk, IfErr, refl}
use Rattle.std.specs.Result.{IsErrOf}
use Rattle.nbd_session.specs.declared.export.ExportFault.TheVariants as export
use Rattle.verity_check.specs.declared.fault.CheckFault.{CheckFault}
use Rattle.verity_check.specs.declared.fault.CheckFault.TheVariants as check
use Rattle.verity_hub.specs.Verdicts.{answer_of}

pub ok_answer : (a : Result (Unit {0}) CheckFault) (P Q : Type 0) → (P → Q) → OnOk a P → OnOk (answer_of a) Q
ok_answer (Ok x) P Q f h = f h
ok_answer (Err check.NoMemory) P Q f h = tt
ok_answer (Err (check.Mismatch place)) P Q f h = tt
ok_answer (Err (check.Store which)) P Q f h = tt
ok_answer (Err check.Lengths) P Q f h = tt
ok_answer (Err check.CacheSize) P Q f h = tt

-- Io comes of another refusal than want of memory
pub io_answer : (a : Result (Unit {0}) CheckFault) (P Q : CheckFault → Type 0) (R : Type 0) →
    ((fault : CheckFault) → fault ≢ check.NoMemory → P fault → Q fault → R)
    → IfErr a P → IfErr a Q → IsErrOf (answer_of a) export.Io → R
io_answer (Ok x) P Q R f p q is = absurd (let no : ⊥ = cc in no)
io_answer (Err check.NoMemory) P Q R f p q is = absurd (let no : ⊥ = cc in no)
io_answer (Err (check.Mismatch place)) P Q R f p q is = f (check.Mismatch place) (λ e. let no : ⊥ = cc in no) p q
io_answer (Err (check.Store which)) P Q R f p q is = f (check.Store which) (λ e. let no : ⊥ = cc in no) p q
io_answer (Err check.Lengths) P Q R f p q is = f check.Lengths (λ e. let no : ⊥ = cc in no) p q
io_answer (Err check.CacheSize) P Q R f p q is = f check.CacheSize (λ e. let no : ⊥ = cc in no) p q

-- NoMemory comes of want of memory alone
pub lack_answer : (a : Result (Unit {0}) CheckFault) (R : Type 0) → IfErr a (λ fault. fault ≡ check.NoMemory → R) →
    IsErrOf (answer_of a) export.NoMemory → R
lack_answer (Ok x) R f is = absurd (let no : ⊥ = cc in no)
lack_answer (Err check.NoMemory) R f is = f refl
lack_answer (Err (check.Mismatch place)) R f is = absurd (let no : ⊥ = cc in no)
lack_answer (Err (check.Store which)) R f is = absurd (let no : ⊥ = cc in no)
lack_answer (Err check.Lengths) R f is = absurd (let no : ⊥ = cc in no)
lack_answer (Err check.CacheSize) R f is = absurd (let no : ⊥ = cc in no)
