-- What a command blames where a number isn't understood, and what `talk` answers as its session ended.
use Rattle.std.proofs.Common.{◌≡◌, Bool, true, false, ℕ, List, Result, Ok, Err, IfOk, IsErrAnd, subst, sym, ap, ◌∙◌}
use Rattle.std.specs.Prelude.{IfErr, ◌^◌, ◌&&◌, nat_lt, if◌then◌else◌}
use Rattle.std.specs.Str.Parse.{digits_value}
use Rattle.nbd_hub.specs.declared.fault.ServeFault.{ServeFault}
use Rattle.cli_faults.specs.declared.failure.Failure.{Failure}
use Rattle.cli_faults.specs.declared.failure.Failure.TheVariants as failure
use Rattle.cli_faults.specs.declared.failure.Word.{Word}
use Rattle.cli_faults.specs.declared.failure.Word.TheVariants as word
use Rattle.cli_faults.specs.Words.{is_decimal, number_in, sessions_in}
use Rattle.cli_arguments.specs.declared.words.talk.TalkWords.{TalkWords}
use Rattle.cli_serve.specs.Blamed.{TalkBlames}
use Rattle.cli_serve.specs.Serving.{status_of_session}

only : (read : Bool) (n : ℕ) (known e : Failure) → (if read then Ok n else Err known) ≡ Err e → e ≡ known
only true n known e is = absurd (cc is)
only false n known e is = cc

-- a number that isn't understood blames its word
pub by_number : {T : Type 0} (done : Result T Failure) (w : Word) (text : List ℕ) (e : Failure) (Blames : Failure → Type 0)
    → (number_in w text ≡ Err (failure.Word w) → Blames (failure.Word w)) → IsErrAnd done (λ other. other ≡ e) → number_in w text ≡ Err e
    → IfErr done Blames
by_number (Ok done) w text e Blames blames is was = tt
by_number (Err other) w text e Blames blames is was =
    let same = only (is_decimal text) (digits_value 10 text) (failure.Word w) e was in
    subst Blames (sym (is ∙ same)) (blames (was ∙ ap Err same))

-- so does a count of connections
pub by_sessions : {T : Type 0} (done : Result T Failure) (text : List ℕ) (e : Failure) (Blames : Failure → Type 0)
    → (sessions_in text ≡ Err (failure.Word word.Sessions) → Blames (failure.Word word.Sessions)) → IsErrAnd done (λ other. other ≡ e)
    → sessions_in text ≡ Err e → IfErr done Blames
by_sessions (Ok done) text e Blames blames is was = tt
by_sessions (Err other) text e Blames blames is was =
    let same = only (is_decimal text && nat_lt (digits_value 10 text) (2 ^ 32)) (digits_value 10 text) (failure.Word word.Sessions) e was in
    subst Blames (sym (is ∙ same)) (blames (was ∙ ap Err same))

-- want of memory blames none
pub starved : {T : Type 0} (r : Result T Failure) (words : TalkWords) → IfErr r (λ e. e ≡ failure.NoMemory) → IfErr r (TalkBlames words)
starved (Ok x) words is = tt
starved (Err e) words is = subst (TalkBlames words) (sym is) tt

-- a status is that of the session's end
pub told : (r : Result ℕ Failure) (Talked Reads Writes : Result (Unit {0}) ServeFault → Type 0) (ended : Result (Unit {0}) ServeFault)
    → IfOk r (λ status. status ≡ status_of_session ended) → Talked ended → Reads ended → Writes ended
    → IfOk r (λ status. (ended : Result (Unit {0}) ServeFault) × (status ≡ status_of_session ended) × Talked ended × Reads ended
    × Writes ended)
told (Ok status) Talked Reads Writes ended is talked reads writes = (ended, is, talked, reads, writes)
told (Err e) Talked Reads Writes ended is talked reads writes = tt
