-- Files of whose bytes nothing is known.
use Rattle.std.proofs.Common.{◌≡◌, ⊎_elim, ℕ, ◌+◌, ◌≤◌, max, List, ◌++◌, length, take, drop, Result, Ok, Err, Option, None}
use Rattle.std.proofs.Common.{subst, ◌∙◌, arith}
use Rattle.std.specs.Prelude.{OnOk, OnErr}
use Rattle.std.proofs.lemmas.List.{length-append, length-take, length-drop}
use Rattle.verity_store.specs.RawFile.{overwritten, Writes, MayWrite, SetsLength, MaySetLength}

pub none_set : {T E : Type 0} (r : Result T E) (old new : Option (List ℕ)) (n : ℕ) → old ≡ None → OnOk r (SetsLength old new n) →
    OnErr r (MaySetLength old new n) → new ≡ None
none_set (Ok x) old new n e set failed = subst (λ (o : Option (List ℕ)). SetsLength o new n) e set
none_set (Err x) old new n e set failed = ⊎_elim (λ same. same ∙ e) (λ s. subst (λ (o : Option (List ℕ)). SetsLength o new n) e s) failed

pub none_written : {T E : Type 0} (r : Result T E) (old new : Option (List ℕ)) (at n : ℕ) (bytes : List ℕ) → old ≡ None →
    OnOk r (Writes old new at bytes) → OnErr r (MayWrite old new at n) → new ≡ None
none_written (Ok x) old new at n bytes e written failed = subst (λ (o : Option (List ℕ)). Writes o new at bytes) e written
none_written (Err x) old new at n bytes e written failed = subst (λ (o : Option (List ℕ)). Writes o new at failed.0) e failed.2

-- how many bytes there are after a write
pub length-over : (at : ℕ) (bytes old : List ℕ) → at ≤ length old → length (overwritten at bytes old) ≡ max (length old) (at + length bytes)
length-over at bytes old below = omega (
  arith,
  length-append (take at old) (bytes ++ drop (at + length bytes) old),
  length-append bytes (drop (at + length bytes) old),
  length-take at old,
  length-drop (at + length bytes) old,
)
