-- Runs that lines name.
use Rattle.std.proofs.Common.{◌≡◌, ℕ, inl, inr, Option, Some, None, Result, Ok, Err, OnOk, List, [], ◌∷◌, ◌++◌, subst}
use Rattle.std.specs.Prelude.{Contains, IfSome}
use Rattle.std.proofs.lemmas.List.Elements.{Contains-push_cases}
use Rattle.verity_slice.specs.declared.run.Run.{Run}
use Rattle.cli_format.specs.Asked.{Tells}

-- one run more
pub told_more : (text : List ℕ) (runs : List Run) (more : Run) → ((run : Run) → Contains runs run → Tells text run) → Tells text more
    → (run : Run) → Contains (runs ++ more ∷ []) run → Tells text run
told_more text runs more told here run is_one = elim (Contains-push_cases runs more run is_one) [
  | inl before ↦ told run before
  | inr last ↦ subst (Tells text) last here
]

-- runs that a text tells, which is all that was read
pub told_of : (input : Option (List ℕ)) (text : List ℕ) (runs : List Run) → IfSome input (λ bytes. text ≡ bytes)
    → ((run : Run) → Contains runs run → Tells text run) → IfSome input (λ bytes. (run : Run) → Contains runs run → Tells bytes run)
told_of None text runs read told = tt
told_of (Some bytes) text runs read told =
    subst (λ (t : List ℕ). (run : Run) → Contains runs run → Tells t run) read told

-- what holds where it is done, holds of what follows from it
pub on_done : {T E A B : Type 0} (r : Result T E) → (A → B) → OnOk r A → OnOk r B
on_done (Ok x) more is = more is
on_done (Err e) more is = tt
