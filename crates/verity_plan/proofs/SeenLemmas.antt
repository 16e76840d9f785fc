-- What a store shows.
use Rattle.std.proofs.Common.{◌≡◌, ℕ, true, List, [], ◌∷◌, ◌++◌, length, drop, get_or, ⊎_elim, inl, inr, subst, sym, ap, ◌∙◌}
use Rattle.std.proofs.lemmas.List.{take-append-drop}
use Rattle.std.proofs.lemmas.List.Elements.{Contains-append_left, Contains-push, Contains-push_cases}
use Rattle.std.specs.Prelude.{Contains, Result, Ok, Err, OnOk, OnErr}
use Rattle.verity_store.specs.Given.{GoesOn}
use Rattle.verity_store.specs.Stores.{IsOnlyRead}
use Rattle.verity_store.specs.declared.store.BlockStore as store
use Rattle.verity_plan.specs.Seen.{GivesAt, Shows}

-- what was given stays given
stays_given : (old new : List (ℕ × List ℕ)) → GoesOn old new → (n : ℕ) (block : List ℕ) → Contains old (n, block) →
    Contains new (n, block)
stays_given old new on n block has =
    let more : List (ℕ × List ℕ) = drop (length old) new in
    let is : old ++ more ≡ new = ap (λ front. front ++ more) (sym on) ∙ take-append-drop (length old) new in
    subst (λ rows. Contains rows (n, block)) is (Contains-append_left old more (n, block) has)

-- a read gives one block at most
pub gives_read : {T E : Type 0} (result : Result T E) (at : ℕ → Type 0) (old new : List (ℕ × List ℕ)) (n : ℕ) (block : List ℕ)
    → OnOk result (new ≡ old ++ (n, block) ∷ []) → OnErr result (new ≡ old) → at n → GivesAt at old new
gives_read (Ok done) at old new n block gave none is m other has =
    ⊎_elim inl (λ here. inr (subst (λ (row : ℕ × List ℕ). at row.0) here is))
    (Contains-push_cases old (n, block) (m, other) (subst (λ rows. Contains rows (m, other)) gave has))
gives_read (Err error) at old new n block gave none is m other has = inl (subst (λ rows. Contains rows (m, other)) none has)

pub gives_same : (at : ℕ → Type 0) (old new : List (ℕ × List ℕ)) → new ≡ old → GivesAt at old new
gives_same at old new same n block has = inl (subst (λ rows. Contains rows (n, block)) same has)

pub gives_then : (at : ℕ → Type 0) (a b c : List (ℕ × List ℕ)) → GivesAt at a b → GivesAt at b c → GivesAt at a c
gives_then at a b c first next n block has = ⊎_elim (first n block) inr (next n block has)

pub gives_more : (at more : ℕ → Type 0) (old new : List (ℕ × List ℕ)) → ((n : ℕ) → at n → more n) → GivesAt at old new
    → GivesAt more old new
gives_more at more old new weaker gives n block has = ⊎_elim inl (λ is. inr (weaker n is)) (gives n block has)

-- what a store shows after reads it showed before
pub shows_before : {S : Type 0} (facts : store.Ghosts S) (old new : S) (blocks : List (List ℕ)) → IsOnlyRead facts old new
    → Shows facts new blocks → Shows facts old blocks
shows_before facts old new blocks read =
    ⊎_elim (λ told. inl (sym read.later.tells ∙ told.0, told.1 ∙ read.content))
    (λ only. inr (λ n block has. only n block (stays_given (facts.given old) (facts.given new) read.later.gave n block has)))

-- a store that tells shows what it held before reads
pub shows_held : {S : Type 0} (facts : store.Ghosts S) (old new : S) → IsOnlyRead facts old new → facts.tells old ≡ true
    → Shows facts new (facts.content old)
shows_held facts old new read told = inl (read.later.tells ∙ told, sym read.content)

-- what was read is shown
pub shows_read : {S : Type 0} (facts : store.Ghosts S) (old new : S) (n : ℕ) (block : List ℕ) (blocks : List (List ℕ))
    → facts.tells new ≡ facts.tells old → facts.content new ≡ facts.content old
    → (facts.tells old ≡ true → get_or (facts.content old) n [] ≡ block) → facts.given new ≡ facts.given old ++ (n, block) ∷ []
    → Shows facts new blocks → block ≡ get_or blocks n []
shows_read facts old new n block blocks tells same right gave =
    ⊎_elim (λ told. sym (right (sym tells ∙ told.0)) ∙ ap (λ c. get_or c n []) (sym (told.1 ∙ same)))
    (λ only. sym (only n block (subst (λ rows. Contains rows (n, block)) (sym gave) (Contains-push (facts.given old) (n, block)))))
