-- What a store gave between two moments.
use Rattle.std.proofs.Common.{zero, suc, ◌≡◌, ℕ, ◌≤◌, List, [], ◌∷◌, ◌++◌, length, drop, get_or, true, sym, ap, subst, ◌∙◌, arith}
use Rattle.std.proofs.lemmas.List.{take-append-drop, drop-append-le, drop_all}
use Rattle.std.proofs.lemmas.List.Elements.{All-nil, All-push, All-append, All-contains}
use Rattle.std.specs.Prelude.{All, Contains}
use Rattle.verity_store.specs.Given.{GoesOn}
use Rattle.verity_store.proofs.GivenLemmas.{goes_on_len, since_on}
use Rattle.verity_store.specs.Stores.{IsOnlyRead}
use Rattle.verity_store.specs.declared.store.BlockStore as store
use Rattle.verity_chain.specs.Table.{Table, hash_place}
use Rattle.verity_chain.specs.Stores.{Gave}
use Rattle.verity_chain.proofs.ChainLemmas.{Grows}
use Rattle.verity_report.specs.Finding.{Tells}
use Rattle.verity_report.specs.Stores.{gave_between, IsOwn, GivesOwn, listed_in, given_between, held_in, BothTell}

-- a log that goes on
whole_log : (old new : List (ℕ × List ℕ)) → GoesOn old new → old ++ drop (length old) new ≡ new
whole_log old new on = ap (λ front. front ++ drop (length old) new) (sym on) ∙ take-append-drop (length old) new

module _ {S : Type 0} (facts : store.Ghosts S) where
  pub own_same : (s : S) → GivesOwn facts s s
  own_same s = subst (All (IsOwn facts s)) (sym (drop_all (length (facts.given s)) (facts.given s) (omega arith))) (All-nil (IsOwn facts s))

  pub own_none : (old new : S) → facts.given new ≡ facts.given old → GivesOwn facts old new
  own_none old new same =
      subst (λ log. All (IsOwn facts old) (drop (length (facts.given old)) log)) (sym same) (own_same old)

  -- one more block
  pub own_one : (old new : S) (n : ℕ) (block : List ℕ) → facts.given new ≡ facts.given old ++ (n, block) ∷ []
      → length block ≡ facts.size old → (facts.tells old ≡ true → get_or (facts.content old) n [] ≡ block) → GivesOwn facts old new
  own_one old new n block more sized right =
      subst (λ log. All (IsOwn facts old) (drop (length (facts.given old)) log)) (sym more)
      (subst (All (IsOwn facts old)) (sym (drop-append-le (length (facts.given old)) (facts.given old) ((n, block) ∷ []) (omega arith)))
      (All-push (IsOwn facts old) (drop (length (facts.given old)) (facts.given old)) (n, block) (own_same old) (sized, right)))

  -- one after the other
  pub own_then : (old now new : S) → IsOnlyRead facts old now → GoesOn (facts.given now) (facts.given new)
      → GivesOwn facts old now → GivesOwn facts now new → GivesOwn facts old new
  own_then old now new first on before after =
      let inside : length (facts.given old) ≤ length (facts.given now) = goes_on_len _ _ first.later.gave in
      let later : All (IsOwn facts old) (gave_between facts now new) = λ k d lt.
      let own = after k d lt in (
        own.0 ∙ first.later.size,
        λ tells. ap (λ blocks. get_or blocks (get_or (gave_between facts now new) k d).0 []) (sym first.content)
            ∙ own.1 (first.later.tells ∙ tells),
      ) in
      subst (λ log. All (IsOwn facts old) (drop (length (facts.given old)) log)) (whole_log (facts.given now) (facts.given new) on)
      (subst (All (IsOwn facts old))
      (sym (drop-append-le (length (facts.given old)) (facts.given now) (drop (length (facts.given now)) (facts.given new)) inside))
      (All-append (IsOwn facts old) (gave_between facts old now) (gave_between facts now new) before later))

  -- a block that was given since is one of those
  pub own_gave : (old new : S) → IsOnlyRead facts old new → GivesOwn facts old new → (n : ℕ) (block : List ℕ)
      → Contains (gave_between facts old new) (n, block) → Gave facts (length (facts.given old)) new n block
  own_gave old new read own n block gave =
      let is : IsOwn facts old (n, block) = All-contains (IsOwn facts old) (gave_between facts old new) (n, block) own gave in
      (gave, is.0 ∙ sym read.later.size, λ tells. ap (λ blocks. get_or blocks n []) read.content ∙ is.1 (sym read.later.tells ∙ tells))

-- a log that goes on
pub listed_on : (t : Table) (old new gave : List (ℕ × List ℕ)) (mark : ℕ) → GoesOn old new
    → Grows (listed_in t gave (drop mark old)) (listed_in t gave (drop mark new))
listed_on t old new gave mark on zero i y is = is
listed_on t old new gave mark on (suc l) i y is = since_on old new on mark (hash_place t l i) y is

pub data_on : (t : Table) (old new gave : List (ℕ × List ℕ)) (mark : ℕ) → GoesOn old new
    → Grows (listed_in t (drop mark old) gave) (listed_in t (drop mark new) gave)
data_on t old new gave mark on zero i y is = since_on old new on mark i y is
data_on t old new gave mark on (suc l) i y is = is

module _ {D H : Type 0} (data_facts : store.Ghosts D) (hash_facts : store.Ghosts H) (t : Table) (d d' : D) (h h' : H)
    (data_read : IsOnlyRead data_facts d d') (hash_read : IsOnlyRead hash_facts h h')
    (data_own : GivesOwn data_facts d d') (hash_own : GivesOwn hash_facts h h') where
  -- what was listed was given
  pub listed_given : Grows (listed_in t (gave_between data_facts d d') (gave_between hash_facts h h'))
      (given_between data_facts hash_facts t d h d' h')
  listed_given zero i y is = own_gave data_facts d d' data_read data_own i y is
  listed_given (suc l) i y is = own_gave hash_facts h h' hash_read hash_own (hash_place t l i) y is

  -- .. and is what is held, where the stores tell
  pub listed_held : BothTell data_facts hash_facts d h
      → Tells (listed_in t (gave_between data_facts d d') (gave_between hash_facts h h')) (held_in data_facts hash_facts t d h)
  listed_held both zero i y is =
      sym ((All-contains (IsOwn data_facts d) (gave_between data_facts d d') (i, y) data_own is).1 both.0)
  listed_held both (suc l) i y is =
      sym ((All-contains (IsOwn hash_facts h) (gave_between hash_facts h h') (hash_place t l i, y) hash_own is).1 both.1)
