-- A verifier that was made over two stores, and what clients of its hub are told.
use Rattle.std.proofs.Common.{◌≡◌, ◌*◌, ◌++◌, ℕ, List, [], refl, sym, ap, ◌∙◌, subst}
use Rattle.std.specs.Prelude.{Result, Ok, Err, IsErrOf, ◌↔◌}
use Rattle.nbd_session.specs.declared.offer.Offer.{Offer}
use Rattle.nbd_hub.specs.declared.events.Event.{Event}
use Rattle.nbd_hub.specs.declared.events.HubReply.{HubReply}
use Rattle.nbd_session.specs.Talk.{Verdict}
use Rattle.nbd_hub.specs.After.{AsksOn, EachAfter, IsAfter}
use Rattle.nbd_hub.specs.History.{Step}
use Rattle.nbd_hub.proofs.Runs.{each_weaker}
use Rattle.nbd_hub.specs.Sessions.{HubState}
use Rattle.verity_store.specs.declared.store.BlockStore as store
use Rattle.verity_chain.specs.Table.{Table}
use Rattle.verity_chain.specs.Right.{Fits}
use Rattle.verity_check.specs.Verifier.{Verifying, IsOnlyReading}
use Rattle.verity_check.specs.declared.fault.CheckFault.{CheckFault}
use Rattle.verity_check.specs.declared.fault.CheckFault.TheVariants as check
use Rattle.verity_hub.specs.Verdicts.{facts_of, IsRightFor}
use Rattle.verity_promise.specs.declared.answers.AnswerFault.{AnswerFault}
use Rattle.verity_promise.specs.declared.answers.AnswerFault.TheVariants.{Check, Memory}
use Rattle.verity_promise.specs.Answers.{IsMadeOver, AreRightAnswers, offer_of}

nothing : {X : Type 0} (xs : List X) → xs ≡ xs
nothing xs = refl

module _ {D H : Type 0} (data_facts : store.Ghosts D) (hash_facts : store.Ghosts H) (t : Table) (d : D) (h : H) where
  -- the offer of such a verifier is the table line's
  pub same_offer : (v : Verifying D H) → IsMadeOver data_facts hash_facts t d h v → (called : List ℕ)
      → ◌≡◌ {A = Offer} (record {
        name = called;
        size = v.table.data_blocks * v.table.data_block_size;
        block = v.table.data_block_size;
      }) (offer_of t called)
  same_offer v over called = ap (λ (x : Table). offer_of x called) over.table

  module _ {A B : Type 0} (called : List ℕ) (events : List (Event B)) (old new added : List (HubReply A)) (v : Verifying D H)
      (hub hub' : HubState × Verifying D H)
      (over : IsMadeOver data_facts hash_facts t d h v) (same : hub.1 ≡ v)
      (offer : hub.0.offer ≡ record {
        name = called;
        size = v.table.data_blocks * v.table.data_block_size;
        block = v.table.data_block_size;
      })
      (begins : IsAfter (facts_of data_facts hash_facts v) hub.0 [])
      (reads : IsOnlyReading data_facts hash_facts hub.1 hub'.1)
      (replies : new ≡ old ++ added)
      (ran : IsAfter (facts_of data_facts hash_facts hub.1) hub.0 [] → (image : List (List ℕ)) → Fits hub.1.table image
      → EachAfter (AsksOn (IsOnlyReading data_facts hash_facts) (facts_of data_facts hash_facts))
      (λ x. IsRightFor data_facts hash_facts x image) hub.1 hub'.1 hub.0.offer [] events added) where
    -- what each step makes of the verifier
    abbrev Reads : Verifying D H → Verifying D H → Offer → List Step → Event B → HubReply A → Type 0
    Reads now next o k e r = IsOnlyReading data_facts hash_facts now next

    abbrev pub Told : List (List ℕ) → Verifying D H → Offer → Type 0
    Told image x o = EachAfter Reads (λ y. IsRightFor data_facts hash_facts y image) x hub'.1 o [] events added

    pub answered : AreRightAnswers data_facts hash_facts t d h called events old new
    answered = record {
      made = v;
      left = hub'.1;
      over = over;
      reads = subst (λ x. IsOnlyReading data_facts hash_facts x hub'.1) same reads;
      added = added;
      replies = replies;
      right = λ image fits.
          let right : Verifying D H → ℕ → ℕ → Verdict → Type 0 = λ x. IsRightFor data_facts hash_facts x image in
          let done = ran (subst (λ x. IsAfter (facts_of data_facts hash_facts x) hub.0 []) (sym same) begins) image
          (subst (λ (x : Table). Fits x image) (sym (ap (λ (x : Verifying D H). x.table) same ∙ over.table)) fits) in
          let told : Told image hub.1 hub.0.offer =
          each_weaker (AsksOn (IsOnlyReading data_facts hash_facts) (facts_of data_facts hash_facts)) Reads right right (λ x. Unit {0})
          (λ x y o k e r asks good. (tt, asks.0)) (λ x good o l w p. p) hub.1 hub'.1 hub.0.offer [] events added tt done in
          subst (λ (x : Verifying D H). Told image x (offer_of t called)) same
          (subst (λ (o : Offer). Told image hub.1 o) (offer ∙ same_offer v over called) told);
    }

abbrev pub fault_in : AnswerFault → CheckFault
fault_in (Check fault) = fault
fault_in Memory = check.NoMemory

abbrev pub err_in : {T E : Type 0} → E → Result T E → E
err_in other (Err e) = e
err_in other (Ok x) = other

-- the verifier's refusal is answered
pub named : {T : Type 0} (fault which : CheckFault) (P : Type 0) → IsErrOf {T = T} (Err fault) which ↔ P →
    IsErrOf {T = Unit {0}} (Err (Check fault)) (Check which) ↔ P
named {T = T} fault which P h =
    let inner : CheckFault → Result T CheckFault = λ f. Err f in
    let outer : CheckFault → Result (Unit {0}) AnswerFault = λ f. Err (Check f) in (
      λ e. h.0 (ap inner (ap (λ (r : Result (Unit {0}) AnswerFault). fault_in (err_in Memory r)) e)),
      λ p. ap outer (ap (λ (r : Result T CheckFault). err_in check.NoMemory r) (h.1 p)),
    )
