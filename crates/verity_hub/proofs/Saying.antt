-- What is said over a verifier, by the verdicts of its export.
use Rattle.std.proofs.Common.{◌≡◌, ℕ, List, length, inl, inr, refl}
use Rattle.std.specs.List.{concat}
use Rattle.nbd_session.specs.declared.offer.Offer.{Offer}
use Rattle.nbd_session.specs.declared.phase.Phase.TheVariants.{Flags}
use Rattle.nbd_session.specs.Talk.{Verdict, Bytes, Refused, hear}
use Rattle.nbd_session.specs.Export.{Fair}
use Rattle.nbd_session.specs.Session.{Talked}
use Rattle.nbd_session.proofs.Hearing.{Judged-weaker}
use Rattle.nbd_hub.proofs.Steps.{Fair-Given}
use Rattle.verity_store.specs.declared.store.BlockStore as store
use Rattle.verity_chain.specs.Right.{Fits}
use Rattle.verity_check.specs.Verifier.{Verifying, IsVerifier}
use Rattle.verity_hub.specs.Verdicts.{HoldsFor, facts_of, IsExactFor, IsRightFor, SaysRight, SaysExact}
use Rattle.verity_hub.proofs.VerdictLaws.{given_right}

module _ {D H : Type 0} (data_facts : store.Ghosts D) (hash_facts : store.Ghosts H) where
  pub says_right : (v w : Verifying D H) → IsVerifier data_facts hash_facts w → (image : List (List ℕ)) → Fits w.table image →
      (offer : Offer) (input said : List ℕ)
      → Talked (facts_of data_facts hash_facts v) (facts_of data_facts hash_facts w) offer input said →
      SaysRight data_facts hash_facts w image offer input said
  says_right v w ok image fits offer input said t =
      let a = facts_of data_facts hash_facts v in
      let b = facts_of data_facts hash_facts w in
      record {
        verdicts = t.verdicts;
        judged = Judged-weaker (Fair a b) (IsRightFor data_facts hash_facts w image) (hear offer Flags input).answers t.verdicts
            (λ o l x f. given_right data_facts hash_facts w ok image fits o l x (Fair-Given a b o l x f)) t.judged;
        exact = t.exact;
      }

  fair_exact : (v w : Verifying D H) (image : List (List ℕ)) → HoldsFor data_facts hash_facts v image → (offset len : ℕ) (x : Verdict)
      → Fair (facts_of data_facts hash_facts v) (facts_of data_facts hash_facts w) offset len x → IsExactFor image offset len x
  fair_exact v w image h offset len (Bytes bytes) f = (f.exact, f.content (concat image) (image, h, refl))
  fair_exact v w image h offset len (Refused error) (inl e) = inl e.0
  fair_exact v w image h offset len (Refused error) (inr e) = inr e.0

  pub says_exact : (v w : Verifying D H) (image : List (List ℕ)) → HoldsFor data_facts hash_facts v image →
      (offer : Offer) (input said : List ℕ)
      → Talked (facts_of data_facts hash_facts v) (facts_of data_facts hash_facts w) offer input said →
      SaysExact data_facts hash_facts v w image offer input said
  says_exact v w image h offer input said t = record {
    verdicts = t.verdicts;
    judged = Judged-weaker (Fair (facts_of data_facts hash_facts v) (facts_of data_facts hash_facts w)) (IsExactFor image)
        (hear offer Flags input).answers t.verdicts (fair_exact v w image h) t.judged;
    counted = t.counted (concat image) (image, h, refl);
    exact = t.exact;
  }
