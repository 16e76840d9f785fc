-- What connections of a server over a verifier carried.
use Rattle.std.proofs.Common.{◌≡◌, ℕ, List}
use Rattle.std.proofs.lemmas.List.Elements.{All-weaker}
use Rattle.verity_store.specs.declared.store.BlockStore as store
use Rattle.nbd_session.specs.declared.phase.Phase.TheVariants.{Flags}
use Rattle.nbd_session.specs.Talk.{Verdict, hear}
use Rattle.nbd_session.proofs.Hearing.{Judged-weaker}
use Rattle.nbd_hub.specs.Sessions.{HubState}
use Rattle.nbd_hub.specs.After.{Given}
use Rattle.nbd_hub.proofs.Steps.{Given-later}
use Rattle.nbd_relay.specs.Clients.{Log}
use Rattle.nbd_connection.specs.Connections.{Visits}
use Rattle.nbd_serve.specs.Sockets.{IsOfOne, IsTold, AreGivenBack}
use Rattle.verity_chain.specs.Right.{Fits}
use Rattle.verity_check.specs.Verifier.{Verifying, IsOnlyReading, IsVerifier}
use Rattle.verity_hub.specs.Verdicts.{facts_of, IsRightFor}
use Rattle.verity_hub.proofs.VerdictLaws.{facts_keep, given_right}

module _ {D H : Type 0} (data_facts : store.Ghosts D) (hash_facts : store.Ghosts H) where
  one_right : (hub : HubState × Verifying D H) → IsVerifier data_facts hash_facts hub.1 → (image : List (List ℕ))
      → Fits hub.1.table image → (log : Log) → IsTold (facts_of data_facts hash_facts) (IsOnlyReading data_facts hash_facts) hub log
      → IsOfOne (IsRightFor data_facts hash_facts hub.1 image) hub.0.offer log
  one_right hub ok image fits log told =
      let o = told.one in
      let s = o.said in
      let v = told.moment in
      let w = hub.1 in
      let right : (offset len : ℕ) (verdict : Verdict) → Given (facts_of data_facts hash_facts v) offset len verdict
      → IsRightFor data_facts hash_facts w image offset len verdict = λ offset len verdict given. given_right data_facts hash_facts w ok
      image fits offset len verdict (Given-later (facts_of data_facts hash_facts v) (facts_of data_facts hash_facts w)
      (facts_keep data_facts hash_facts v w told.before) offset len verdict given) in
      record {
        client = o.client;
        read = o.read;
        late = o.late;
        held = o.held;
        received = o.received;
        said = record {
          fed = s.fed;
          parts = s.parts;
          verdicts = s.verdicts;
          judged = Judged-weaker (Given (facts_of data_facts hash_facts v)) (IsRightFor data_facts hash_facts w image)
              (hear hub.0.offer Flags s.fed).answers s.verdicts right s.judged;
          exact = s.exact;
          begins = s.begins;
          whole = s.whole;
        };
      }

  pub all_right : (hub : HubState × Verifying D H) → IsVerifier data_facts hash_facts hub.1 → (image : List (List ℕ))
      → Fits hub.1.table image → (old new : Visits)
      → AreGivenBack (IsTold (facts_of data_facts hash_facts) (IsOnlyReading data_facts hash_facts) hub) old new
      → AreGivenBack (IsOfOne (IsRightFor data_facts hash_facts hub.1 image) hub.0.offer) old new
  all_right hub ok image fits old new back = record {
    gone = back.gone;
    closed = back.closed;
    accepted = back.accepted;
    told = All-weaker (IsTold (facts_of data_facts hash_facts) (IsOnlyReading data_facts hash_facts) hub)
        (IsOfOne (IsRightFor data_facts hash_facts hub.1 image) hub.0.offer) (λ log. one_right hub ok image fits log) back.gone back.told;
  }
