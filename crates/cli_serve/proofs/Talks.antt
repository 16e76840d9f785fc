-- What a session of `talk` has done.
use Rattle.std.proofs.Common.{◌≡◌, ℕ, List, Result, subst}
use Rattle.verity_store.specs.declared.store.BlockStore as store
use Rattle.nbd_session.specs.declared.offer.Offer.{Offer}
use Rattle.nbd_hub.specs.declared.fault.ServeFault.{ServeFault}
use Rattle.nbd_hub.specs.Sessions.{HubState}
use Rattle.nbd_hub.specs.Stream.{Ends, Served, ServedBy}
use Rattle.verity_superblock.specs.Line.{Line}
use Rattle.verity_chain.specs.Right.{Fits}
use Rattle.verity_check.specs.Verifier.{Verifying, IsOnlyReading}
use Rattle.verity_hub.specs.Verdicts.{facts_of, SaysRight}
use Rattle.cli_arguments.specs.declared.words.talk.TalkWords.{TalkWords}
use Rattle.cli_serve.specs.Opening.{offered, IsJustMade}
use Rattle.cli_serve.specs.Serving.{most_turns, IsTalked}

module _ {D H : Type 0} (data_facts : store.Ghosts D) (hash_facts : store.Ghosts H) where
  pub talked : (ended : Result (Unit {0}) ServeFault) (words : TalkWords) (ends : Ends) (old : HubState × Verifying D H)
      (new : Verifying D H) → Line words.table.now old.1.table → IsJustMade data_facts hash_facts old.1
      → old.0.offer ≡ offered old.1.table words.name.now → IsOnlyReading data_facts hash_facts old.1 new
      → Served (facts_of data_facts hash_facts old.1) (facts_of data_facts hash_facts new) old.0.offer ends most_turns ended
      → ((image : List (List ℕ)) → Fits old.1.table image
      → ServedBy (SaysRight data_facts hash_facts new image old.0.offer) old.0.offer ends most_turns ended)
      → IsTalked data_facts hash_facts words ends ended
  talked ended words ends old new line made offer reads served right =
      let Told : Offer → Type 0 = λ it. Served (facts_of data_facts hash_facts old.1) (facts_of data_facts hash_facts new) it ends
      most_turns ended in
      let Right : Offer → Type 0 = λ it. (image : List (List ℕ)) → Fits old.1.table image
      → ServedBy (SaysRight data_facts hash_facts new image it) it ends most_turns ended in
      record {
        old = old.1;
        new = new;
        line = line;
        made = made;
        reads = reads;
        served = subst Told offer served;
        right = subst Right offer right;
      }
