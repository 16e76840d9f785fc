-- One client of an edited volume.
use Rattle.std.proofs.Common.{◌≡◌, ◌*◌, ◌⊎◌, false, ℕ, List, refl, sym, ap, ◌∙◌, subst}
use Rattle.std.specs.Prelude.{Result, Ok, Err, Some, None, IfOk, IfErr, IfSome, is_err}
use Rattle.std.proofs.lemmas.Bool.{true≢false}
use Rattle.nbd_hub.specs.declared.fault.ServeFault.{ServeFault}
use Rattle.nbd_hub.specs.Sessions.{HubState}
use Rattle.nbd_hub.specs.Stream.{Ends, ServedBy}
use Rattle.verity_store.specs.declared.store.BlockStore as store
use Rattle.verity_edit.specs.declared.command.Command.{Command}
use Rattle.verity_edit.specs.declared.command.Reply.{Reply}
use Rattle.verity_chain.specs.Table.{Table}
use Rattle.verity_chain.specs.Right.{Fits}
use Rattle.verity_check.specs.Holds.{Holds}
use Rattle.verity_check.specs.Verifier.{Verifying, IsOnlyReading}
use Rattle.verity_hub.specs.Verdicts.{HoldsFor, SaysRight, SaysExact}
use Rattle.verity_promise.specs.declared.edited.Edited.{Edited}
use Rattle.verity_promise.specs.declared.delivery.Unserved.{Unserved}
use Rattle.verity_promise.specs.declared.delivery.Unserved.TheVariants as unserved
use Rattle.verity_promise.specs.Scratch.{IsEdited}
use Rattle.verity_promise.specs.Closing.{IsServed}
use Rattle.verity_promise.specs.Answers.{IsMadeOver, offer_of}
use Rattle.verity_promise.specs.Delivery.{Delivers, ExplainsUnmade, ExplainsUnserved}
use Rattle.verity_promise.proofs.Answered.{same_offer}

-- what is said of a value follows
pub if_ok : {X E : Type 0} (r : Result X E) (P Q : X → Type 0) → ((x : X) → P x → Q x) → IfOk r P → IfOk r Q
if_ok (Ok x) P Q f h = f x h
if_ok (Err e) P Q f h = tt

pub done_ok : {E : Type 0} (r : Result (Unit {0}) E) → is_err r ≡ false → r ≡ Ok tt
done_ok (Ok x) e = refl
done_ok (Err x) e = absurd (true≢false e)

pub if_err : {X E : Type 0} (r : Result X E) (P Q : E → Type 0) → ((e : E) → P e → Q e) → IfErr r P → IfErr r Q
if_err (Ok x) P Q f h = tt
if_err (Err e) P Q f h = f e h

module _ {D H A : Type 0} (data_facts : store.Ghosts D) (hash_facts : store.Ghosts H) (left : Edited D H A) (called : List ℕ)
    (ends : Ends) (limit : ℕ) (result : Result (Unit {0}) ServeFault) where
  module _ (done : left.done ≡ Ok tt) (t : Table) (table : left.table ≡ Some t) (v : Verifying D H) (hub hub' : HubState × Verifying D H)
      (over : IsMadeOver data_facts hash_facts t left.data_store left.hash_store v) (same : hub.1 ≡ v)
      (offer : hub.0.offer ≡ record {
        name = called;
        size = v.table.data_blocks * v.table.data_block_size;
        block = v.table.data_block_size;
      })
      (reads : IsOnlyReading data_facts hash_facts hub.1 hub'.1)
      (right : (image : List (List ℕ)) → Fits hub.1.table image →
      ServedBy (SaysRight data_facts hash_facts hub'.1 image hub.0.offer) hub.0.offer ends limit result)
      (exact : (image : List (List ℕ)) → HoldsFor data_facts hash_facts hub.1 image →
      ServedBy (SaysExact data_facts hash_facts hub.1 hub'.1 image hub.0.offer) hub.0.offer ends limit result) where
    offered : hub.0.offer ≡ offer_of t called
    offered = offer ∙ same_offer data_facts hash_facts t left.data_store left.hash_store v over called

    pub served_by : IsServed data_facts hash_facts called ends limit result left
    served_by = record {
      done = done;
      t = t;
      table = table;
      old = v;
      new = hub'.1;
      over = over;
      reads = subst (λ x. IsOnlyReading data_facts hash_facts x hub'.1) same reads;
      right = λ image fits. subst (λ o. ServedBy (SaysRight data_facts hash_facts hub'.1 image o) o ends limit result) offered
          (right image (subst (λ (x : Table). Fits x image) (sym (ap (λ (x : Verifying D H). x.table) same ∙ over.table)) fits));
      exact = λ image holds. subst (λ x. ServedBy (SaysExact data_facts hash_facts x hub'.1 image (offer_of t called))
          (offer_of t called) ends limit result) same
          (subst (λ o. ServedBy (SaysExact data_facts hash_facts hub.1 hub'.1 image o) o ends limit result) offered
          (exact image (subst (λ x. HoldsFor data_facts hash_facts x image) (sym same) holds)));
    }

  module _ {C : Type 0} (d : D) (h : H) (offset : ℕ) (commands : List (Command C)) (old_replies new_replies : List Reply)
      (edited : IsEdited data_facts hash_facts d h offset commands old_replies new_replies left) where
    -- what was committed is what is served
    pub delivers : IsServed data_facts hash_facts called ends limit result left →
        Delivers data_facts hash_facts called ends limit result A d h offset commands old_replies new_replies
    delivers s = record {
      left = left;
      edited = edited;
      done = s.done;
      t = s.t;
      table = s.table;
      made = s.old;
      after = s.new;
      over = s.over;
      reads = s.reads;
      right = s.right;
      exact = λ data_told hash_told.
          let e = edited.scratch data_told hash_told in
          let image : List (List ℕ) = e.state.edits.committed in
          let P : Table → Type 0 = λ t. (e.state.broken ≡ false) ×
          Holds t (data_facts.tells left.data_store) (data_facts.content left.data_store) (hash_facts.tells left.hash_store)
          (hash_facts.content left.hash_store) image in
          let line : P s.t = subst (λ z. IfSome z P) s.table e.table in
          s.exact image
          (subst (λ x. Holds x (data_facts.tells s.old.data_store) (data_facts.content s.old.data_store)
          (hash_facts.tells s.old.hash_store) (hash_facts.content s.old.hash_store) image) (sym s.over.table)
          (subst (λ x. Holds s.t (data_facts.tells x) (data_facts.content x) (hash_facts.tells s.old.hash_store)
          (hash_facts.content s.old.hash_store) image) (sym s.over.data_store)
          (subst (λ x. Holds s.t (data_facts.tells left.data_store) (data_facts.content left.data_store) (hash_facts.tells x)
          (hash_facts.content x) image) (sym s.over.hash_store) line.1)));
    }

    pub explains : (u : Unserved D H A) → ExplainsUnmade left u →
        ExplainsUnserved data_facts hash_facts d h offset commands old_replies new_replies u
    explains (unserved.Opened r) why = absurd why
    explains (unserved.Edited same) why =
        subst (λ (x : Edited D H A). IsEdited data_facts hash_facts d h offset commands old_replies new_replies x ×
        ((x.done ≡ Ok tt → ⊥) ⊎ (x.table ≡ None))) (sym why.0) (edited, why.1)
    explains (unserved.Check fault) why = (why, (left, edited))

module _ {D H A C : Type 0} (data_facts : store.Ghosts D) (hash_facts : store.Ghosts H) (left : Edited D H A) (called : List ℕ)
    (ends : Ends) (limit : ℕ)
    (d : D) (h : H) (offset : ℕ) (commands : List (Command C)) (old_replies new_replies : List Reply)
    (edited : IsEdited data_facts hash_facts d h offset commands old_replies new_replies left)
    (r : Result (Result (Unit {0}) ServeFault) (Unserved D H A)) where
  pub all_delivered : IfOk r (λ served. IsServed data_facts hash_facts called ends limit served left)
      → IfOk r (λ served. Delivers data_facts hash_facts called ends limit served A d h offset commands old_replies new_replies)
  all_delivered s = if_ok r _ _ (λ served x. delivers data_facts hash_facts left called ends limit served d h offset commands
      old_replies new_replies edited x) s

  pub all_explained : IfErr r (ExplainsUnmade left) →
      IfErr r (ExplainsUnserved data_facts hash_facts d h offset commands old_replies new_replies)
  all_explained s = if_err r _ _ (explains data_facts hash_facts left called ends limit (Ok tt) d h offset commands old_replies
      new_replies edited) s
