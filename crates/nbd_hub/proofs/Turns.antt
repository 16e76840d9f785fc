-- A stream, turn after turn.
use Rattle.std.proofs.Common.{◌≡◌, ◌↔◌, ◌≤◌, ◌<◌, ◌*◌, length, length-append, ℕ, Bool, true, false, List, [], ◌∷◌, ◌++◌, Option}
use Rattle.std.proofs.Common.{Some, Result, Ok, Err, is_err, IfErr, OnErr, OnOk, inl, inr, refl, sym, ap, ◌∙◌, subst, arith, append_assoc}
use Rattle.std.proofs.Common.{append-nil}
use Rattle.std.proofs.lemmas.Bool.{cases_eq, eq-eqb, ne_eqb}
use Rattle.std.specs.Io.KnownBytes.{Consumes, Appends}
use Rattle.std.proofs.KnownBytes.{Appends-trans, Consumes-trans}
use Rattle.nbd_session.specs.declared.phase.Phase.TheVariants as phase
use Rattle.nbd_session.specs.declared.offer.Offer.{Offer}
use Rattle.nbd_session.specs.declared.status.Status.{Status}
use Rattle.nbd_session.specs.Handshake.{greeting}
use Rattle.nbd_session.specs.Talk.{hear}
use Rattle.nbd_session.specs.Session.{State, IsAt, TalksOn, Talked, Feeds}
use Rattle.nbd_session.specs.Export.{Facts, Keeps, Fair}
use Rattle.nbd_session.proofs.Hearing.{Judged-weaker}
use Rattle.nbd_session.proofs.Moving.{Fair-later, Keeps-refl, counted_none}
use Rattle.nbd_session.proofs.Feeding.{talked_on}
use Rattle.nbd_hub.specs.declared.fault.ServeFault.{ServeFault}
use Rattle.nbd_hub.specs.declared.fault.ServeFault.TheVariants as fault
use Rattle.nbd_hub.specs.Sessions.{Entry, HubState, lookup, SetsOnly}
use Rattle.nbd_hub.specs.History.{Step, Opening, Feeding, Ending, Refusal}
use Rattle.nbd_hub.specs.After.{IsAfter, FedAfter}
use Rattle.nbd_hub.specs.Failures.{FailsToWrite}
use Rattle.nbd_hub.specs.Stream.{HasEnded, IsTaken, turn_bytes, Ends, Moved, Served, Answers, Exchanged, AllFeed, TurnedAfter}
use Rattle.nbd_hub.proofs.Outcomes.{phase_is}

pub talked_first : (a : Facts) (offer : Offer) → Talked a a offer [] greeting
talked_first a offer = record { verdicts = []; judged = tt; counted = counted_none a a (Keeps-refl a); exact = sym (append-nil greeting) }

pub talked_later : (a b c : Facts) (offer : Offer) (input said : List ℕ) → Keeps b c → Talked a b offer input said →
    Talked a c offer input said
talked_later a b c offer input said l t = record {
  verdicts = t.verdicts;
  judged = Judged-weaker (Fair a b) (Fair a c) (hear offer phase.Flags input).answers t.verdicts (Fair-later a b c l) t.judged;
  counted = λ content s. let h = t.counted content s in let k = l.failures in omega arith;
  exact = t.exact;
}

pub moved_on : (r r' r'' w w' w'' : Option (List ℕ)) (input wrote piece bytes : List ℕ)
    → Moved (record { reader = r; reader' = r'; writer = w; writer' = w' }) input wrote → Consumes r' r'' piece → Appends w' w'' bytes
    → Moved (record { reader = r; reader' = r''; writer = w; writer' = w'' }) (input ++ piece) (wrote ++ bytes)
moved_on r r' r'' w w' w'' input wrote piece bytes m x y =
    record { reads = Consumes-trans r r' r'' input piece m.reads x; writes = Appends-trans w w' w'' wrote bytes m.writes y }

-- at an offer that is the same
talks_at : (b c : Facts) (o o' : Offer) (input piece bytes : List ℕ) → o ≡ o' → TalksOn b c o input piece [] bytes →
    TalksOn b c o' input piece [] bytes
talks_at b c o o' input piece bytes e t = let P : Offer → Type 0 = λ z. TalksOn b c z input piece [] bytes in subst P e t

pub ended_if : (over : Bool) (offer : Offer) (s : State) (input : List ℕ) → s.offer ≡ offer → s.starved ≡ false → IsAt s input →
    ((over ≡ true) ↔ (s.phase ≡ phase.Ended)) → over ≡ true → HasEnded offer input
ended_if over offer s input e a at i t = sym (phase_is offer s input e a at) ∙ i.0 t

pub open_if : (over : Bool) (offer : Offer) (s : State) (input : List ℕ) → s.offer ≡ offer → s.starved ≡ false → IsAt s input →
    ((over ≡ true) ↔ (s.phase ≡ phase.Ended)) → over ≡ false → HasEnded offer input → ⊥
open_if over offer s input e a at i f h = let t : over ≡ true = i.1 (phase_is offer s input e a at ∙ h) in let q : true ≡ false =
    sym t ∙ f in absurd (let z : ⊥ = cc in z)

pub sets_on : (first mid last : List Entry) (id : ℕ) (s t : Option State) → SetsOnly first mid id s → SetsOnly mid last id t →
    SetsOnly first last id t
sets_on first mid last id s t f g j =
    elim (cases_eq j id) [
      | inl h ↦ g j ∙ rw (eq-eqb j id h) refl
      | inr h ↦ g j ∙ rw (ne_eqb j id h) (f j ∙ rw (ne_eqb j id h) refl)
    ]

pub sets_at : (first mid : List Entry) (id : ℕ) (s : Option State) → SetsOnly first mid id s → lookup id mid ≡ s
sets_at first mid id s f = f id ∙ rw (eq-eqb id id refl) refl

pub sets_none : (first : List Entry) (id : ℕ) (s : Option State) → lookup id first ≡ s → SetsOnly first first id s
sets_none first id s e j =
    elim (cases_eq j id) [
      | inl h ↦ ap (λ k. lookup k first) h ∙ e ∙ sym (rw (eq-eqb j id h) refl)
      | inr h ↦ sym (rw (ne_eqb j id h) refl)
    ]

pub some_is : (s t : State) → Some s ≡ Some t → s ≡ t
some_is s t e = cc

pub on_err : {X E : Type 0} (r : Result X E) (P : Type 0) → true ≡ is_err r → OnErr r P → P
on_err (Ok x) P e h = absurd (let q : ⊥ = cc in q)
on_err (Err x) P e h = h

pub on_ok : {X E : Type 0} (r : Result X E) (P : Type 0) → false ≡ is_err r → OnOk r P → P
on_ok (Ok x) P e h = h
on_ok (Err x) P e h = absurd (let q : ⊥ = cc in q)

-- where bytes were written, no write failed
pub unfailed : {X : Type 0} (r : Result X ServeFault) (old new : ℕ) → false ≡ is_err r → FailsToWrite old new r → new ≡ old
unfailed (Ok x) old new e h = h
unfailed (Err x) old new e h = absurd (let q : ⊥ = cc in q)

-- where the writer's fault is told, a write failed
pub failed : (X : Type 0) (f : ServeFault) (old new : ℕ) → f ≡ fault.Write → FailsToWrite {T = X} old new (Err f) → old < new
failed X f old new e h = let P : ServeFault → Type 0 = λ z. FailsToWrite {T = X} old new (Err z) in subst P e h

pub failed_at : {X : Type 0} (r : Result X ServeFault) (old new : ℕ) → true ≡ is_err r → IfErr r (λ f. f ≡ fault.Write) →
    FailsToWrite old new r → old < new
failed_at (Ok x) old new e i h = absurd (let q : ⊥ = cc in q)
failed_at {X = X} (Err f) old new e i h = failed X f old new i h

-- what was read in turns that went well
pub taken_at : (offer : Offer) (limit turn : ℕ) (input : List ℕ) → (HasEnded offer input → ⊥) → length input ≤ turn_bytes * turn →
    turn ≤ limit → IsTaken offer limit input
taken_at offer limit turn input going few l =
    record { front = input; piece = []; parts = sym (append-nil input); short = omega arith; going = going; few = omega (arith, few, l) }

-- and in one more
pub taken_on : (offer : Offer) (limit turn : ℕ) (input piece : List ℕ) → (HasEnded offer input → ⊥) →
    length input ≤ turn_bytes * turn → turn < limit → length piece ≤ turn_bytes
    → IsTaken offer limit (input ++ piece)
taken_on offer limit turn input piece going few l k =
    record {
      front = input;
      piece = piece;
      parts = refl;
      short = k;
      going = going;
      few = omega (arith, few, l, k, length-append input piece);
    }

-- an exchange that failed
pub served_err : (a b c : Facts) (offer : Offer) (before after : State) (r r' r'' w w' w'' : Option (List ℕ)) (limit : ℕ)
    (input wrote piece : List ℕ) (f : ServeFault) → Keeps a b → Keeps b c → before.offer ≡ offer
    → Moved (record { reader = r; reader' = r'; writer = w; writer' = w' }) input wrote → Talked a b offer input wrote →
    IsAt before input → Consumes r' r'' piece → IsTaken offer limit (input ++ piece)
    → Exchanged b c before after piece w' w'' (Err f) →
    Served a c offer (record { reader = r; reader' = r''; writer = w; writer' = w'' }) limit (Err f)
served_err a b c offer before after r r' r'' w w' w'' limit input wrote piece fault.Write k l o m t at x i e =
    let d = e.3 input at in (
      input ++ piece,
      wrote ++ e.0,
      e.1,
      moved_on r r' r'' w w' w'' input wrote piece e.0 m x e.2,
      (let P : List ℕ → Type 0 = λ y. Talked a c offer (input ++ piece) y in
          subst P (sym (append_assoc wrote e.0 e.1)) (talked_on a b c offer input piece wrote (e.0 ++ e.1) k l t
          (talks_at b c before.offer offer input piece (e.0 ++ e.1) o d.1))),
      i,
    )
served_err a b c offer before after r r' r'' w w' w'' limit input wrote piece fault.Starved k l o m t at x i e = (
  input,
  piece,
  wrote,
  (let P : List ℕ → Type 0 = λ y. Moved (record { reader = r; reader' = r''; writer = w; writer' = w'' }) (input ++ piece) y in
      subst P (append-nil wrote) (moved_on r r' r'' w w' w'' input wrote piece [] m x e)),
  talked_later a b c offer input wrote l t,
  i,
)
served_err a b c offer before after r r' r'' w w' w'' limit input wrote piece fault.Read k l o m t at x i e = absurd e
served_err a b c offer before after r r' r'' w w' w'' limit input wrote piece fault.Turns k l o m t at x i e = absurd e
served_err a b c offer before after r r' r'' w w' w'' limit input wrote piece (fault.Hub f) k l o m t at x i e = absurd e

-- one turn that went well
pub record Turned (a c : Facts) (offering : Offer) (e : Ends) (after : State) (input said : List ℕ) : Type 0 where
  pub moved : Moved e input said
  pub talked : Talked a c offering input said
  pub at : IsAt after input

pub turned : (a b c : Facts) (offer : Offer) (before after : State) (r r' r'' w w' w'' : Option (List ℕ))
    (input said piece bytes : List ℕ) → Keeps a b → Keeps b c → before.offer ≡ offer
    → Moved (record { reader = r; reader' = r'; writer = w; writer' = w' }) input said → Talked a b offer input said →
    IsAt before input → Consumes r' r'' piece → Appends w' w'' bytes
    → Answers b c before after piece bytes
    → Turned a c offer (record { reader = r; reader' = r''; writer = w; writer' = w'' }) after (input ++ piece) (said ++ bytes)
turned a b c offer before after r r' r'' w w' w'' input said piece bytes k l o m t at x y z =
    let d = z input at in
    record {
      moved = moved_on r r' r'' w w' w'' input said piece bytes m x y;
      talked = talked_on a b c offer input piece said bytes k l t (talks_at b c before.offer offer input piece bytes o d.1);
      at = d.0;
    }

-- a feed that appended to nothing
pub feeds_from : (a b : Facts) (before after : State) (piece out out' bytes : List ℕ) (s : Status) → out ≡ [] → out' ≡ bytes →
    Feeds a b before after piece out out' s → Feeds a b before after piece [] bytes s
feeds_from a b before after piece out out' bytes s e q f =
    let P : List ℕ → Type 0 = λ x. Feeds a b before after piece x bytes s in
    let R : List ℕ → Type 0 = λ x. Feeds a b before after piece out x s in
    subst P e (subst R q f)

-- the history

AllFeed-append : (id : ℕ) (xs ys : List Step) → AllFeed id xs → AllFeed id ys → AllFeed id (xs ++ ys)
AllFeed-append id [] ys f g = g
AllFeed-append id (Opening k bytes ∷ xs) ys f g = absurd f
AllFeed-append id (Feeding k piece status bytes ∷ xs) ys f g = (f.0, AllFeed-append id xs ys f.1 g)
AllFeed-append id (Ending k ∷ xs) ys f g = absurd f
AllFeed-append id (Refusal ∷ xs) ys f g = absurd f

pub turned_first : (a : Facts) (hub : HubState) (h : List Step) (id : ℕ) → IsAfter a hub h → TurnedAfter a hub h id
turned_first a hub h id x = let P : List Step → Type 0 = λ z. IsAfter a hub z in
    record { feedings = []; feeds = tt; after = subst P (sym (append-nil h)) x }

pub turned_fed : (b : Facts) (hub : HubState) (h : List Step) (id : ℕ) (piece out out' : List ℕ) (s : Status) →
    FedAfter b hub h id piece s out out' → TurnedAfter b hub h id
turned_fed b hub h id piece out out' s f = record { feedings = Feeding id piece s f.said ∷ []; feeds = (refl, tt); after = f.after }

pub turned_on : (a b : Facts) (hub hub' : HubState) (h : List Step) (id : ℕ) → TurnedAfter a hub h id →
    ((g : List Step) → IsAfter a hub g → TurnedAfter b hub' g id) → TurnedAfter b hub' h id
turned_on a b hub hub' h id t f =
    let u = f (h ++ t.feedings) t.after in
    let P : List Step → Type 0 = λ z. IsAfter b hub' z in
    record {
      feedings = t.feedings ++ u.feedings;
      feeds = AllFeed-append id t.feedings u.feedings t.feeds u.feeds;
      after = subst P (append_assoc h t.feedings u.feedings) u.after;
    }
