-- A hub after one more step, by what was done.
use Rattle.std.proofs.Common.{◌≡◌, ◌≢◌, ◌↔◌, ◌⊎◌, ◌<◌, ◌+◌, ℕ, false, true, nat_eq, List, [], ◌∷◌, ◌++◌, Option, Some, None, length, inl}
use Rattle.std.proofs.Common.{inr, refl, sym, ◌∙◌, subst, arith, eq-eqb, append-nil}
use Rattle.std.proofs.lemmas.Bool.{cases_Bool, cases_eq, ne_eqb}
use Rattle.nbd_session.specs.declared.status.Status.{Status}
use Rattle.nbd_session.specs.declared.status.Status.TheVariants as status
use Rattle.nbd_session.specs.declared.phase.Phase.{Phase}
use Rattle.nbd_session.specs.declared.phase.Phase.TheVariants as phase
use Rattle.nbd_session.specs.declared.offer.Offer.{Offer}
use Rattle.nbd_session.specs.Handshake.{greeting}
use Rattle.nbd_session.specs.Talk.{hear, replies}
use Rattle.nbd_session.specs.Session.{State, IsAt, TalksOn, added}
use Rattle.nbd_session.specs.Export.{Facts, Keeps}
use Rattle.nbd_session.proofs.Moving.{Keeps-refl}
use Rattle.nbd_hub.specs.History.{Step, Opening, Feeding, Ending, Refusal, Nothing, Takes, taken_by, taken, own, starved, said}
use Rattle.nbd_hub.specs.History.{opened, closed, ends, open_count, IsOpen}
use Rattle.nbd_hub.specs.Sessions.{HubState, lookup, SetsOnly, OpensOne, FeedsOne, EndsOne}
use Rattle.nbd_hub.specs.After.{IsStatus, Stands, IsAfter, OpenedAfter, FedAfter, EndedAfter}
use Rattle.nbd_hub.proofs.Snoc.{opened-append, closed-append}
use Rattle.nbd_hub.proofs.Steps.{same, Knows, knows, knows_same, knows_starved, knows_fed, knows_opened, knows_ended}

pub keeps_at : {X : Type 0} (facts : X → Facts) (x y : X) → x ≡ y → Keeps (facts x) (facts y)
keeps_at {X} facts x y e = let P : X → Type 0 = λ z. Keeps (facts x) (facts z) in subst P e (Keeps-refl (facts x))

-- what was known stays known, at what the export has come to
later : (a b : Facts) (offer : Offer) (h : List Step) (k : ℕ) (o : Option State) → Keeps a b → Knows a offer h k o → Knows b offer h k o
later a b offer h k o keeps x = knows_same a b offer h h k o keeps (record {
  own_is = refl;
  output_is = refl;
  starved_is = refl;
  ended_is = refl;
}) (λ y. y) (λ y. y) x

-- whoever knows of each session knows of the hub
together : (b : Facts) (offer : Offer) (hub : HubState) (h : List Step) → hub.offer ≡ offer → hub.next ≡ opened h →
    length hub.sessions + closed h ≡ opened h
    → ((k : ℕ) → Knows b offer h k (lookup k hub.sessions)) → IsAfter b hub h
together b offer hub h e n c x =
    let P : Offer → Type 0 = λ o. (k : ℕ) → Knows b o h k (lookup k hub.sessions) in
    let q = subst P (sym e) x in
    record { next = n; count = c; sessions = λ k. (q k).stands; told = λ k. (q k).told; fresh = λ k. (q k).fresh }

-- what a hub was after, it is after still
pub after_warmed : (a b : Facts) (hub : HubState) (h : List Step) → Keeps a b → IsAfter a hub h → IsAfter b hub h
after_warmed a b hub h keeps x = together b hub.offer hub h refl x.next x.count
    (λ k. later a b hub.offer h k (lookup k hub.sessions) keeps (knows a hub h x k))

-- a session of another number
other : (a b : Facts) (offer : Offer) (h : List Step) (s : Step) (k : ℕ) (o o' : Option State) → Keeps a b
    → taken s k ≡ Nothing → said s k ≡ [] → ends s k ≡ false → (k < opened (h ++ s ∷ []) → k < opened h) → o' ≡ o →
    Knows a offer h k o → Knows b offer (h ++ s ∷ []) k o'
other a b offer h s k o o' keeps t w n f eq x =
    let P : Option State → Type 0 = λ y. Knows b offer (h ++ s ∷ []) k y in
    let m = opened-append h (s ∷ []) in
    subst P (sym eq) (knows_same a b offer h (h ++ s ∷ []) k o keeps (same h s k t w n) f (λ y. omega arith) x)

pub after_refused : (a : Facts) (hub : HubState) (h : List Step) → IsAfter a hub h → IsAfter a hub (h ++ Refusal ∷ [])
after_refused a hub h x =
    let m : opened (h ++ Refusal ∷ []) ≡ opened h + 0 = opened-append h (Refusal ∷ []) in
    let w : closed (h ++ Refusal ∷ []) ≡ closed h + 0 = closed-append h (Refusal ∷ []) in
    let p = x.next in
    let q = x.count in
    together a hub.offer hub (h ++ Refusal ∷ []) refl (omega arith) (omega arith)
    (λ k. other a a hub.offer h Refusal k (lookup k hub.sessions) (lookup k hub.sessions) (Keeps-refl a) refl refl refl
    (λ y. omega arith) refl (knows a hub h x k))

-- whose session is looked up is open
open_at : (a : Facts) (hub : HubState) (h : List Step) (id : ℕ) (s : State) → IsAfter a hub h → lookup id hub.sessions ≡ Some s →
    Stands h id (Some s)
open_at a hub h id s x e = let P : Option State → Type 0 = λ o. Stands h id o in subst P e (x.sessions id)

pub not_open : (a : Facts) (hub : HubState) (h : List Step) (id : ℕ) → IsAfter a hub h → lookup id hub.sessions ≡ None → IsOpen h id → ⊥
not_open a hub h id x e = let P : Option State → Type 0 = λ o. Stands h id o in subst P e (x.sessions id)

pub how_many : (a : Facts) (hub : HubState) (h : List Step) → IsAfter a hub h → open_count h ≡ length hub.sessions
how_many a hub h x = let q = x.count in omega arith

ne_sym : (j k : ℕ) → (j ≡ k → ⊥) → k ≡ j → ⊥
ne_sym j k h e = h (sym e)

pub after_opened : (a b : Facts) (hub hub' : HubState) (h : List Step) (id : ℕ) → Keeps a b → OpensOne hub hub' id →
    IsAfter a hub h → OpenedAfter b hub' h id
after_opened a b hub hub' h id keeps o x =
    let s : Step = Opening id greeting in
    let m : opened (h ++ s ∷ []) ≡ opened h + 1 = opened-append h (s ∷ []) in
    let w : closed (h ++ s ∷ []) ≡ closed h + 0 = closed-append h (s ∷ []) in
    let p = x.next in
    let q = x.count in
    let n = o.next in
    let i = o.number in
    let c = o.count in
    let P : (k : ℕ) → Option State → Type 0 = λ k y. Knows b hub.offer (h ++ s ∷ []) k y in
    record {
      number = omega arith;
      after = together b hub.offer hub' (h ++ s ∷ []) o.offer (omega arith) (omega arith)
          (λ k. elim (cases_eq k id) [
            | inl y ↦
                let K : ℕ → Type 0 = λ j. Knows b hub.offer (h ++ s ∷ []) j (lookup j hub'.sessions) in
                let z : lookup id hub'.sessions ≡ Some o.session = o.sets id ∙ rw (eq-eqb id id refl) refl in
                subst K (sym y) (subst (P id) (sym z) (knows_opened b hub.offer h id o.session (lookup id hub.sessions)
                (omega arith) o.at o.awake (later a b hub.offer h id (lookup id hub.sessions) keeps (knows a hub h x id))))
            | inr y ↦
                let z : lookup k hub'.sessions ≡ lookup k hub.sessions = o.sets k ∙ rw (ne_eqb k id y) refl in
                other a b hub.offer h s k (lookup k hub.sessions) (lookup k hub'.sessions) keeps refl
                (rw (ne_eqb id k (ne_sym k id y)) refl) refl (λ l. omega arith) z (knows a hub h x k)
          ]);
    }

pub after_ended : (a b : Facts) (hub hub' : HubState) (h : List Step) (id : ℕ) → Keeps a b → EndsOne hub hub' id → IsAfter a hub h →
    EndedAfter b hub' h id
after_ended a b hub hub' h id keeps o x =
    let s : Step = Ending id in
    let m : opened (h ++ s ∷ []) ≡ opened h + 0 = opened-append h (s ∷ []) in
    let w : closed (h ++ s ∷ []) ≡ closed h + 1 = closed-append h (s ∷ []) in
    let p = x.next in
    let q = x.count in
    let n = o.next in
    let c = o.count in
    let st = open_at a hub h id o.session x o.found in
    let P : (k : ℕ) → Option State → Type 0 = λ k y. Knows b hub.offer (h ++ s ∷ []) k y in
    record {
      was_open = st.0;
      after = together b hub.offer hub' (h ++ s ∷ []) o.offer (omega arith) (omega arith)
          (λ k. elim (cases_eq k id) [
            | inl y ↦
                let K : ℕ → Type 0 = λ j. Knows b hub.offer (h ++ s ∷ []) j (lookup j hub'.sessions) in
                let z : lookup id hub'.sessions ≡ None = o.sets id ∙ rw (eq-eqb id id refl) refl in
                subst K (sym y) (subst (P id) (sym z) (knows_ended b hub.offer h id (lookup id hub.sessions) st.0
                (later a b hub.offer h id (lookup id hub.sessions) keeps (knows a hub h x id))))
            | inr y ↦
                let z : lookup k hub'.sessions ≡ lookup k hub.sessions = o.sets k ∙ rw (ne_eqb k id y) refl in
                other a b hub.offer h s k (lookup k hub.sessions) (lookup k hub'.sessions) keeps refl refl
                (ne_eqb id k (ne_sym k id y)) (λ l. omega arith) z (knows a hub h x k)
          ]);
    }

fed_other : (a b : Facts) (hub hub' : HubState) (h : List Step) (id : ℕ) (piece bytes : List ℕ) (st : Status) (after : State) →
    Keeps a b → hub'.offer ≡ hub.offer
    → hub'.next ≡ hub.next → length hub'.sessions ≡ length hub.sessions → SetsOnly hub.sessions hub'.sessions id (Some after) →
    IsAfter a hub h
    → Knows b hub.offer (h ++ Feeding id piece st bytes ∷ []) id (Some after)
    → IsAfter b hub' (h ++ Feeding id piece st bytes ∷ [])
fed_other a b hub hub' h id piece bytes st after keeps o n c sets x know =
    let s : Step = Feeding id piece st bytes in
    let m : opened (h ++ s ∷ []) ≡ opened h + 0 = opened-append h (s ∷ []) in
    let w : closed (h ++ s ∷ []) ≡ closed h + 0 = closed-append h (s ∷ []) in
    let p = x.next in
    let q = x.count in
    let P : (k : ℕ) → Option State → Type 0 = λ k y. Knows b hub.offer (h ++ s ∷ []) k y in
    together b hub.offer hub' (h ++ s ∷ []) o (omega arith) (omega arith)
    (λ k. elim (cases_eq k id) [
      | inl y ↦
          let K : ℕ → Type 0 = λ j. Knows b hub.offer (h ++ s ∷ []) j (lookup j hub'.sessions) in
          let z : lookup id hub'.sessions ≡ Some after = sets id ∙ rw (eq-eqb id id refl) refl in
          subst K (sym y) (subst (P id) (sym z) know)
      | inr y ↦
          let z : lookup k hub'.sessions ≡ lookup k hub.sessions = sets k ∙ rw (ne_eqb k id y) refl in
          let f : nat_eq id k ≡ false = ne_eqb id k (ne_sym k id y) in
          other a b hub.offer h s k (lookup k hub.sessions) (lookup k hub'.sessions) keeps (rw f refl) (rw f refl) refl
          (λ l. omega arith) z (knows a hub h x k)
    ])

takes : (s : Status) (piece : List ℕ) → (s ≡ status.Starved → ⊥) → taken_by s piece ≡ Takes piece
takes status.Open piece h = refl
takes status.Ended piece h = refl
takes status.Starved piece h = absurd (h refl)

cases_starved : (s : Status) → (s ≡ status.Starved) ⊎ (s ≡ status.Starved → ⊥)
cases_starved status.Open = inr (λ e. let q : ⊥ = cc in q)
cases_starved status.Ended = inr (λ e. let q : ⊥ = cc in q)
cases_starved status.Starved = inl refl

-- a session of an offer that has come to an input is in the phase that the input leads to
pub phase_is : (offer : Offer) (s : State) (input : List ℕ) → s.offer ≡ offer → s.starved ≡ false → IsAt s input →
    s.phase ≡ (hear offer phase.Flags input).phase
phase_is offer s input e a at = let P : Offer → Type 0 = λ o. s.phase ≡ (hear o phase.Flags input).phase in subst P e (at a).phase

-- what was appended to an output can be appended to none
from_none : (a b : Facts) (offer offer' : Offer) (input piece out out' : List ℕ) → offer ≡ offer' →
    (t : TalksOn a b offer input piece out out')
    → (said : List ℕ) × (out' ≡ out ++ said) × TalksOn a b offer' input piece [] said
from_none a b offer offer' input piece out out' e t =
    let P : Offer → Type 0 = λ o. (said : List ℕ) × (out' ≡ out ++ said) × TalksOn a b o input piece [] said in
    subst P e (
      replies (added offer input piece) t.verdicts,
      t.exact,
      record {
        verdicts = t.verdicts;
        judged = t.judged;
        counted = t.counted;
        spent = t.spent;
        exact = refl;
      },
    )

-- what a fed session said, after the input that it was at
pub talked_between : (a b : Facts) (hub hub' : HubState) (h : List Step) (id : ℕ) (piece out out' : List ℕ) (s : Status)
    → FeedsOne a b hub hub' id piece out out' s → IsAfter a hub h
    → (s ≢ status.Starved → TalksOn a b hub.offer (own h id) piece out out') × (s ≡ status.Starved → out' ≡ out)
talked_between a b hub hub' h id piece out out' s o x =
    let st = open_at a hub h id o.before x o.found in
    let P : Offer → Type 0 = λ y. TalksOn a b y (own h id) piece out out' in
    ((λ y. subst P o.offers (o.feeds.talks y (own h id) st.2)), λ y. (o.feeds.starved y).0)

pub after_fed : (a b : Facts) (hub hub' : HubState) (h : List Step) (id : ℕ) (piece out out' : List ℕ) (s : Status)
    → FeedsOne a b hub hub' id piece out out' s → IsAfter a hub h → FedAfter b hub' h id piece s out out'
after_fed a b hub hub' h id piece out out' s o x =
    let f = o.feeds in
    let st = open_at a hub h id o.before x o.found in
    let W : Option State → Type 0 = λ y. Knows a hub.offer h id y in
    let know = subst W o.found (knows a hub h x id) in
    let O : Offer → Type 0 = λ y. (bytes : List ℕ) × (out' ≡ out ++ bytes) × IsOpen h id ×
    IsStatus y (h ++ Feeding id piece s bytes ∷ []) id s × IsAfter b hub' (h ++ Feeding id piece s bytes ∷ []) in
    let r = subst O (sym o.offer) (elim (cases_starved s) [
      | inl y ↦
          let S : Status → Type 0 = λ z. Knows b hub.offer (h ++ Feeding id piece z [] ∷ []) id (Some o.after) in
          let k = knows_starved a b hub.offer h id piece [] o.before o.after f.keeps refl (f.starved y).1 (f.stays y) know in
          let D : Status → Type 0 = λ z. starved (h ++ Feeding id piece z [] ∷ []) id ≡ true in
          let d : starved (h ++ Feeding id piece s [] ∷ []) id ≡ true = subst D (sym y) k.1 in (
            [],
            (f.starved y).0 ∙ sym (append-nil out),
            st.0,
            record { starved = ((λ z. d), λ z. y); ended = λ z. absurd (z y) },
            fed_other a b hub hub' h id piece [] s o.after f.keeps o.offer o.next o.count o.sets x (subst S (sym y) k.0),
          )
      | inr y ↦
          let awake_before : o.before.starved ≡ false =
          elim (cases_Bool o.before.starved) [ inl z ↦ absurd (y (f.for_good z)) | inr z ↦ z ] in
          let awake : starved h id ≡ false = sym st.1 ∙ awake_before in
          let input = own h id in
          let at = f.at y input st.2 in
          let t = from_none a b o.before.offer hub.offer input piece out out' o.offers (f.talks y input st.2) in
          let k = knows_fed a b hub.offer h id piece t.0 s o.before o.after f.keeps (takes s piece y) awake (f.awake y) at t.2 know in
          let e : Step = Feeding id piece s t.0 in
          let P : List ℕ → Type 0 = λ z. IsAt o.after z in
          let ph : o.after.phase ≡ (hear hub.offer phase.Flags (own (h ++ e ∷ []) id)).phase =
          phase_is hub.offer o.after (own (h ++ e ∷ []) id) (f.offer ∙ o.offers) (f.awake y) (subst P (sym k.1) at) in
          let E : Phase → Type 0 = λ z. (s ≡ status.Ended) ↔ (z ≡ phase.Ended) in (
            t.0,
            t.1,
            st.0,
            record {
              starved = ((λ z. absurd (y z)), λ z. absurd (let q : true ≡ false = sym z ∙ k.2 in let w : ⊥ = cc in w));
              ended = λ z. subst E ph (f.ended y);
            },
            fed_other a b hub hub' h id piece t.0 s o.after f.keeps o.offer o.next o.count o.sets x k.0,
          )
    ]) in
    record { said = r.0; appends = r.1; was_open = r.2; stands = r.3; after = r.4 }
