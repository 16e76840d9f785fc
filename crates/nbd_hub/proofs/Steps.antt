-- What stays true of one session when a history goes on by one step.
use Rattle.std.proofs.Common.{◌≡◌, ◌<◌, ◌≤◌, ◌+◌, ℕ, false, true, ◌||◌, List, [], ◌∷◌, ◌++◌, Option, Some, None, inl, inr, refl}
use Rattle.std.proofs.Common.{sym, ap, ◌∙◌, subst, arith, append-nil, eq-eqb}
use Rattle.std.proofs.lemmas.Bool.{cases_Bool, cases_lt}
use Rattle.nbd_session.specs.declared.status.Status.{Status}
use Rattle.nbd_session.specs.declared.status.Status.TheVariants as status
use Rattle.nbd_session.specs.declared.phase.Phase.TheVariants as phase
use Rattle.nbd_session.specs.declared.offer.Offer.{Offer}
use Rattle.nbd_session.specs.Handshake.{greeting}
use Rattle.nbd_session.specs.Talk.{Heard, hear, Verdict, Bytes, Refused, Judged, talk, replies}
use Rattle.nbd_session.specs.Session.{State, IsAt, TalksOn, added}
use Rattle.nbd_session.specs.Export.{Facts, Keeps, Fair}
use Rattle.nbd_session.proofs.Hearing.{hear-append, Judged-append, Judged-weaker, talk-append}
use Rattle.nbd_session.proofs.Moving.{Keeps-refl}
use Rattle.nbd_hub.specs.History.{Step, Opening, Feeding, Ending, Nothing, Takes, Starves, taken_by, taken, own, is_starves}
use Rattle.nbd_hub.specs.History.{starved, said, output, opened, ends, ended, IsOpen}
use Rattle.nbd_hub.specs.Sessions.{HubState, lookup}
use Rattle.nbd_hub.specs.After.{Given, IsTold, Stands, IsFresh, IsAfter}
use Rattle.nbd_hub.proofs.Snoc.{piece_of, own-awake, own-starved, starved-snoc, ended-snoc, output-snoc, opened-append, or_false, or_true}

pub Given-later : (a b : Facts) → Keeps a b → (o l : ℕ) (v : Verdict) → Given a o l v → Given b o l v
Given-later a b k o l (Bytes bytes) f = (f.0, k.serve o bytes f.1)
Given-later a b k o l (Refused error) (inl e) = inl (e.0, k.lack o l e.1)
Given-later a b k o l (Refused error) (inr e) = inr (e.0, k.refuse o l e.1)

pub Fair-Given : (a b : Facts) → (o l : ℕ) (v : Verdict) → Fair a b o l v → Given b o l v
Fair-Given a b o l (Bytes bytes) f = (f.exact, f.given)
Fair-Given a b o l (Refused error) (inl e) = inl (e.0, e.1.leave)
Fair-Given a b o l (Refused error) (inr e) = inr (e.0, e.1.leave)

-- nothing new of session k
pub record Same (h h' : List Step) (k : ℕ) : Type 0 where
  pub own_is : own h' k ≡ own h k
  pub output_is : output h' k ≡ output h k
  pub starved_is : starved h' k ≡ starved h k
  pub ended_is : ended h' k ≡ ended h k

pub same : (h : List Step) (s : Step) (k : ℕ) → taken s k ≡ Nothing → said s k ≡ [] → ends s k ≡ false → Same h (h ++ s ∷ []) k
same h s k t o n = record {
  own_is = elim (cases_Bool (starved h k)) [
    | inl x ↦ own-starved h s k x
    | inr x ↦ own-awake h s k x ∙ ap (λ x. own h k ++ piece_of x) t ∙ append-nil (own h k)
  ];
  output_is = output-snoc h s k ∙ ap (λ x. output h k ++ x) o ∙ append-nil (output h k);
  starved_is = starved-snoc h s k ∙ ap (λ x. starved h k || is_starves x) t ∙ or_false (starved h k);
  ended_is = ended-snoc h s k ∙ ap (λ x. ended h k || x) n ∙ or_false (ended h k);
}

pub record Knows (facts : Facts) (offer : Offer) (history : List Step) (k : ℕ) (o : Option State) : Type 0 where
  pub stands : Stands history k o
  pub told : k < opened history → IsTold (Given facts) offer history k
  pub fresh : opened history ≤ k → IsFresh history k

pub knows : (facts : Facts) (hub : HubState) (h : List Step) → IsAfter facts hub h → (k : ℕ) →
    Knows facts hub.offer h k (lookup k hub.sessions)
knows facts hub h a k = record { stands = a.sessions k; told = a.told k; fresh = a.fresh k }

-- the talk of the same input
pub told_same : (a b : Facts) (offer : Offer) (h h' : List Step) (k : ℕ) → Keeps a b → own h' k ≡ own h k →
    output h' k ≡ output h k → IsTold (Given a) offer h k → IsTold (Given b) offer h' k
told_same a b offer h h' k keeps w o t =
    let P : List ℕ → Type 0 = λ x. Judged (Given b) (hear offer phase.Flags x).answers t.verdicts in
    record {
      verdicts = t.verdicts;
      judged = subst P (sym w) (Judged-weaker (Given a) (Given b) (hear offer phase.Flags (own h k)).answers t.verdicts
          (Given-later a b keeps) t.judged);
      exact = o ∙ t.exact ∙ ap (λ x. talk offer x t.verdicts) (sym w);
    }

stands_same : (h h' : List Step) (k : ℕ) (o : Option State) → Same h h' k → (k < opened h' → k < opened h) →
    (k < opened h → k < opened h') → Stands h k o → Stands h' k o
stands_same h h' k None s f g x = λ y. x (f y.0, sym s.ended_is ∙ y.1)
stands_same h h' k (Some session) s f g x =
    let P : List ℕ → Type 0 = λ y. IsAt session y in
    ((g x.0.0, s.ended_is ∙ x.0.1), x.1 ∙ sym s.starved_is, subst P (sym s.own_is) x.2)

first_le : (m n k : ℕ) → (k < m → k < n) → n ≤ k → m ≤ k
first_le m n k g x = elim (cases_lt k m) [ inl h ↦ let q = g h in absurd (omega arith) | inr h ↦ h ]

pub knows_same : (a b : Facts) (offer : Offer) (h h' : List Step) (k : ℕ) (o : Option State) → Keeps a b → Same h h' k
    → (k < opened h' → k < opened h) → (k < opened h → k < opened h') → Knows a offer h k o → Knows b offer h' k o
knows_same a b offer h h' k o keeps s f g x = record {
  stands = stands_same h h' k o s f g x.stands;
  told = λ y. told_same a b offer h h' k keeps s.own_is s.output_is (x.told (f y));
  fresh = λ y.
      let q : opened h ≤ k = first_le (opened h) (opened h') k g y in
      let n = x.fresh q in
      record {
        own_none = s.own_is ∙ n.own_none;
        output_none = s.output_is ∙ n.output_none;
        awake = s.starved_is ∙ n.awake;
        lasts = s.ended_is ∙ n.lasts;
      };
}

-- a piece that starves the session, or comes after one that did
pub knows_starved : (a b : Facts) (offer : Offer) (h : List Step) (id : ℕ) (piece bytes : List ℕ) (before after : State) → Keeps a b
    → bytes ≡ [] → after.starved ≡ true → ((input : List ℕ) → IsAt before input → IsAt after input) → Knows a offer h id (Some before)
    → Knows b offer (h ++ Feeding id piece status.Starved bytes ∷ []) id (Some after)
    × (starved (h ++ Feeding id piece status.Starved bytes ∷ []) id ≡ true)
knows_starved a b offer h id piece bytes before after keeps n s stays x =
    let e : Step = Feeding id piece status.Starved bytes in
    let t : taken e id ≡ Starves = rw (eq-eqb id id refl) refl in
    let o : said e id ≡ bytes = rw (eq-eqb id id refl) refl in
    let own_is : own (h ++ e ∷ []) id ≡ own h id = elim (cases_Bool (starved h id)) [
      | inl y ↦ own-starved h e id y
      | inr y ↦ own-awake h e id y ∙ ap (λ z. own h id ++ piece_of z) t ∙ append-nil (own h id)
    ] in
    let output_is : output (h ++ e ∷ []) id ≡ output h id = output-snoc h e id ∙ ap (λ z. output h id ++ z) (o ∙ n)
    ∙ append-nil (output h id) in
    let starved_is : starved (h ++ e ∷ []) id ≡ true = starved-snoc h e id ∙ ap (λ z. starved h id || is_starves z) t
    ∙ or_true (starved h id) in
    let ended_is : ended (h ++ e ∷ []) id ≡ ended h id = ended-snoc h e id ∙ or_false (ended h id) in
    let m : opened (h ++ e ∷ []) ≡ opened h + 0 = opened-append h (e ∷ []) in
    let w = x.stands.0.0 in
    let P : List ℕ → Type 0 = λ y. IsAt after y in (
      record {
        stands = ((omega arith, ended_is ∙ x.stands.0.1), s ∙ sym starved_is, subst P (sym own_is) (stays (own h id) x.stands.2));
        told = λ y. told_same a b offer h (h ++ e ∷ []) id keeps own_is output_is (x.told w);
        fresh = λ y. absurd (omega arith);
      },
      starved_is,
    )

-- a piece that an awake session takes in
pub knows_fed : (a b : Facts) (offer : Offer) (h : List Step) (id : ℕ) (piece bytes : List ℕ) (s : Status) (before after : State) →
    Keeps a b
    → taken_by s piece ≡ Takes piece → starved h id ≡ false → after.starved ≡ false → IsAt after (own h id ++ piece) →
    TalksOn a b offer (own h id) piece [] bytes
    → Knows a offer h id (Some before)
    → Knows b offer (h ++ Feeding id piece s bytes ∷ []) id (Some after)
    × (own (h ++ Feeding id piece s bytes ∷ []) id ≡ own h id ++ piece)
    × (starved (h ++ Feeding id piece s bytes ∷ []) id ≡ false)
knows_fed a b offer h id piece bytes s before after keeps tk awake awake' at talks x =
    let e : Step = Feeding id piece s bytes in
    let t : taken e id ≡ Takes piece = rw (eq-eqb id id refl) tk in
    let o : said e id ≡ bytes = rw (eq-eqb id id refl) refl in
    let input = own h id in
    let own_is : own (h ++ e ∷ []) id ≡ input ++ piece = own-awake h e id awake ∙ ap (λ z. input ++ piece_of z) t in
    let output_is : output (h ++ e ∷ []) id ≡ output h id ++ bytes = output-snoc h e id ∙ ap (λ z. output h id ++ z) o in
    let starved_is : starved (h ++ e ∷ []) id ≡ false = starved-snoc h e id ∙ ap (λ z. starved h id || is_starves z) t
    ∙ or_false (starved h id) ∙ awake in
    let ended_is : ended (h ++ e ∷ []) id ≡ ended h id = ended-snoc h e id ∙ or_false (ended h id) in
    let m : opened (h ++ e ∷ []) ≡ opened h + 0 = opened-append h (e ∷ []) in
    let w = x.stands.0.0 in
    let told = x.told w in
    let heard = hear offer phase.Flags input in
    let more = added offer input piece in
    let vs = told.verdicts ++ talks.verdicts in
    let P : List ℕ → Type 0 = λ y. IsAt after y in
    let J : Heard → Type 0 = λ y. Judged (Given b) y.answers vs in
    let K : List ℕ → Type 0 = λ y. Judged (Given b) (hear offer phase.Flags y).answers vs in
    let judged : Judged (Given b) (hear offer phase.Flags (input ++ piece)).answers vs =
    subst J (sym (hear-append offer phase.Flags input piece)) (Judged-append (Given b) heard.answers more told.verdicts talks.verdicts
    (Judged-weaker (Given a) (Given b) heard.answers told.verdicts (Given-later a b keeps) told.judged)
    (Judged-weaker (Fair a b) (Given b) more talks.verdicts (Fair-Given a b) talks.judged)) in
    let exact : output h id ++ bytes ≡ talk offer (input ++ piece) vs =
    ap (λ y. output h id ++ y) talks.exact ∙ ap (λ y. y ++ replies more talks.verdicts) told.exact
    ∙ sym (talk-append (Given a) offer input piece told.verdicts talks.verdicts told.judged) in (
      record {
        stands = ((omega arith, ended_is ∙ x.stands.0.1), awake' ∙ sym starved_is, subst P (sym own_is) at);
        told = λ y. record {
          verdicts = vs;
          judged = subst K (sym own_is) judged;
          exact = output_is ∙ exact
              ∙ ap (λ z. talk offer z vs) (sym own_is);
        };
        fresh = λ y. absurd (omega arith);
      },
      own_is,
      starved_is,
    )

-- the first bytes of a session
pub knows_opened : (a : Facts) (offer : Offer) (h : List Step) (id : ℕ) (session : State) (o : Option State)
    → id ≡ opened h → IsAt session [] → session.starved ≡ false → Knows a offer h id o
    → Knows a offer (h ++ Opening id greeting ∷ []) id (Some session)
knows_opened a offer h id session o i at awake x =
    let e : Step = Opening id greeting in
    let said_is : said e id ≡ greeting = rw (eq-eqb id id refl) refl in
    let n = x.fresh (omega arith) in
    let own_is : own (h ++ e ∷ []) id ≡ [] = own-awake h e id n.awake ∙ append-nil (own h id) ∙ n.own_none in
    let output_is : output (h ++ e ∷ []) id ≡ greeting = output-snoc h e id ∙ ap (λ z. z ++ said e id) n.output_none ∙ said_is in
    let starved_is : starved (h ++ e ∷ []) id ≡ false = starved-snoc h e id ∙ or_false (starved h id) ∙ n.awake in
    let ended_is : ended (h ++ e ∷ []) id ≡ false = ended-snoc h e id ∙ or_false (ended h id) ∙ n.lasts in
    let m : opened (h ++ e ∷ []) ≡ opened h + 1 = opened-append h (e ∷ []) in
    let P : List ℕ → Type 0 = λ y. IsAt session y in
    let K : List ℕ → Type 0 = λ y. Judged (Given a) (hear offer phase.Flags y).answers [] in
    record {
      stands = ((omega arith, ended_is), awake ∙ sym starved_is, subst P (sym own_is) at);
      told = λ y. record {
        verdicts = [];
        judged = subst K (sym own_is) tt;
        exact = output_is ∙ sym (append-nil greeting)
            ∙ ap (λ z. talk offer z []) (sym own_is);
      };
      fresh = λ y. absurd (omega arith);
    }

pub knows_ended : (a : Facts) (offer : Offer) (h : List Step) (id : ℕ) (o : Option State)
    → IsOpen h id → Knows a offer h id o → Knows a offer (h ++ Ending id ∷ []) id None
knows_ended a offer h id o was x =
    let e : Step = Ending id in
    let own_is : own (h ++ e ∷ []) id ≡ own h id = elim (cases_Bool (starved h id)) [
      | inl y ↦ own-starved h e id y
      | inr y ↦ own-awake h e id y ∙ append-nil (own h id)
    ] in
    let output_is : output (h ++ e ∷ []) id ≡ output h id = output-snoc h e id ∙ append-nil (output h id) in
    let ended_is : ended (h ++ e ∷ []) id ≡ true = ended-snoc h e id ∙ ap (λ z. ended h id || z) (eq-eqb id id refl)
    ∙ or_true (ended h id) in
    let m : opened (h ++ e ∷ []) ≡ opened h + 0 = opened-append h (e ∷ []) in
    let w = was.0 in
    record {
      stands = λ y. absurd (let f : true ≡ false = sym ended_is ∙ y.1 in let q : ⊥ = cc in q);
      told = λ y. told_same a a offer h (h ++ e ∷ []) id (Keeps-refl a) own_is output_is (x.told w);
      fresh = λ y. absurd (omega arith);
    }
