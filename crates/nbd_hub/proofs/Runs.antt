-- A list of events, as its replies grow at the end.
use Rattle.std.proofs.Common.{◌≡◌, ◌≢◌, ◌<◌, ℕ, List, [], ◌∷◌, ◌++◌, length, get_or, refl, sym, ap, ◌∙◌, subst, arith, append_assoc}
use Rattle.std.proofs.Common.{append-nil}
use Rattle.nbd_session.specs.declared.offer.Offer.{Offer}
use Rattle.nbd_session.specs.declared.phase.Phase.TheVariants as phase
use Rattle.nbd_session.specs.declared.status.Status.{Status}
use Rattle.nbd_session.specs.declared.status.Status.TheVariants as status
use Rattle.nbd_session.specs.Talk.{hear, Verdict}
use Rattle.nbd_session.specs.Session.{TalksOn}
use Rattle.nbd_session.specs.Export.{Facts}
use Rattle.nbd_session.proofs.Hearing.{Judged-weaker}
use Rattle.nbd_hub.specs.declared.events.Event.{Event}
use Rattle.nbd_hub.specs.declared.events.Event.TheVariants as event
use Rattle.nbd_hub.specs.declared.events.HubReply.{HubReply}
use Rattle.nbd_hub.specs.declared.events.HubReply.TheVariants as reply
use Rattle.nbd_hub.specs.declared.fault.HubFault.{HubFault}
use Rattle.nbd_hub.specs.History.{Step, Feeding, Refusal, step_of, steps, own, opened}
use Rattle.nbd_hub.specs.Sessions.{HubState, FeedsOne}
use Rattle.nbd_hub.specs.After.{Given, IsTold, IsAfter, Replies, AskedBetween, AsksOn, EachAfter, FedAfter}
use Rattle.nbd_hub.proofs.Outcomes.{after_refused, talked_between}

pub told_weaker : (P Q : ℕ → ℕ → Verdict → Type 0) (offer : Offer) (h : List Step) (k : ℕ) →
    ((o l : ℕ) (v : Verdict) → P o l v → Q o l v) → IsTold P offer h k → IsTold Q offer h k
told_weaker P Q offer h k f t = record {
  verdicts = t.verdicts;
  judged = Judged-weaker P Q (hear offer phase.Flags (own h k)).answers t.verdicts f t.judged;
  exact = t.exact;
}

-- what follows at each moment from the verdicts' fact and from what lasts, and of each step from what it makes
pub each_weaker : {X A B : Type 0} (makes does : X → X → Offer → List Step → Event A → HubReply B → Type 0)
    (P Q : X → ℕ → ℕ → Verdict → Type 0) (Good : X → Type 0)
    (lasts : (x y : X) (offer : Offer) (h : List Step) (e : Event A) (r : HubReply B) → makes x y offer h e r → Good x
    → Good y × does x y offer h e r)
    (f : (x : X) → Good x → (o l : ℕ) (v : Verdict) → P x o l v → Q x o l v)
    (now last : X) (offer : Offer) (h : List Step) (events : List (Event A)) (replies : List (HubReply B)) → Good now
    → EachAfter makes P now last offer h events replies → EachAfter does Q now last offer h events replies
each_weaker makes does P Q Good lasts f now last offer h events [] good e = e
each_weaker makes does P Q Good lasts f now last offer h [] (r ∷ replies) good e = absurd e
each_weaker makes does P Q Good lasts f now last offer h (x ∷ events) (r ∷ replies) good (next, made, reply, told, rest) =
    let there = lasts now next offer h x r made good in (
      next,
      there.1,
      reply,
      (λ k l. told_weaker (P next) (Q next) offer (h ++ step_of x r ∷ []) k (f next there.0) (told k l)),
      each_weaker makes does P Q Good lasts f next last offer (h ++ step_of x r ∷ []) events replies there.0 rest,
    )

pub steps_at : {A B : Type 0} (events : List (Event A)) (replies : List (HubReply B)) (e : Event A) (r : HubReply B) →
    length replies < length events → e ≡ get_or events (length replies) e
    → steps events (replies ++ r ∷ []) ≡ steps events replies ++ step_of e r ∷ []
steps_at [] [] e r l is = absurd (omega arith)
steps_at [] (q ∷ replies) e r l is = absurd (omega arith)
steps_at (x ∷ events) [] e r l is = ap (λ y. step_of y r ∷ []) (sym is)
steps_at (x ∷ events) (q ∷ replies) e r l is = ap (λ y. step_of x q ∷ y) (steps_at events replies e r (omega arith) is)

-- the told of every session after a history
abbrev pub AllTold : (ℕ → ℕ → Verdict → Type 0) → Offer → List Step → Type 0
AllTold P offer h = (k : ℕ) → k < opened h → IsTold P offer h k

-- one more event after the last moment
pub each_at : {X A B : Type 0} (makes : X → X → Offer → List Step → Event A → HubReply B → Type 0) (P : X → ℕ → ℕ → Verdict → Type 0)
    (now mid last : X) (offer : Offer) (h : List Step) (events : List (Event A)) (replies : List (HubReply B)) (e : Event A)
    (r : HubReply B) → length replies < length events → e ≡ get_or events (length replies) e
    → EachAfter makes P now mid offer h events replies
    → Replies offer (h ++ steps events replies) e r → makes mid last offer (h ++ steps events replies) e r
    → AllTold (P last) offer ((h ++ steps events replies) ++ step_of e r ∷ [])
    → EachAfter makes P now last offer h events (replies ++ r ∷ [])
each_at makes P now mid last offer h [] [] e r l is x y a t = absurd (omega arith)
each_at makes P now mid last offer h [] (q ∷ replies) e r l is x y a t = absurd (omega arith)
each_at {X} {A} {B} makes P now mid last offer h (z ∷ events) [] e r l is x y a t =
    let Q : Event A → List Step → Type 0 = λ w g. Replies offer g w r × makes mid last offer g w r
    × AllTold (P last) offer (g ++ step_of w r ∷ []) in
    let R : Event A → Type 0 = λ w. Q w (h ++ []) in
    let d = subst (Q z) (append-nil h) (subst R is (y, a, t)) in
    let M : X → Type 0 = λ w. makes w last offer h z r in (last, subst M x d.1, d.0, d.2, refl)
each_at {X} {A} {B} makes P now mid last offer h (z ∷ events) (q ∷ replies) e r l is (next, made, reply, told, rest) y a t =
    let Q : List Step → Type 0 = λ g. Replies offer g e r × makes mid last offer g e r
    × AllTold (P last) offer (g ++ step_of e r ∷ []) in
    let d = subst Q (sym (append_assoc h (step_of z q ∷ []) (steps events replies))) (y, a, t) in (
      next,
      made,
      reply,
      told,
      each_at makes P next mid last offer (h ++ step_of z q ∷ []) events replies e r (omega arith) is rest d.0 d.1 d.2,
    )

-- one more event has its reply
pub ran_on : {X A B : Type 0} (later : X → X → Type 0) (facts : X → Facts) (now a b : X) (offer : Offer)
    (hub hub' : HubState) (h : List Step) (events : List (Event A)) (replies : List (HubReply B)) (e : Event A) (r : HubReply B)
    → later a b → hub.offer ≡ offer → hub'.offer ≡ hub.offer → length replies < length events
    → e ≡ get_or events (length replies) e
    → EachAfter (AsksOn later facts) (λ x. Given (facts x)) now a offer h events replies
    × IsAfter (facts a) hub (h ++ steps events replies)
    → ((g : List Step) → IsAfter (facts a) hub g → Replies hub.offer g e r)
    → ((g : List Step) → IsAfter (facts a) hub g → AskedBetween facts a b hub.offer g e r)
    → ((g : List Step) → IsAfter (facts a) hub g → IsAfter (facts b) hub' (g ++ step_of e r ∷ []))
    → EachAfter (AsksOn later facts) (λ x. Given (facts x)) now b offer h events (replies ++ r ∷ [])
    × IsAfter (facts b) hub' (h ++ steps events (replies ++ r ∷ []))
ran_on later facts now a b offer hub hub' h events replies e r since o o' l is x p w q =
    let g = h ++ steps events replies in
    let there = q g x.1 in
    let R : Offer → Type 0 = λ z. Replies z g e r × AskedBetween facts a b z g e r in
    let d = subst R o (p g x.1, w g x.1) in
    let T : Offer → Type 0 = λ z. AllTold (Given (facts b)) z (g ++ step_of e r ∷ []) in
    let I : List Step → Type 0 = λ z. IsAfter (facts b) hub' z in (
      each_at (AsksOn later facts) (λ y. Given (facts y)) now a b offer h events replies e r l is x.0 d.0 (since, d.1)
          (subst T (o' ∙ o) there.told),
      subst I (append_assoc h (steps events replies) (step_of e r ∷ []) ∙ ap (λ z. h ++ z) (sym (steps_at events replies e r l is)))
          there,
    )

-- one event, by its outcome

refused_step : {A : Type 0} (B : Type 0) (e : Event A) (f : HubFault) → step_of {A = A} {B = B} e (reply.Refused f) ≡ Refusal
refused_step B event.Open f = refl
refused_step B (event.Feed id piece) f = refl
refused_step B (event.End id) f = refl

pub refused_at : {X A : Type 0} (B : Type 0) (facts : X → Facts) (s s' : HubState × X) (h : List Step) (e : Event A) (f : HubFault)
    → s' ≡ s → IsAfter (facts s.1) s.0 h
    → IsAfter (facts s'.1) s'.0 (h ++ step_of {A = A} {B = B} e (reply.Refused f) ∷ [])
refused_at {X} {A} B facts s s' h e f q x =
    let P : HubState × X → Type 0 = λ z. IsAfter (facts z.1) z.0 (h ++ step_of {A = A} {B = B} e (reply.Refused f) ∷ []) in
    let Q : Step → Type 0 = λ z. IsAfter (facts s.1) s.0 (h ++ z ∷ []) in
    subst P (sym q) (subst Q (sym (refused_step B e f)) (after_refused (facts s.1) s.0 h x))

pub fed_steps : {A : Type 0} (B : Type 0) (b : Facts) (hub' : HubState) (h : List Step) (id : ℕ)
    (piece piece' out out' bytes : List ℕ) (s : Status) (e : Event A) → e ≡ event.Feed id piece
    → piece' ≡ piece → out ≡ [] → bytes ≡ out' → FedAfter b hub' h id piece' s out out' →
    IsAfter b hub' (h ++ step_of {A = A} {B = B} e (reply.Fed s bytes) ∷ [])
fed_steps {A} B b hub' h id piece piece' out out' bytes s e is p n o f =
    let P : Event A → Type 0 = λ z. IsAfter b hub' (h ++ step_of {A = A} {B = B} z (reply.Fed s bytes) ∷ []) in
    let Q : List ℕ → Type 0 = λ z. IsAfter b hub' (h ++ Feeding id z s bytes ∷ []) in
    let R : List ℕ → Type 0 = λ z. IsAfter b hub' (h ++ Feeding id piece' s z ∷ []) in
    subst P (sym is) (subst Q p (subst R (sym (o ∙ f.appends ∙ ap (λ z. z ++ f.said) n)) f.after))

-- a refused event asked nothing
pub refused_asks : {X A : Type 0} (B : Type 0) (facts : X → Facts) (s s' : HubState × X) (offer : Offer) (h : List Step) (e : Event A)
    (f : HubFault) → s' ≡ s → AskedBetween {X = X} {A = A} {B = B} facts s.1 s'.1 offer h e (reply.Refused f)
refused_asks {X} B facts s s' offer h event.Open f q = ap (λ (z : HubState × X). z.1) q
refused_asks {X} B facts s s' offer h (event.Feed id piece) f q = ap (λ (z : HubState × X). z.1) q
refused_asks {X} B facts s s' offer h (event.End id) f q = ap (λ (z : HubState × X). z.1) q

pub fed_asks : {X A : Type 0} (B : Type 0) (facts : X → Facts) (s s' : HubState × X) (h : List Step) (id : ℕ)
    (piece piece' out out' bytes : List ℕ) (st : Status) (e : Event A) → e ≡ event.Feed id piece
    → piece' ≡ piece → out ≡ [] → bytes ≡ out' → FeedsOne (facts s.1) (facts s'.1) s.0 s'.0 id piece' out out' st
    → IsAfter (facts s.1) s.0 h
    → AskedBetween {X = X} {A = A} {B = B} facts s.1 s'.1 s.0.offer h e (reply.Fed st bytes)
fed_asks {X} {A} B facts s s' h id piece piece' out out' bytes st e is p n o f x =
    let Between : (piece out out' : List ℕ) → Type 0 = λ i j k.
    (st ≢ status.Starved → TalksOn (facts s.1) (facts s'.1) s.0.offer (own h id) i j k) × (st ≡ status.Starved → k ≡ j) in
    let d : Between piece' out out' = talked_between (facts s.1) (facts s'.1) s.0 s'.0 h id piece' out out' st f x in
    let P : Event A → Type 0 = λ z. AskedBetween {X = X} {A = A} {B = B} facts s.1 s'.1 s.0.offer h z (reply.Fed st bytes) in
    let I : List ℕ → Type 0 = λ z. Between z [] bytes in
    let J : List ℕ → Type 0 = λ z. Between piece' z bytes in
    let K : List ℕ → Type 0 = λ z. Between piece' out z in
    subst P (sym is) (subst I p (subst J n (subst K (sym o) d)))
