-- What a session has said, piece after piece.
use Rattle.std.proofs.Common.{◌≡◌, ℕ, ◌+◌, ◌-◌, ◌<◌, List, [], ◌∷◌, ◌++◌, length, take, drop, Bool, zero, suc, inl, inr, refl, sym}
use Rattle.std.proofs.Common.{ap, ◌∙◌, subst, arith, append_assoc, append-nil}
use Rattle.std.proofs.lemmas.Bool.{le-ltb}
use Rattle.std.proofs.lemmas.List.{take_rest, take-take, drop-take, take-append-drop}
use Rattle.nbd_session.specs.declared.phase.Phase.{Phase}
use Rattle.nbd_session.specs.declared.phase.Phase.TheVariants.{Flags, Options, Transmission, Ended}
use Rattle.nbd_session.specs.declared.inbox.Inbox.{Inbox}
use Rattle.nbd_session.specs.declared.offer.Offer.{Offer}
use Rattle.nbd_session.specs.Messages.{Front, Halt, Partial, Whole, front, header_size, number_at}
use Rattle.nbd_session.specs.Transmission.{Answer, Asks, Says}
use Rattle.nbd_session.specs.Answers.{answer, next_phase}
use Rattle.nbd_session.specs.Options.{option_answer, phase_after_option}
use Rattle.nbd_session.specs.Talk.{Bytes, Heard, Refused, Verdict, hear, hear_front, read_reply, replies}
use Rattle.nbd_session.specs.Export.{Counted, Facts, Fair, Keeps, eios, is_eio}
use Rattle.nbd_session.specs.Conversation.{Answered, AppendsMove, Moves, Stands, message_of}
use Rattle.nbd_session.specs.Inbox.{Waits, HasBody}
use Rattle.nbd_session.proofs.Costs.{spent_none, spent_on}
use Rattle.nbd_session.proofs.Hearing.{Shorter, front-shorter, hear-front, hear-ended, hear-append, go_on, Judged-append}
use Rattle.nbd_session.proofs.Hearing.{Judged-weaker, replies-append}

-- verdicts of a part of the time are verdicts of the whole

pub Fair-later : (a b c : Facts) → Keeps b c → (o l : ℕ) (v : Verdict) → Fair a b o l v → Fair a c o l v
Fair-later a b c k o l (Bytes bytes) f = record { exact = f.exact; given = k.serve o bytes f.given; content = f.content }
Fair-later a b c k o l (Refused error) (inl e) = inl (e.0, record { leave = k.lack o l e.1.leave })
Fair-later a b c k o l (Refused error) (inr e) =
    inr (
      e.0,
      record {
        leave = k.refuse o l e.1.leave;
        failure = λ content s. let h = e.1.failure content s in
            omega (arith, h, k.failures);
      },
    )

pub Fair-earlier : (a b c : Facts) → Keeps a b → (o l : ℕ) (v : Verdict) → Fair b c o l v → Fair a c o l v
Fair-earlier a b c k o l (Bytes bytes) f =
    record { exact = f.exact; given = f.given; content = λ content s. f.content content (k.steady content s) }
Fair-earlier a b c k o l (Refused error) (inl e) = inl (e.0, record { leave = e.1.leave })
Fair-earlier a b c k o l (Refused error) (inr e) =
    inr (
      e.0,
      record {
        leave = e.1.leave;
        failure = λ content s. let h = e.1.failure content (k.steady content s) in
            omega (arith, h, k.failures);
      },
    )

pub Keeps-trans : (a b c : Facts) → Keeps a b → Keeps b c → Keeps a c
Keeps-trans a b c h k = record {
  size = k.size ∙ h.size;
  block = k.block ∙ h.block;
  serve = λ o bytes s. k.serve o bytes (h.serve o bytes s);
  refuse = λ o l s. k.refuse o l (h.refuse o l s);
  steady = λ content s. k.steady content (h.steady content s);
  failures = omega (arith, h.failures, k.failures);
  lack = λ o l s. k.lack o l (h.lack o l s);
  reads = omega (arith, h.reads, k.reads);
  cost = λ o l n s. k.cost o l n (h.cost o l n s);
}

pub Keeps-refl : (a : Facts) → Keeps a a
Keeps-refl a = record {
  size = refl;
  block = refl;
  serve = λ o bytes s. s;
  refuse = λ o l s. s;
  steady = λ content s. s;
  failures = omega arith;
  lack = λ o l s. s;
  reads = omega arith;
  cost = λ o l n s. s;
}

-- as many failures as EIOs

counted_error : (old new : Facts) (offset len error : ℕ) → Keeps old new → Fair old new offset len (Refused error) →
    Counted old new (Refused error ∷ [])
counted_error old new o l error k (inl x) = λ content s. let z : is_eio error ≡ 0 = ap is_eio x.0 in omega (arith, k.failures, z)
counted_error old new o l error k (inr x) = λ content s. let z : is_eio error ≡ 1 = ap is_eio x.0 in let h =
    x.1.failure content s in omega (arith, h, z)

pub counted_one : (old new : Facts) (offset len : ℕ) (v : Verdict) → Keeps old new → Fair old new offset len v → Counted old new (v ∷ [])
counted_one old new o l (Bytes bytes) k f = λ content s. omega (arith, k.failures)
counted_one old new o l (Refused error) k f = counted_error old new o l error k f

pub counted_none : (old new : Facts) → Keeps old new → Counted old new []
counted_none old new k = λ content s. omega (arith, k.failures)

eios-append : (vs ws : List Verdict) → eios (vs ++ ws) ≡ eios vs + eios ws
eios-append [] ws = omega arith
eios-append (Bytes bytes ∷ vs) ws = eios-append vs ws
eios-append (Refused error ∷ vs) ws = let h = eios-append vs ws in omega (arith, h)

pub counted_on : (a b c : Facts) (vs ws : List Verdict) → Keeps a b → Counted a b vs → Counted b c ws → Counted a c (vs ++ ws)
counted_on a b c vs ws k h l = λ content s. let p = h content s in let q = l content (k.steady content s) in let e =
    eios-append vs ws in omega (arith, p, q, e)

-- one turn

pub stands_partial : {A : Type 0} (now : Facts) (offer : Offer) (phase : Phase) (bytes : List ℕ) (inbox : Inbox A) →
    inbox.phase ≡ phase → front phase bytes ≡ Partial → Waits inbox bytes → Stands now now (hear offer phase bytes) inbox []
stands_partial now offer phase bytes inbox p f w =
    let P : Heard → Type 0 = λ h. Stands now now h inbox [] in
    subst P (sym (hear-front offer phase bytes ∙ ap (hear_front offer phase bytes (hear offer)) f))
    (record {
      phase = p;
      waits = w;
      verdicts = [];
      judged = tt;
      counted = counted_none now now (Keeps-refl now);
      spent = spent_none now;
      exact = refl;
    })

pub stands_halt : {A : Type 0} (now : Facts) (offer : Offer) (phase : Phase) (bytes : List ℕ) (inbox : Inbox A) →
    inbox.phase ≡ Ended → front phase bytes ≡ Halt → Waits inbox [] → Stands now now (hear offer phase bytes) inbox []
stands_halt now offer phase bytes inbox p f w =
    let P : Heard → Type 0 = λ h. Stands now now h inbox [] in
    subst P (sym (hear-front offer phase bytes ∙ ap (hear_front offer phase bytes (hear offer)) f))
    (record {
      phase = p;
      waits = w;
      verdicts = [];
      judged = tt;
      counted = counted_none now now (Keeps-refl now);
      spent = spent_none now;
      exact = refl;
    })

stands_answer : {A : Type 0} (old new : Facts) → Keeps old new → (a : Answer) (phase : Phase) (inbox : Inbox A) (said : List ℕ) →
    inbox.phase ≡ phase → Waits inbox [] → Answered old new a said →
    Stands old new (record { answers = a ∷ []; phase = phase; unfinished = [] }) inbox said
stands_answer old new k (Says bytes) phase inbox said p w e =
    record {
      phase = p;
      waits = w;
      verdicts = [];
      judged = tt;
      counted = counted_none old new k;
      spent = record { cost = 0; reads = let r = e.1 in omega (arith, r); spends = refl };
      exact = e.0 ∙ sym (append-nil bytes);
    }
stands_answer old new k (Asks o l cookie) phase inbox said p w e =
    record {
      phase = p;
      waits = w;
      verdicts = e.0 ∷ [];
      judged = (e.1, tt);
      counted = counted_one old new o l e.0 k e.1;
      spent = record { cost = e.3.0; reads = e.3.1; spends = (e.3.0, 0, e.3.2, refl, omega arith) };
      exact =
          e.2 ∙ sym (append-nil (read_reply cookie e.0));
    }

-- what a message's body is matters to options alone, and there it is what is held
same_answer : (offer : Offer) (phase : Phase) (held body : List ℕ) → HasBody phase held body →
    answer offer phase (record { header = (message_of phase held).header; body = body }) ≡ answer offer phase (message_of phase held)
same_answer offer Flags held body h = refl
same_answer offer (Options f z) held body h =
    ap (λ b. Says (option_answer offer z (number_at 8 4 (message_of (Options f z) held).header) b)) h
same_answer offer Transmission held body h = refl
same_answer offer Ended held body h = refl

same_phase : (offer : Offer) (phase : Phase) (held body : List ℕ) → HasBody phase held body →
    next_phase offer phase (record { header = (message_of phase held).header; body = body }) ≡ next_phase offer phase
    (message_of phase held)
same_phase offer Flags held body h = refl
same_phase offer (Options f z) held body h =
    ap (λ b. phase_after_option offer f z (number_at 8 4 (message_of (Options f z) held).header) b) h
same_phase offer Transmission held body h = refl
same_phase offer Ended held body h = refl

pub stands_whole : {A : Type 0} (old new : Facts) → Keeps old new →
    (offer : Offer) (phase : Phase) (bytes held : List ℕ) (inbox : Inbox A) (said : List ℕ)
    → ((body : List ℕ) × HasBody phase held body ×
    (front phase bytes ≡ Whole (record { header = (message_of phase held).header; body = body }) []))
    → inbox.phase ≡ next_phase offer phase (message_of phase held) → Waits inbox [] →
    Answered old new (answer offer phase (message_of phase held)) said
    → Stands old new (hear offer phase bytes) inbox said
stands_whole old new k offer phase bytes held inbox said m p w e =
    let P : Heard → Type 0 = λ h. Stands old new h inbox said in
    let is : hear offer phase bytes ≡ record {
      answers = answer offer phase (message_of phase held) ∷ [];
      phase = next_phase offer phase (message_of phase held);
      unfinished = [];
    } =
    hear-front offer phase bytes ∙ ap (hear_front offer phase bytes (hear offer)) m.2
    ∙ ap (λ a. record {
      answers = a ∷ [];
      phase = next_phase offer phase (record {
        header = (message_of phase held).header;
        body = m.0;
      });
      unfinished = [];
    }) (same_answer offer phase held m.0 m.1)
    ∙ ap (λ (x : Phase). record { answers = answer offer phase (message_of phase held) ∷ []; phase = x; unfinished = [] })
    (same_phase offer phase held m.0 m.1) in
    subst P (sym is) (stands_answer old new k (answer offer phase (message_of phase held))
    (next_phase offer phase (message_of phase held)) inbox said p w e)

-- turn after turn

stands_on : {A : Type 0} (a b c : Facts) (offer : Offer) (h : Heard) (mid after : Inbox A) (piece said said' : List ℕ) → Keeps a b →
    Keeps b c
    → Stands a b h mid said → Stands b c (hear offer h.phase (h.unfinished ++ piece)) after said' →
    Stands a c (go_on offer h piece) after (said ++ said')
stands_on a b c offer h mid after piece said said' k l s t =
    let next = hear offer h.phase (h.unfinished ++ piece) in
    record {
      phase = t.phase;
      waits = t.waits;
      verdicts = s.verdicts ++ t.verdicts;
      counted = counted_on a b c s.verdicts t.verdicts k s.counted t.counted;
      spent = spent_on a b c h.answers next.answers l s.spent t.spent;
      judged = Judged-append (Fair a c) h.answers next.answers s.verdicts t.verdicts
          (Judged-weaker (Fair a b) (Fair a c) h.answers s.verdicts (Fair-later a b c l) s.judged)
          (Judged-weaker (Fair b c) (Fair a c) next.answers t.verdicts (Fair-earlier a b c k) t.judged);
      exact = ap (λ x. x ++ said') s.exact ∙ ap (λ x. replies h.answers s.verdicts ++ x) t.exact
          ∙ sym (replies-append (Fair a b) h.answers next.answers s.verdicts t.verdicts s.judged);
    }

pub moves_on : {A : Type 0} (a b c : Facts) (offer : Offer) (before mid after : Inbox A) (piece piece' said said' : List ℕ) →
    Keeps a b → Keeps b c
    → Moves a b offer before mid piece said → Moves b c offer mid after piece' said' →
    Moves a c offer before after (piece ++ piece') (said ++ said')
moves_on a b c offer before mid after piece piece' said said' k l m n = λ u w.
    let h = hear offer before.phase (u ++ piece) in
    let s = m u w in
    let P : Heard → Type 0 = λ x. Stands a c x after (said ++ said') in
    let Q : Phase → Type 0 = λ p. Stands b c (hear offer p (h.unfinished ++ piece')) after said' in
    subst P (sym (ap (hear offer before.phase) (sym (append_assoc u piece piece')) ∙ hear-append offer before.phase (u ++ piece) piece'))
    (stands_on a b c offer h mid after piece' said said' k l s (subst Q s.phase (n h.unfinished s.waits)))

-- an option's answer, from what the code cuts off
pub answers_option : (old new : Facts) (offer : Offer) (phase : Phase) (f z : Bool) (size number : ℕ) (message header body : List ℕ)
    → phase ≡ Options f z → size ≡ header_size phase
    → header ≡ take size message → body ≡ drop size message → number ≡ number_at 8 4 header → new.reads ≡ old.reads →
    Answered old new (answer offer phase (message_of phase message)) (option_answer offer z number body)
answers_option old new offer Flags f z size number message header body p e eh eb en r = absurd (let q : ⊥ = cc in q)
answers_option old new offer (Options f' z') f z size number message header body p e eh eb en r =
    let zz : z ≡ z' = cc in (
      ap (λ x. option_answer offer x number body) zz
          ∙ ap (λ n. option_answer offer z' n body) (en ∙ ap (number_at 8 4) (eh ∙ ap (λ k. take k message) e))
          ∙ ap (λ b. option_answer offer z' (number_at 8 4 (take 16 message)) b) (eb ∙ ap (λ k. drop k message) e),
      r,
    )
answers_option old new offer Transmission f z size number message header body p e eh eb en r = absurd (let q : ⊥ = cc in q)
answers_option old new offer Ended f z size number message header body p e eh eb en r = absurd (let q : ⊥ = cc in q)

ended_rest : (u : List ℕ) → front Ended u ≡ Partial → u ≡ []
ended_rest [] f = refl
ended_rest (x ∷ xs) f = let q = rw (le-ltb (suc (length xs)) 1 (omega arith)) at f in absurd (let z : ⊥ = cc in z)

-- after the end nothing is said
pub moves_ended : {A : Type 0} (facts : Facts) (offer : Offer) (inbox : Inbox A) (piece : List ℕ) → inbox.phase ≡ Ended →
    Moves facts facts offer inbox inbox piece []
moves_ended facts offer inbox piece e = λ u w.
    let P : Phase → Type 0 = λ p. Stands facts facts (hear offer p (u ++ piece)) inbox [] in
    let Q : Heard → Type 0 = λ h. Stands facts facts h inbox [] in
    let f : front Ended u ≡ Partial = ap (λ p. front p u) (sym e) ∙ w.partial in
    let n : u ≡ [] = ended_rest u f in
    let W : List ℕ → Type 0 = λ v. Waits inbox v in
    subst P (sym e) (subst Q (sym (hear-ended offer (u ++ piece))) (record {
      phase = e;
      waits = subst W n w;
      verdicts = [];
      judged = tt;
      counted = counted_none facts facts (Keeps-refl facts);
      spent = spent_none facts;
      exact = refl;
    }))

-- no bytes move nothing
pub moves_none : {A : Type 0} (facts : Facts) (offer : Offer) (inbox : Inbox A) → Moves facts facts offer inbox inbox [] []
moves_none facts offer inbox = λ u w.
    let P : List ℕ → Type 0 = λ v. Stands facts facts (hear offer inbox.phase v) inbox [] in
    subst P (sym (append-nil u)) (stands_partial facts offer inbox.phase u inbox refl w.partial w)

-- what is unfinished is no whole message
rest_front : (offer : Offer) (phase : Phase) (bytes : List ℕ) (f : Front) → front phase bytes ≡ f →
    ((p : Phase) (r : List ℕ) → length r < length bytes → front (hear offer p r).phase (hear offer p r).unfinished ≡ Partial)
    → Shorter (length bytes) f → front (hear_front offer phase bytes (hear offer) f).phase
    (hear_front offer phase bytes (hear offer) f).unfinished ≡ Partial
rest_front offer phase bytes Partial e h s = e
rest_front offer phase bytes Halt e h s = refl
rest_front offer phase bytes (Whole m rest) e h s = h (next_phase offer phase m) rest s

rest_at_most : (offer : Offer) (n : ℕ) (phase : Phase) (bytes : List ℕ) → length bytes < n →
    front (hear offer phase bytes).phase (hear offer phase bytes).unfinished ≡ Partial
rest_at_most offer zero phase bytes l = absurd (omega arith)
rest_at_most offer (suc n) phase bytes l =
    let P : Heard → Type 0 = λ h. front h.phase h.unfinished ≡ Partial in
    subst P (sym (hear-front offer phase bytes))
    (rest_front offer phase bytes (front phase bytes) refl (λ p r s. rest_at_most offer n p r (omega arith)) (front-shorter phase bytes))

pub rest_partial : (offer : Offer) (phase : Phase) (bytes : List ℕ) →
    front (hear offer phase bytes).phase (hear offer phase bytes).unfinished ≡ Partial
rest_partial offer phase bytes = rest_at_most offer (suc (length bytes)) phase bytes (omega arith)

pub appends_on : {A : Type 0} (a b c : Facts) (offer : Offer) (before mid after : Inbox A) (piece piece' out out' out'' : List ℕ) →
    Keeps a b → Keeps b c
    → AppendsMove a b offer before mid piece out out' → AppendsMove b c offer mid after piece' out' out'' →
    AppendsMove a c offer before after (piece ++ piece') out out''
appends_on a b c offer before mid after piece piece' out out' out'' k l m n = (
  m.0 ++ n.0,
  n.1 ∙ ap (λ x. x ++ n.0) m.1 ∙ append_assoc out m.0 n.0,
  moves_on a b c offer before mid after piece piece' m.0 n.0
      k l m.2 n.2,
)

-- the next k bytes, of a list that is cut at d
pub next_bytes : (piece : List ℕ) (d k : ℕ) → take d piece ++ take k (take (length piece - d) (drop d piece)) ≡ take (d + k) piece
next_bytes piece d k =
    ap (λ x. take d piece ++ take k x) (take_rest piece d)
    ∙ ap (λ x. x ++ take k (drop d piece)) (sym (take-take d (d + k) piece (omega arith)))
    ∙ ap (λ x. take d (take (d + k) piece) ++ x) (sym (drop-take d k piece))
    ∙ take-append-drop d (take (d + k) piece)
