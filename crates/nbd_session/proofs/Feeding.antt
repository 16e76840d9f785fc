-- A feed, for every input that the session was at.
use Rattle.std.proofs.Common.{◌≡◌, ◌≢◌, ◌↔◌, ◌≤◌, ◌+◌, ℕ, Bool, true, false, List, [], ◌++◌, length, refl, sym, ap, ◌∙◌, subst}
use Rattle.std.proofs.Common.{arith, append_assoc, append-nil, length-append}
use Rattle.nbd_session.specs.Protocol.{short, longest_reply}
use Rattle.nbd_session.specs.declared.phase.Phase.{Phase}
use Rattle.nbd_session.specs.declared.phase.Phase.TheVariants.{Flags, Transmission, Ended}
use Rattle.nbd_session.specs.declared.inbox.Inbox.{Inbox}
use Rattle.nbd_session.specs.declared.offer.Offer.{Offer}
use Rattle.nbd_session.specs.Transmission.{Answer}
use Rattle.nbd_session.specs.Messages.{Partial, front}
use Rattle.nbd_session.specs.Talk.{talk, Heard, Judged, hear, replies}
use Rattle.nbd_session.specs.Export.{Facts, Fair, Keeps}
use Rattle.nbd_session.specs.Conversation.{AppendsMove, Stands}
use Rattle.nbd_session.specs.declared.status.Status.{Status}
use Rattle.nbd_session.specs.declared.status.Status.TheVariants.{Starved}
use Rattle.nbd_session.specs.declared.status.Status.TheVariants as status
use Rattle.nbd_session.specs.Handshake.{greeting}
use Rattle.nbd_session.specs.Session.{Feeds, Talked, IsAt, Reflects, State, TalksOn, added}
use Rattle.nbd_session.specs.Inbox.{Waits, kept, missing_of}
use Rattle.nbd_session.proofs.Shorter.{replies_once, fair_len}
use Rattle.nbd_session.proofs.Hearing.{hear-append, Judged-append, Judged-weaker, replies-append}
use Rattle.nbd_session.proofs.Moving.{Keeps-refl, counted_on, moves_ended, rest_partial, Fair-later, Fair-earlier}

-- the model of a session with these fields
abbrev pub state_of : {A : Type 0} → Offer → Inbox A → Bool → State
state_of o inbox starved = record { offer = o; phase = inbox.phase; held = inbox.held.items; missing = inbox.missing; starved = starved }

waits_at : {A : Type 0} (o : Offer) (inbox : Inbox A) (starved : Bool) (input : List ℕ) →
    Reflects (state_of o inbox starved) (hear o Flags input) → Waits inbox (hear o Flags input).unfinished
waits_at o inbox starved input a =
    let h = hear o Flags input in
    let P : Phase → Type 0 = λ p. front p h.unfinished ≡ Partial in
    record {
      partial = subst P (sym a.phase) (rest_partial o Flags input);
      held = a.held ∙ ap (λ p. kept p h.unfinished) (sym a.phase);
      missing = a.missing ∙ ap (λ p. missing_of p h.unfinished) (sym a.phase);
    }

reflects : {A : Type 0} (old new : Facts) (o : Offer) (after : Inbox A) (starved : Bool) (h : Heard) (said : List ℕ) →
    starved ≡ false → Stands old new h after said → Reflects (state_of o after starved) h
reflects old new o after starved h said e s = record {
  phase = s.phase;
  held = s.waits.held ∙ ap (λ p. kept p h.unfinished) s.phase;
  missing = s.waits.missing ∙ ap (λ p. missing_of p h.unfinished) s.phase;
}

pub record Fed {A : Type 0} (old new : Facts) (o : Offer) (after : Inbox A) (starved : Bool) (s : State)
    (input piece out out' : List ℕ) : Type 0 where
  pub at : IsAt (state_of o after starved) (input ++ piece)
  pub talks : TalksOn old new s.offer input piece out out'

pub feeds : {A : Type 0} (old new : Facts) (o : Offer) (before after : Inbox A) (starved : Bool) (s : State)
    (input piece out out' : List ℕ) → state_of o before starved ≡ s → starved ≡ false
    → AppendsMove old new o before after piece out out' → IsAt s input → Fed old new o after starved s input piece out out'
feeds old new o before after starved s input piece out out' v e m =
    let P : State → Type 0 = λ x. IsAt x input → Fed old new o after starved x input piece out out' in
    let offer = o in
    let h = hear offer Flags input in
    subst P v (λ f.
    let a = f e in
    let Q : Phase → Type 0 = λ p. Stands old new (hear offer p (h.unfinished ++ piece)) after m.0 in
    let t = subst Q a.phase (m.2 h.unfinished (waits_at o before starved input a)) in
    let n = hear offer h.phase (h.unfinished ++ piece) in
    let r = reflects old new o after starved n m.0 e t in
    let R : Heard → Type 0 = λ x. Reflects (state_of o after starved) x in
    record {
      at = λ z. subst R (sym (hear-append offer Flags input piece)) (record { phase = r.phase; held = r.held; missing = r.missing });
      talks = record {
        verdicts = t.verdicts;
        judged = t.judged;
        counted = t.counted;
        spent = t.spent;
        exact = m.1
            ∙ ap (λ x. out ++ x) t.exact;
      };
    })

-- A session that has ended stays so.
pub feeds_ended : {A : Type 0} (now : Facts) (o : Offer) (inbox : Inbox A) (starved : Bool) (s : State) (piece out : List ℕ)
    → state_of o inbox starved ≡ s → starved ≡ false → inbox.phase ≡ Ended → Feeds now now s s piece out out status.Ended
feeds_ended now o inbox starved s piece out v f p =
    let P : State → Type 0 = λ x. Feeds now now x x piece out out status.Ended in
    let x = state_of o inbox starved in
    let fed = λ (input : List ℕ) (a : IsAt x input).
    feeds now now o inbox inbox starved x input piece out out refl f ([], sym (append-nil out), moves_ended now o inbox piece p) a in
    subst P v (record {
      offer = refl;
      keeps = Keeps-refl now;
      at = λ n input a. (fed input a).at;
      talks = λ n input a. (fed input a).talks;
      ended = λ n. ((λ e. p), (λ e. refl));
      awake = λ n. f;
      bound = λ input a t k. omega arith;
      starved = λ e. absurd (let q : ⊥ = cc in q);
      stays = λ e. absurd (let q : ⊥ = cc in q);
      for_good = λ t. let z : false ≡ true = sym f ∙ t in absurd (let q : ⊥ = cc in q);
      over = λ a e. (refl, refl);
    })

-- what a short piece adds in transmission
talks_bound : (a b : Facts) (offer : Offer) (input piece out out' : List ℕ) → TalksOn a b offer input piece out out' →
    (hear offer Flags input).phase ≡ Transmission → length piece ≤ short
    → length out' ≤ length out + longest_reply
talks_bound a b offer input piece out out' t p l =
    let said = replies (added offer input piece) t.verdicts in
    let few : length said ≤ longest_reply = replies_once (Fair a b) (fair_len a b) offer input piece t.verdicts p l t.judged in
    let P : List ℕ → Type 0 = λ x. length x ≤ length out + longest_reply in
    let sum : length (out ++ said) ≤ length out + longest_reply = omega (arith, length-append out said, few) in
    subst P (sym t.exact) sum

-- A piece was taken in.
pub feeds_on : {A : Type 0} (old new : Facts) (o : Offer) (before after : Inbox A) (starved : Bool) (s : State)
    (piece out out' : List ℕ) (result : Status)
    → state_of o before starved ≡ s → starved ≡ false → Keeps old new → (before.phase ≡ Ended → ⊥) →
    AppendsMove old new o before after piece out out'
    → result ≢ Starved → (result ≡ status.Ended) ↔ (after.phase ≡ Ended) → Feeds old new s (state_of o after starved) piece out out' result
feeds_on old new o before after starved s piece out out' result v f k p m n ended =
    let P : State → Type 0 = λ x. Feeds old new x (state_of o after starved) piece out out' result in
    let x = state_of o before starved in
    let fed = λ (input : List ℕ) (a : IsAt x input). feeds old new o before after starved x input piece out out' refl f m a in
    subst P v (record {
      offer = refl;
      keeps = k;
      at = λ q input a. (fed input a).at;
      talks = λ q input a. (fed input a).talks;
      ended = λ q. ended;
      awake = λ q. f;
      bound = λ input a t k. talks_bound old new x.offer input piece out out' (fed input a).talks (sym (a f).phase ∙ t) k;
      starved = λ e. absurd (n e);
      stays = λ e. absurd (n e);
      for_good = λ t. let z : false ≡ true = sym f ∙ t in absurd (let q : ⊥ = cc in q);
      over = λ a e. absurd (p e);
    })

-- feed after feed

-- what was said for an input, and what a feed adds
pub talked_on : (a b c : Facts) (offer : Offer) (input piece said more : List ℕ) → Keeps a b → Keeps b c →
    Talked a b offer input said → TalksOn b c offer input piece [] more → Talked a c offer (input ++ piece) (said ++ more)
talked_on a b c offer input piece said more k l s t =
    let xs = (hear offer Flags input).answers in
    let ys = added offer input piece in
    let vs = s.verdicts ++ t.verdicts in
    let on : (hear offer Flags (input ++ piece)).answers ≡ xs ++ ys = ap (λ (h : Heard). h.answers) (hear-append offer Flags input piece) in
    let P : List Answer → Type 0 = λ x. Judged (Fair a c) x vs in
    record {
      verdicts = vs;
      judged = subst P (sym on) (Judged-append (Fair a c) xs ys s.verdicts t.verdicts
          (Judged-weaker (Fair a b) (Fair a c) xs s.verdicts (Fair-later a b c l) s.judged)
          (Judged-weaker (Fair b c) (Fair a c) ys t.verdicts (Fair-earlier a b c k) t.judged));
      counted = counted_on a b c s.verdicts t.verdicts k s.counted t.counted;
      exact = ap (λ x. x ++ more) s.exact ∙ ap (λ x. talk offer input s.verdicts ++ x) t.exact
          ∙ append_assoc greeting (replies xs s.verdicts) (replies ys t.verdicts)
          ∙ ap (λ x. greeting ++ x) (sym (replies-append (Fair a b) xs ys s.verdicts t.verdicts s.judged)
          ∙ ap (λ x. replies x vs) (sym on));
    }
