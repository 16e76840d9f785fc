-- The laws of served clients.
use Rattle.std.proofs.Common.{◌≡◌, ◌≢◌, ◌↔◌, ◌+◌, ◌++◌, true, false, ℕ, List, [], ◌∷◌, refl, sym, ap, ◌∙◌, subst, arith, append-nil}
use Rattle.std.proofs.lemmas.Bool.{ne_eqb, eq-eqb}
use Rattle.nbd_session.specs.declared.offer.Offer.{Offer}
use Rattle.nbd_session.specs.Export.{Facts}
use Rattle.nbd_session.specs.Talk.{talk, replies}
use Rattle.nbd_session.specs.Session.{added}
use Rattle.nbd_session.specs.Handshake.{greeting}
use Rattle.nbd_session.proofs.Hearing.{talk-append}
use Rattle.nbd_hub.specs.History.{Step, Opening, Feeding, Ending, Refusal, said, own, output, opened, ended}
use Rattle.nbd_hub.specs.Sessions.{HubState}
use Rattle.nbd_hub.specs.After.{Given, IsAfter, OpenedAfter}
use Rattle.nbd_hub.specs.Stream.{HasEnded}
use Rattle.nbd_hub.proofs.Snoc.{opened-append, own-awake, output-snoc, ended-snoc, or_false}
use Rattle.nbd_hub.proofs.Steps.{Same, same}
use Rattle.nbd_relay.specs.Client.{ClientState, IsServed, IsOfAnother, FedOnce, IsSaid}

same_of : (h : List Step) (s : Step) (k : ℕ) → IsOfAnother k s → Same h (h ++ s ∷ []) k
same_of h (Opening id bytes) k n = same h (Opening id bytes) k refl (rw (ne_eqb id k n) refl) refl
same_of h (Feeding id piece status bytes) k n =
    same h (Feeding id piece status bytes) k (rw (ne_eqb id k n) refl) (rw (ne_eqb id k n) refl) refl
same_of h (Ending id) k n = same h (Ending id) k refl refl (ne_eqb id k n)
same_of h Refusal k n = same h Refusal k refl refl refl

pub stays : (offer : Offer) (h : List Step) (s : Step) (client : ClientState) (read wrote : List ℕ) → IsOfAnother client.id s →
    IsServed offer h client read wrote → IsServed offer (h ++ s ∷ []) client read wrote
stays offer h s client read wrote n v =
    let q = same_of h s client.id n in
    let m : opened (h ++ s ∷ []) ≡ opened h + opened (s ∷ []) = opened-append h (s ∷ []) in
    let l = v.is_open.0 in
    let P : List ℕ → Type 0 = λ x. (client.over ≡ true) ↔ HasEnded offer x in
    record {
      is_open = (omega arith, q.ended_is ∙ v.is_open.1);
      reads = v.reads ∙ ap (λ x. x ++ client.waiting) (sym q.own_is);
      writes = v.writes ∙ sym q.output_is;
      ended = subst P (sym q.own_is) v.ended;
    }

pub turn_stays : (offer : Offer) (h fed : List Step) (id : ℕ) (client : ClientState) (read wrote : List ℕ) → id ≢ client.id →
    FedOnce id fed → IsServed offer h client read wrote → IsServed offer (h ++ fed) client read wrote
turn_stays offer h [] id client read wrote n f v = let P : List Step → Type 0 = λ z. IsServed offer z client read wrote in
    subst P (sym (append-nil h)) v
turn_stays offer h (Opening k bytes ∷ []) id client read wrote n f v = absurd f
turn_stays offer h (Feeding k piece status bytes ∷ []) id client read wrote n f v =
    stays offer h (Feeding k piece status bytes) client read wrote (λ e. n (sym f.0 ∙ e)) v
turn_stays offer h (Ending k ∷ []) id client read wrote n f v = absurd f
turn_stays offer h (Refusal ∷ []) id client read wrote n f v = absurd f
turn_stays offer h (s ∷ t ∷ more) id client read wrote n f v = absurd f

pub is_said : (facts : Facts) (hub : HubState) (h : List Step) (client : ClientState) (read wrote : List ℕ) → IsAfter facts hub h →
    IsServed hub.offer h client read wrote → IsSaid (Given facts) hub.offer client read wrote
is_said facts hub h client read wrote a v =
    let t = a.told client.id v.is_open.0 in
    let fed = own h client.id in
    let exact : wrote ++ client.unsent ≡ talk hub.offer fed t.verdicts = v.writes ∙ t.exact in
    record {
      fed = fed;
      parts = v.reads;
      verdicts = t.verdicts;
      judged = t.judged;
      exact = exact;
      begins = λ more. ap (λ x. talk hub.offer x (t.verdicts ++ more)) v.reads
          ∙ talk-append (Given facts) hub.offer fed client.waiting t.verdicts more t.judged
          ∙ ap (λ x. x ++ replies (added hub.offer fed client.waiting) more) (sym exact);
      whole = λ n m. sym (append-nil wrote) ∙ ap (λ x. wrote ++ x) (sym m) ∙ exact
          ∙ ap (λ x. talk hub.offer x t.verdicts) (sym (append-nil fed) ∙ ap (λ x. fed ++ x) (sym n) ∙ sym v.reads);
    }

-- a session was opened, and its greeting is unsent
pub served_open : (fa fb : Facts) (hub hub' : HubState) (h : List Step) (id : ℕ) (unsent : List ℕ) → IsAfter fa hub h →
    OpenedAfter fb hub' h id → unsent ≡ greeting
    → IsServed hub'.offer (h ++ Opening id greeting ∷ []) (record { id = id; waiting = []; unsent = unsent; over = false }) [] []
served_open fa fb hub hub' h id unsent x o u =
    let e : Step = Opening id greeting in
    let number = o.number in
    let n = x.fresh id (omega arith) in
    let own_is : own (h ++ e ∷ []) id ≡ [] = own-awake h e id n.awake ∙ append-nil (own h id) ∙ n.own_none in
    let said_is : said e id ≡ greeting = rw (eq-eqb id id refl) refl in
    let output_is : output (h ++ e ∷ []) id ≡ greeting = output-snoc h e id ∙ ap (λ z. z ++ said e id) n.output_none ∙ said_is in
    let ended_is : ended (h ++ e ∷ []) id ≡ false = ended-snoc h e id ∙ or_false (ended h id) ∙ n.lasts in
    let m : opened (h ++ e ∷ []) ≡ opened h + 1 = opened-append h (e ∷ []) in
    let P : List ℕ → Type 0 = λ z. (false ≡ true) ↔ HasEnded hub'.offer z in
    let flags : (false ≡ true) ↔ HasEnded hub'.offer [] = ((λ z. absurd (let q : ⊥ = cc in q)), (λ z. absurd (let q : ⊥ = cc in q))) in
    record {
      is_open = (omega arith, ended_is);
      reads = sym (append-nil (own (h ++ e ∷ []) id) ∙ own_is);
      writes = u ∙ sym output_is;
      ended = subst P (sym own_is) flags;
    }
