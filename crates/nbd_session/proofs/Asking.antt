-- How many bytes a piece as short as a request's header asks for.
use Rattle.std.proofs.Common.{◌≡◌, ◌≤◌, ◌<◌, ◌+◌, ◌-◌, ◌++◌, ◌==◌, min, ℕ, suc, Bool, false, List, [], ◌∷◌, length, take, drop}
use Rattle.std.proofs.Common.{Option, Some, None, inl, inr, refl, sym, ap, ◌∙◌, subst, arith}
use Rattle.std.proofs.Common.{append-nil, length-append, length-take, length-drop}
use Rattle.std.proofs.lemmas.Bool.{cases_Bool, cases_lt, lt-ltb, le-ltb, eqb-true}
use Rattle.std.proofs.lemmas.List.{take_all, drop_all, take-append-le}
use Rattle.std.proofs.Math.Seq.{take-append-add, take-append_seam}
use Rattle.nbd_session.specs.declared.phase.Phase.{Phase}
use Rattle.nbd_session.specs.declared.phase.Phase.TheVariants.{Flags, Options, Transmission, Ended}
use Rattle.nbd_session.specs.declared.offer.Offer.{Offer}
use Rattle.nbd_session.specs.Protocol.{short, nbd_request_magic, nbd_cmd_write, nbd_cmd_disc}
use Rattle.nbd_session.specs.Messages.{Front, Partial, Whole, Halt, front, front_of, request_body, number_at}
use Rattle.nbd_session.specs.Transmission.{Answer, Says, Asks, request_of, request_answer}
use Rattle.nbd_session.specs.Answers.{next_phase}
use Rattle.nbd_session.specs.Talk.{Heard, hear, hear_front}
use Rattle.nbd_session.specs.declared.inbox.Inbox.{Inbox}
use Rattle.nbd_session.specs.Inbox.{kept}
use Rattle.nbd_session.specs.Session.{State, IsAt, added}
use Rattle.nbd_session.specs.Short.{asks, asked, asked_by, header_asks}
use Rattle.nbd_session.proofs.Hearing.{Shorter, hear-front}
use Rattle.nbd_session.proofs.Waiting.{front_short}
use Rattle.nbd_session.proofs.Moving.{rest_partial}
use Rattle.nbd_session.proofs.Feeding.{state_of}
use Rattle.nbd_session.proofs.Shorter.{front_within, few, silent}

-- who asks for no range asks for no byte
none_asked : (xs : List Answer) → asks xs ≡ 0 → asked xs ≡ 0
none_asked [] e = refl
none_asked (Says bytes ∷ xs) e = omega (arith, none_asked xs e)
none_asked (Asks offset len cookie ∷ xs) e = absurd (omega (arith, e))

-- outside of the transmission nothing is asked for

elsewhere_front : (offer : Offer) (phase : Phase) (bytes : List ℕ) (k : ℕ) (f : Front) → k ≤ short → Shorter k f →
    (phase ≡ Transmission → ⊥) → asks (hear_front offer phase bytes (hear offer) f).answers ≡ 0
elsewhere_front offer phase bytes k Partial l s n = refl
elsewhere_front offer phase bytes k Halt l s n = refl
elsewhere_front offer Flags bytes k (Whole m rest) l s n =
    few offer (suc (length rest)) (next_phase offer Flags m) rest (omega arith) (omega arith)
elsewhere_front offer (Options f z) bytes k (Whole m rest) l s n =
    few offer (suc (length rest)) (next_phase offer (Options f z) m) rest (omega arith) (omega arith)
elsewhere_front offer Transmission bytes k (Whole m rest) l s n = absurd (n refl)
elsewhere_front offer Ended bytes k (Whole m rest) l s n =
    few offer (suc (length rest)) (next_phase offer Ended m) rest (omega arith) (omega arith)

pub asks_elsewhere : (offer : Offer) (phase : Phase) (u piece : List ℕ) → front phase u ≡ Partial → length piece ≤ short →
    (phase ≡ Transmission → ⊥) → 0 ≡ asked (hear offer phase (u ++ piece)).answers
asks_elsewhere offer phase u piece p l n =
    sym (none_asked (hear offer phase (u ++ piece)).answers (ap (λ (h : Heard). asks h.answers) (hear-front offer phase (u ++ piece))
    ∙ elsewhere_front offer phase (u ++ piece) (length piece) (front phase (u ++ piece)) l (front_within phase u piece p) n))

-- nor before the header is whole
pub asks_before : (offer : Offer) (v : List ℕ) → length v < 28 → 0 ≡ asked (hear offer Transmission v).answers
asks_before offer v l =
    ap (λ (h : Heard). asked h.answers) (sym (hear-front offer Transmission v ∙ ap (hear_front offer Transmission v (hear offer))
    (front_short Transmission v l)))

-- a request with a payload is a WRITE
payload_asks : (size : ℕ) (h : List ℕ) (n : ℕ) → Some n ≡ request_body h → 0 < n → asked_by (request_answer size (request_of h)) ≡ 0
payload_asks size h n e l =
    elim (cases_Bool (number_at 0 4 h == nbd_request_magic)) [
      | inl m ↦ elim (cases_Bool (number_at 6 2 h == nbd_cmd_write)) [
        | inl w ↦ let k = eqb-true (number_at 6 2 h) nbd_cmd_write w in rw k refl
        | inr w ↦ let q = rw (m, w) at e in absurd (let z : n ≡ 0 = cc in omega (arith, z))
      ]
      | inr m ↦ let q = rw m at e in absurd (let z : ⊥ = cc in z)
    ]

whole_asks : (offer : Offer) (bytes h rest : List ℕ) (k : ℕ) (o : Option ℕ) → o ≡ request_body h → k ≤ short →
    Shorter k (front_of h rest o)
    → asked (hear_front offer Transmission bytes (hear offer) (front_of h rest o)).answers ≡ header_asks offer.size h o
whole_asks offer bytes h rest k None e l s = refl
whole_asks offer bytes h rest k (Some n) e l s =
    elim (cases_lt (length rest) n) [
      | inl x ↦ rw (lt-ltb (length rest) n x) (sym (payload_asks offer.size h n e (omega arith)))
      | inr x ↦
          let q = rw (le-ltb (length rest) n x) at s in
          let r = request_of h in
          let none = silent offer (r.kind == nbd_cmd_disc) (drop n rest) (omega (arith, q)) in
          let a = request_answer offer.size r in
          let sum : asked_by a + 0 ≡ asked_by a = omega arith in
          rw (le-ltb (length rest) n x) (ap (λ xs. asked_by a + asked xs) none ∙ sum)
    ]

-- the header: what was held of it, and the front of the piece
header_of : (u piece : List ℕ) → take 28 (u ++ piece) ≡ take 28 u ++ take (28 - length u) piece
header_of u piece =
    elim (cases_lt (length u) 28) [
      | inl l ↦
          let s : 28 ≡ length u + (28 - length u) = omega (arith, l) in
          ap (λ k. take k (u ++ piece)) s ∙ take-append-add u piece (28 - length u)
          ∙ ap (λ z. z ++ take (28 - length u) piece) (sym (take_all 28 u (omega (arith, l))))
      | inr l ↦
          let s : 28 - length u ≡ 0 = omega (arith, l) in
          take-append-le 28 u piece l ∙ sym (ap (λ k. take 28 u ++ take k piece) s ∙ append-nil (take 28 u))
    ]

pub asks_here : (offer : Offer) (u piece held header : List ℕ) (k : ℕ) → front Transmission u ≡ Partial → length piece ≤ short
    → held ≡ take 28 u → k ≡ min (length held) 28 → 28 - k ≤ length piece → header ≡ take k held ++ take (28 - k) piece
    → header_asks offer.size header (request_body header) ≡ asked (hear offer Transmission (u ++ piece)).answers
asks_here offer u piece held header k p l e m f is =
    let v = u ++ piece in
    let enough : 28 ≤ length v = omega (arith, length-append u piece, ap length e, length-take 28 u, m, f) in
    let rest : 28 - k ≡ 28 - length u = omega (arith, ap length e, length-take 28 u, m) in
    let all : take k held ≡ take 28 u = take_all k held (omega (arith, m, ap length e, length-take 28 u)) ∙ e in
    let header_is : header ≡ take 28 v = is ∙ ap (λ z. z ++ take (28 - k) piece) all ∙ ap (λ n. take 28 u ++ take n piece) rest
    ∙ sym (header_of u piece) in
    let h = take 28 v in
    let within : Shorter (length piece) (front_of h (drop 28 v) (request_body h)) = rw (le-ltb (length v) 28 enough) at
    (front_within Transmission u piece p) in
    let whole : front Transmission v ≡ front_of h (drop 28 v) (request_body h) = rw (le-ltb (length v) 28 enough) refl in
    ap (λ z. header_asks offer.size z (request_body z)) header_is
    ∙ sym (ap (λ (x : Heard). asked x.answers) (hear-front offer Transmission v ∙ ap (hear_front offer Transmission v (hear offer)) whole)
    ∙ whole_asks offer v h (drop 28 v) (length piece) (request_body h) refl l within)

-- as it was put together
header_built : (x rest y post held piece : List ℕ) (k : ℕ) → x ≡ take k held → k ≡ min (length held) 28 → y ≡ take (28 - k) piece
    → post ≡ [] → take k (x ++ rest) ++ (y ++ post) ≡ take k held ++ take (28 - k) piece
header_built x rest y post held piece k e m f g =
    let l : length x ≡ k = omega (arith, ap length e, length-take k held, m) in
    ap (λ z. take z (x ++ rest) ++ (y ++ post)) (sym l) ∙ ap (λ z. z ++ (y ++ post)) (take-append_seam x rest ∙ e)
    ∙ ap (λ z. take k held ++ z) (ap (λ z. y ++ z) g ∙ append-nil y ∙ f)

-- nothing is left behind it
pub none_behind : (x zeros : List ℕ) (k : ℕ) → length x ≡ k → k ≤ 28 → length zeros ≡ 28 →
    drop (28 - k) (drop k (x ++ drop k zeros)) ≡ []
none_behind x zeros k e l z =
    drop_all (28 - k) (drop k (x ++ drop k zeros))
    (omega (arith, length-drop k (x ++ drop k zeros), length-append x (drop k zeros), length-drop k zeros))

-- the same of a session

pub session_elsewhere : {A : Type 0} (o : Offer) (inbox : Inbox A) (starved : Bool) (s : State) (input piece : List ℕ)
    → state_of o inbox starved ≡ s → length piece ≤ short → (inbox.phase ≡ Transmission → ⊥) → s.starved ≡ false → IsAt s input
    → 0 ≡ asked (added s.offer input piece)
session_elsewhere o inbox starved s input piece v l n =
    let h = hear o Flags input in
    let P : State → Type 0 = λ x. x.starved ≡ false → IsAt x input → 0 ≡ asked (added x.offer input piece) in
    subst P v (λ f a. asks_elsewhere o h.phase h.unfinished piece (rest_partial o Flags input) l (λ e. n ((a f).phase ∙ e)))

pub session_before : {A : Type 0} (o : Offer) (inbox : Inbox A) (starved : Bool) (s : State) (input piece : List ℕ)
    → state_of o inbox starved ≡ s → inbox.phase ≡ Transmission → length piece < 28 - min (length inbox.held.items) 28
    → s.starved ≡ false → IsAt s input → 0 ≡ asked (added s.offer input piece)
session_before o inbox starved s input piece v t l =
    let h = hear o Flags input in
    let u = h.unfinished in
    let P : State → Type 0 = λ x. x.starved ≡ false → IsAt x input → 0 ≡ asked (added x.offer input piece) in
    subst P v (λ f a.
    let r = a f in
    let p : h.phase ≡ Transmission = sym r.phase ∙ t in
    let held : inbox.held.items ≡ take 28 u = r.held ∙ ap (λ x. kept x u) p in
    let Q : Phase → Type 0 = λ x. 0 ≡ asked (hear o x (u ++ piece)).answers in
    subst Q (sym p) (asks_before o (u ++ piece) (omega (arith, length-append u piece, ap length held, length-take 28 u, l))))

pub session_here : {A : Type 0} (o : Offer) (inbox : Inbox A) (starved : Bool) (s : State) (input piece x rest y post : List ℕ) (k : ℕ)
    → state_of o inbox starved ≡ s → inbox.phase ≡ Transmission → length piece ≤ short
    → k ≡ min (length inbox.held.items) 28 → 28 - k ≤ length piece → x ≡ take k inbox.held.items → y ≡ take (28 - k) piece
    → post ≡ [] → s.starved ≡ false → IsAt s input
    → header_asks o.size (take k (x ++ rest) ++ (y ++ post)) (request_body (take k (x ++ rest) ++ (y ++ post)))
    ≡ asked (added s.offer input piece)
session_here o inbox starved s input piece x rest y post k v t l m e is more none =
    let h = hear o Flags input in
    let u = h.unfinished in
    let header = take k (x ++ rest) ++ (y ++ post) in
    let whole = header_built x rest y post inbox.held.items piece k is m more none in
    let P : State → Type 0 = λ x. x.starved ≡ false → IsAt x input →
    header_asks o.size header (request_body header) ≡ asked (added x.offer input piece) in
    subst P v (λ f a.
    let r = a f in
    let p : h.phase ≡ Transmission = sym r.phase ∙ t in
    let held : inbox.held.items ≡ take 28 u = r.held ∙ ap (λ x. kept x u) p in
    let Q : Phase → Type 0 = λ x. header_asks o.size header (request_body header) ≡ asked (hear o x (u ++ piece)).answers in
    let W : Phase → Type 0 = λ x. front x u ≡ Partial in
    subst Q (sym p) (asks_here o u piece inbox.held.items header k (subst W p (rest_partial o Flags input)) l held m e whole))
