-- What waiting requests ask for, header after header.
use Rattle.std.proofs.Common.{◌≡◌, ◌≤◌, ◌<◌, ◌+◌, ◌-◌, ◌++◌, ◌==◌, ◌&&◌, nat_le, ℕ, Bool, true, false, List, [], ◌∷◌, Some}
use Rattle.std.proofs.Common.{length, take, drop, set, refl, sym, ap, ◌∙◌, subst, arith, append_assoc, append-nil, length-take}
use Rattle.std.proofs.Common.{length-drop}
use Rattle.std.proofs.lemmas.Bool.{le-ltb, leb-true}
use Rattle.std.proofs.lemmas.List.{take_more_set, drop-drop}
use Rattle.nbd_session.specs.declared.phase.Phase.{Phase}
use Rattle.nbd_session.specs.declared.phase.Phase.TheVariants.{Flags, Transmission}
use Rattle.nbd_session.specs.declared.offer.Offer.{Offer}
use Rattle.nbd_session.specs.declared.inbox.Inbox.{Inbox}
use Rattle.nbd_session.specs.declared.transmission.Request.{Request}
use Rattle.nbd_session.specs.Protocol.{max_length}
use Rattle.nbd_session.specs.Messages.{Message, Front, Whole, front, front_of}
use Rattle.nbd_session.specs.Transmission.{Answer, Asks, request_of, request_answer, phase_after_request, may_read}
use Rattle.nbd_session.specs.Talk.{Heard, hear, hear_front}
use Rattle.nbd_session.specs.Inbox.{kept}
use Rattle.nbd_session.specs.Session.{State, IsAt, added}
use Rattle.nbd_session.specs.Export.{IsWithin}
use Rattle.nbd_session.specs.Announcing.{AsksFirst, IsReadOf}
use Rattle.nbd_session.proofs.Hearing.{hear-front}
use Rattle.nbd_session.proofs.Reading.{read_asks}
use Rattle.nbd_session.proofs.Shorter.{and_right}
use Rattle.nbd_session.proofs.Feeding.{state_of}

-- an allowed READ doesn't go past the end
pub within_of : (size : ℕ) (header : List ℕ) (range : ℕ × ℕ) → IsReadOf size header range → IsWithin size range
within_of size header range r =
    let q = request_of header in
    let le : q.offset + q.len ≤ size = leb-true (q.offset + q.len) size
    (and_right ((q.flags == 0) && nat_le q.len max_length) (nat_le (q.offset + q.len) size) r.allowed) in
    omega (arith, le, r.offset, r.len)

read_first : (size : ℕ) (q : Request) → q.kind ≡ 0 → true ≡ may_read size q → (q.len ≡ 0 → ⊥) →
    request_answer size q ≡ Asks q.offset q.len q.cookie
read_first size q k m n = rw k (read_asks size q m n)

goes_on : (q : Request) → q.kind ≡ 0 → phase_after_request q ≡ Transmission
goes_on q k = rw k refl

no_body : (h rest : List ℕ) → front_of h rest (Some 0) ≡ Whole (record { header = h; body = [] }) rest
no_body h rest = rw (le-ltb (length rest) 0 (omega arith)) refl

-- the range comes first, and then what the bytes behind its header ask for
pub asks_next : (offer : Offer) (bytes : List ℕ) (range : ℕ × ℕ) (more : List (ℕ × ℕ)) → 28 ≤ length bytes
    → IsReadOf offer.size (take 28 bytes) range → AsksFirst more (hear offer Transmission (drop 28 bytes)).answers
    → AsksFirst (range ∷ more) (hear offer Transmission bytes).answers
asks_next offer bytes range more enough r then =
    let h = take 28 bytes in
    let rest = drop 28 bytes in
    let q = request_of h in
    let m : Message = record { header = h; body = [] } in
    let whole : front Transmission bytes ≡ Whole m rest =
    rw (le-ltb (length bytes) 28 enough) (ap (front_of h rest) r.body ∙ no_body h rest) in
    let asks_is = read_first offer.size q r.kind (sym r.allowed) (λ z. omega (arith, z, r.len, r.some)) in
    let Q : Answer → Phase → Type 0 = λ a p. AsksFirst (range ∷ more) (a ∷ (hear offer p rest).answers) in
    let P : Front → Type 0 = λ f. AsksFirst (range ∷ more) (hear_front offer Transmission bytes (hear offer) f).answers in
    let H : Heard → Type 0 = λ x. AsksFirst (range ∷ more) x.answers in
    subst H (sym (hear-front offer Transmission bytes)) (subst P (sym whole)
    (subst (λ a. Q a (phase_after_request q)) (sym asks_is) (subst (Q (Asks q.offset q.len q.cookie)) (sym (goes_on q r.kind))
    (r.offset, r.len, then))))

-- one more range is noted
pub noted_on : (offer : Offer) (waiting header : List ℕ) (ranges : List (ℕ × ℕ)) (noted place : ℕ) (range : ℕ × ℕ)
    → noted < length ranges → place + 28 ≤ length waiting → header ≡ take (place + 28 - place) (drop place waiting)
    → IsReadOf offer.size header range
    → ((more : List (ℕ × ℕ)) → AsksFirst more (hear offer Transmission (drop place waiting)).answers
    → AsksFirst (take noted ranges ++ more) (hear offer Transmission waiting).answers)
    → (more : List (ℕ × ℕ)) → AsksFirst more (hear offer Transmission (drop (place + 28) waiting)).answers
    → AsksFirst (take (noted + 1) (set ranges noted range) ++ more) (hear offer Transmission waiting).answers
noted_on offer waiting header ranges noted place range few enough is r i more a =
    let bytes = drop place waiting in
    let n : place + 28 - place ≡ 28 = omega arith in
    let R : List ℕ → Type 0 = λ h. IsReadOf offer.size h range in
    let A : List ℕ → Type 0 = λ xs. AsksFirst more (hear offer Transmission xs).answers in
    let N : List (ℕ × ℕ) → Type 0 = λ xs. AsksFirst xs (hear offer Transmission waiting).answers in
    let next = asks_next offer bytes range more (omega (arith, length-drop place waiting, enough))
    (subst R (is ∙ ap (λ k. take k bytes) n) r) (subst A (sym (drop-drop 28 place waiting)) a) in
    subst N (sym (ap (λ xs. xs ++ more) (take_more_set ranges noted range few) ∙ append_assoc (take noted ranges) (range ∷ []) more))
    (i (range ∷ more) next)

-- and no more
pub noted_all : (ranges : List (ℕ × ℕ)) (answers : List Answer) → AsksFirst (ranges ++ []) answers → AsksFirst ranges answers
noted_all ranges answers a = let P : List (ℕ × ℕ) → Type 0 = λ xs. AsksFirst xs answers in subst P (append-nil ranges) a

none_of : (xs : List ℕ) → take 28 xs ≡ [] → xs ≡ []
none_of [] e = refl
none_of (x ∷ xs) e = absurd (omega (arith, ap length e, length-take 28 (x ∷ xs)))

pub empty_of : (xs : List ℕ) → length xs ≡ 0 → xs ≡ []
empty_of [] e = refl
empty_of (x ∷ xs) e = absurd (omega (arith, e))

-- the same of a session whose next byte begins a request
pub session_ahead : {A : Type 0} (o : Offer) (inbox : Inbox A) (starved : Bool) (s : State) (input waiting : List ℕ)
    (ranges : List (ℕ × ℕ)) → state_of o inbox starved ≡ s → inbox.phase ≡ Transmission → inbox.held.items ≡ []
    → AsksFirst ranges (hear o Transmission waiting).answers → s.starved ≡ false → IsAt s input
    → AsksFirst ranges (added s.offer input waiting)
session_ahead o inbox starved s input waiting ranges v t e n =
    let h = hear o Flags input in
    let u = h.unfinished in
    let P : State → Type 0 = λ x. x.starved ≡ false → IsAt x input → AsksFirst ranges (added x.offer input waiting) in
    subst P v (λ f a.
    let r = a f in
    let p : h.phase ≡ Transmission = sym r.phase ∙ t in
    let none : take 28 u ≡ [] = sym (ap (λ x. kept x u) p) ∙ sym r.held ∙ e in
    let Q : Phase → List ℕ → Type 0 = λ x y. AsksFirst ranges (hear o x (y ++ waiting)).answers in
    subst (λ x. Q x u) (sym p) (subst (Q Transmission) (sym (none_of u none)) n))
