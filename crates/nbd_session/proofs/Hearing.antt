-- What the bytes amount to, taken in pieces.
use Rattle.std.proofs.Common.{◌≡◌, ℕ, zero, suc, ◌<◌, ◌≤◌, List, [], ◌∷◌, ◌++◌, length, take, drop, Option, Some, None, inl, inr}
use Rattle.std.proofs.Common.{refl, sym, ap, ◌∙◌, arith, append_assoc, length-append, length-drop}
use Rattle.std.proofs.lemmas.Bool.{cases_lt, lt-ltb, le-ltb}
use Rattle.std.proofs.lemmas.List.{take-append-le, drop-append-le}
use Rattle.nbd_session.specs.declared.phase.Phase.{Phase}
use Rattle.nbd_session.specs.declared.phase.Phase.TheVariants.{Flags, Options, Transmission, Ended}
use Rattle.nbd_session.specs.declared.offer.Offer.{Offer}
use Rattle.nbd_session.specs.Messages.{Front, Halt, Partial, Whole, body_size, front, front_of, header_size}
use Rattle.nbd_session.specs.Transmission.{Answer, Asks, Says}
use Rattle.nbd_session.specs.Answers.{answer, next_phase}
use Rattle.nbd_session.specs.Handshake.{greeting}
use Rattle.nbd_session.specs.Talk.{Heard, Judged, Verdict, after_answer, hear, hear_at_most, hear_front, read_reply, replies, talk}

-- how a front stands to that of the same bytes with more behind them
abbrev Extends : List ℕ → Front → Front → Type 0
Extends more Partial g = Unit {0}
Extends more Halt g = g ≡ Halt
Extends more (Whole m rest) g = g ≡ Whole m (rest ++ more)

front_of-append : (header rest more : List ℕ) (o : Option ℕ) → Extends more (front_of header rest o) (front_of header (rest ++ more) o)
front_of-append header rest more None = refl
front_of-append header rest more (Some n) =
    elim (cases_lt (length rest) n) [
      | inl h ↦ rw (lt-ltb (length rest) n h) tt
      | inr h ↦ let long : n ≤ length (rest ++ more) = omega (arith, length-append rest more) in
          rw (
            le-ltb (length rest) n h,
            le-ltb (length (rest ++ more)) n long,
            take-append-le n rest more h,
            drop-append-le n rest more h,
          ) refl
    ]

pub front-append : (phase : Phase) (bytes more : List ℕ) → Extends more (front phase bytes) (front phase (bytes ++ more))
front-append phase bytes more =
    elim (cases_lt (length bytes) (header_size phase)) [
      | inl h ↦ rw (lt-ltb (length bytes) (header_size phase) h) tt
      | inr h ↦ let long : header_size phase ≤ length (bytes ++ more) = omega (arith, length-append bytes more) in
          rw (
            le-ltb (length bytes) (header_size phase) h,
            le-ltb (length (bytes ++ more)) (header_size phase) long,
            take-append-le (header_size phase) bytes more h,
            drop-append-le (header_size phase) bytes more h,
          )
          (front_of-append (take (header_size phase) bytes) (drop (header_size phase) bytes) more
          (body_size phase (take (header_size phase) bytes)))
    ]

-- a whole message takes a byte at least
abbrev pub Shorter : ℕ → Front → Type 0
Shorter n Partial = Unit {0}
Shorter n Halt = Unit {0}
Shorter n (Whole m rest) = length rest < n

pub front_of-shorter : (n : ℕ) (header rest : List ℕ) (o : Option ℕ) → length rest < n → Shorter n (front_of header rest o)
front_of-shorter n header rest None h = tt
front_of-shorter n header rest (Some k) h =
    elim (cases_lt (length rest) k) [
      | inl l ↦ rw (lt-ltb (length rest) k l) tt
      | inr l ↦ rw (le-ltb (length rest) k l) (omega (arith, length-drop k rest))
    ]

front-shorter_by : (phase : Phase) (bytes : List ℕ) → 0 < header_size phase → Shorter (length bytes) (front phase bytes)
front-shorter_by phase bytes h =
    elim (cases_lt (length bytes) (header_size phase)) [
      | inl l ↦ rw (lt-ltb (length bytes) (header_size phase) l) tt
      | inr l ↦ rw (le-ltb (length bytes) (header_size phase) l)
          (front_of-shorter (length bytes) (take (header_size phase) bytes) (drop (header_size phase) bytes)
          (body_size phase (take (header_size phase) bytes)) (omega (arith, length-drop (header_size phase) bytes)))
    ]

pub front-shorter : (phase : Phase) (bytes : List ℕ) → Shorter (length bytes) (front phase bytes)
front-shorter Flags bytes = front-shorter_by Flags bytes (omega arith)
front-shorter (Options f z) bytes = front-shorter_by (Options f z) bytes (omega arith)
front-shorter Transmission bytes = front-shorter_by Transmission bytes (omega arith)
front-shorter Ended bytes = front-shorter_by Ended bytes (omega arith)

same_front : (offer : Offer) (phase : Phase) (bytes : List ℕ) (f : Front) (x y : Phase → List ℕ → Heard) →
    Shorter (length bytes) f → ((p : Phase) (r : List ℕ) → length r < length bytes → x p r ≡ y p r) →
    hear_front offer phase bytes x f ≡ hear_front offer phase bytes y f
same_front offer phase bytes Partial x y s h = refl
same_front offer phase bytes Halt x y s h = refl
same_front offer phase bytes (Whole m rest) x y s h = ap (after_answer (answer offer phase m)) (h (next_phase offer phase m) rest s)

none_at_most : (offer : Offer) (k : ℕ) (phase : Phase) →
    hear_at_most offer k phase [] ≡ record { answers = []; phase = phase; unfinished = [] }
none_at_most offer zero phase = refl
none_at_most offer (suc k) Flags = refl
none_at_most offer (suc k) (Options f z) = refl
none_at_most offer (suc k) Transmission = refl
none_at_most offer (suc k) Ended = refl

-- a bound above the length says no more
enough : (offer : Offer) (n k : ℕ) (phase : Phase) (bytes : List ℕ) → length bytes ≤ n → length bytes ≤ k →
    hear_at_most offer n phase bytes ≡ hear_at_most offer k phase bytes
enough offer zero k phase [] a b = sym (none_at_most offer k phase)
enough offer zero k phase (x ∷ xs) a b = absurd (omega arith)
enough offer (suc n) zero phase [] a b = none_at_most offer (suc n) phase
enough offer (suc n) zero phase (x ∷ xs) a b = absurd (omega arith)
enough offer (suc n) (suc k) phase bytes a b =
    same_front offer phase bytes (front phase bytes) (hear_at_most offer n) (hear_at_most offer k) (front-shorter phase bytes)
    (λ p r s. enough offer n k p r (omega arith) (omega arith))

-- what bytes amount to, by their front
pub hear-front : (offer : Offer) (phase : Phase) (bytes : List ℕ) →
    hear offer phase bytes ≡ hear_front offer phase bytes (hear offer) (front phase bytes)
hear-front offer phase bytes =
    enough offer (length bytes) (suc (length bytes)) phase bytes (omega arith) (omega arith)
    ∙ same_front offer phase bytes (front phase bytes) (hear_at_most offer (length bytes)) (hear offer) (front-shorter phase bytes)
    (λ p r s. enough offer (length bytes) (length r) p r (omega arith) (omega arith))

pub hear-ended : (offer : Offer) (bytes : List ℕ) → hear offer Ended bytes ≡ record { answers = []; phase = Ended; unfinished = [] }
hear-ended offer [] = refl
hear-ended offer (x ∷ xs) = rw (le-ltb (suc (length xs)) 1 (omega arith)) refl

-- answers given before
abbrev pub behind : List Answer → Heard → Heard
behind answers h = record { answers = answers ++ h.answers; phase = h.phase; unfinished = h.unfinished }

-- more bytes, after what was heard
abbrev pub go_on : Offer → Heard → List ℕ → Heard
go_on offer h more = behind h.answers (hear offer h.phase (h.unfinished ++ more))

append_front : (offer : Offer) (phase : Phase) (a b : List ℕ) (f g : Front) → Extends b f g → Shorter (length a) f
    → ((p : Phase) (r : List ℕ) → length r < length a → hear offer p (r ++ b) ≡ go_on offer (hear offer p r) b)
    → hear offer phase (a ++ b) ≡ hear_front offer phase (a ++ b) (hear offer) g
    → hear offer phase (a ++ b) ≡ go_on offer (hear_front offer phase a (hear offer) f) b
append_front offer phase a b Partial g x s h e = refl
append_front offer phase a b Halt g x s h e = e ∙ ap (hear_front offer phase (a ++ b) (hear offer)) x ∙ sym (hear-ended offer b)
append_front offer phase a b (Whole m rest) g x s h e =
    e ∙ ap (hear_front offer phase (a ++ b) (hear offer)) x ∙ ap (after_answer (answer offer phase m)) (h (next_phase offer phase m) rest s)

append_at_most : (offer : Offer) (n : ℕ) (phase : Phase) (a b : List ℕ) → length a < n →
    hear offer phase (a ++ b) ≡ go_on offer (hear offer phase a) b
append_at_most offer zero phase a b l = absurd (omega arith)
append_at_most offer (suc n) phase a b l =
    append_front offer phase a b (front phase a) (front phase (a ++ b)) (front-append phase a b) (front-shorter phase a)
    (λ p r s. append_at_most offer n p r b (omega arith)) (hear-front offer phase (a ++ b))
    ∙ ap (λ h. go_on offer h b) (sym (hear-front offer phase a))

-- Hearing goes on by pieces.
pub hear-append : (offer : Offer) (phase : Phase) (a b : List ℕ) → hear offer phase (a ++ b) ≡ go_on offer (hear offer phase a) b
hear-append offer phase a b = append_at_most offer (suc (length a)) phase a b (omega arith)

pub Judged-append : (P : ℕ → ℕ → Verdict → Type 0) (xs ys : List Answer) (vs ws : List Verdict) → Judged P xs vs → Judged P ys ws →
    Judged P (xs ++ ys) (vs ++ ws)
Judged-append P [] ys [] ws h k = k
Judged-append P [] ys (v ∷ vs) ws h k = absurd h
Judged-append P (Says bytes ∷ xs) ys vs ws h k = Judged-append P xs ys vs ws h k
Judged-append P (Asks o l c ∷ xs) ys [] ws h k = absurd h
Judged-append P (Asks o l c ∷ xs) ys (v ∷ vs) ws h k = (h.0, Judged-append P xs ys vs ws h.1 k)

pub replies-append : (P : ℕ → ℕ → Verdict → Type 0) (xs ys : List Answer) (vs ws : List Verdict) → Judged P xs vs →
    replies (xs ++ ys) (vs ++ ws) ≡ replies xs vs ++ replies ys ws
replies-append P [] ys [] ws h = refl
replies-append P [] ys (v ∷ vs) ws h = absurd h
replies-append P (Says bytes ∷ xs) ys vs ws h = ap (λ x. bytes ++ x) (replies-append P xs ys vs ws h)
    ∙ sym (append_assoc bytes (replies xs vs) (replies ys ws))
replies-append P (Asks o l c ∷ xs) ys [] ws h = absurd h
replies-append P (Asks o l c ∷ xs) ys (v ∷ vs) ws h = ap (λ x. read_reply c v ++ x) (replies-append P xs ys vs ws h.1)
    ∙ sym (append_assoc (read_reply c v) (replies xs vs) (replies ys ws))

pub Judged-weaker : (P Q : ℕ → ℕ → Verdict → Type 0) (xs : List Answer) (vs : List Verdict) →
    ((o l : ℕ) (v : Verdict) → P o l v → Q o l v) → Judged P xs vs → Judged Q xs vs
Judged-weaker P Q [] [] f h = tt
Judged-weaker P Q [] (v ∷ vs) f h = h
Judged-weaker P Q (Says bytes ∷ xs) vs f h = Judged-weaker P Q xs vs f h
Judged-weaker P Q (Asks o l c ∷ xs) [] f h = h
Judged-weaker P Q (Asks o l c ∷ xs) (v ∷ vs) f h = (f o l v h.0, Judged-weaker P Q xs vs f h.1)

-- The talk goes on by pieces.
pub talk-append : (P : ℕ → ℕ → Verdict → Type 0) (offer : Offer) (input piece : List ℕ) (vs ws : List Verdict) →
    Judged P (hear offer Flags input).answers vs
    → talk offer (input ++ piece) (vs ++ ws) ≡ talk offer input vs ++ replies
    (hear offer (hear offer Flags input).phase ((hear offer Flags input).unfinished ++ piece)).answers ws
talk-append P offer input piece vs ws h =
    ap (λ (x : Heard). greeting ++ replies x.answers (vs ++ ws)) (hear-append offer Flags input piece)
    ∙ ap (λ x. greeting ++ x) (replies-append P (hear offer Flags input).answers
    (hear offer (hear offer Flags input).phase ((hear offer Flags input).unfinished ++ piece)).answers vs ws h)
    ∙ sym (append_assoc greeting (replies (hear offer Flags input).answers vs)
    (replies (hear offer (hear offer Flags input).phase ((hear offer Flags input).unfinished ++ piece)).answers ws))
