-- What is noted of clients, and which of them have stalled.
use Rattle.std.proofs.Common.{◌≡◌, ◌≢◌, ◌<◌, ◌≤◌, ◌+◌, ◌⊎◌, ℕ, List, [], length, get_or, Bool, true, false, Option, Some}
use Rattle.std.proofs.Common.{slice_get, slice_set, nat_lt, refl, sym, ap, ◌∙◌, subst, inl, inr, arith}
use Rattle.std.specs.declared.time.Duration.{Duration}
use Rattle.std.proofs.lemmas.Bool.{cases_lt}
use Rattle.std.proofs.lemmas.Bool.Decides.{nat_tests}
use Rattle.std.proofs.lemmas.List.{length-set, get_or-set_same, nil_from_length}
use Rattle.std.proofs.lemmas.Option.{get_or_from_slice_get, slice_get_read, slice_get_within}
use Rattle.nbd_relay.specs.Client.{ClientState}
use Rattle.nbd_relay.specs.Clients.{Log}
use Rattle.nbd_serve.specs.declared.connected.Seat.{Seat}
use Rattle.nbd_serve.specs.declared.lull.Lull.{Lull}
use Rattle.nbd_serve.specs.Sockets.{SocketState}
use Rattle.nbd_serve.specs.Stalling.{Begins, IsNoted, is_pending, taken}

-- an element that was read is the one that stands there
pub read_is : {X : Type 0} (xs : List X) (i : ℕ) (d x : X) → d ≡ get_or xs i d → slice_get xs i ≡ Some x → d ≡ x
read_is xs i d x is there = is ∙ get_or_from_slice_get xs i x d there

-- memory is held for what is pending, and for nothing else
pub pends : (held : ℕ) (unsent : List ℕ) → (unsent ≡ [] → held ≡ 0) → 0 < held → 0 < length unsent
pends held unsent none some = elim (cases_lt 0 (length unsent)) [
  | inl l ↦ l
  | inr l ↦ let z = none (nil_from_length unsent (omega (arith, l))) in absurd (omega (arith, z, some))
]

same_tests : (a b : ℕ) → b ≤ a → (0 < a → 0 < b) → nat_lt 0 a ≡ nat_lt 0 b
same_tests a b less more = grind (arith, nat_tests, less, more)

pub pends_so : (held : ℕ) (unsent : List ℕ) → length unsent ≤ held → (unsent ≡ [] → held ≡ 0)
    → nat_lt 0 held ≡ nat_lt 0 (length unsent)
pends_so held unsent covers none = same_tests held (length unsent) covers (pends held unsent none)

pub is_noted : {C : Type 0} (log : C → Log) (clients : List (ClientState × SocketState C)) (seats : List Seat) (at : ℕ)
    (client : ClientState × SocketState C) (seat : Seat) → at < length clients → at < length seats → client ≡ get_or clients at client
    → seat.lull.taken ≡ taken log client.1 → seat.lull.pending ≡ is_pending client.0
    → IsNoted log clients (slice_set seats at seat) at
is_noted log clients seats at client seat l m is took pending = record {
  client = client;
  is_there = slice_get_read clients (length clients) at client refl l is;
  seat = seat;
  sits = slice_get_read (slice_set seats at seat) (length seats) at seat (sym (length-set seats at seat)) m
      (sym (get_or-set_same seats at seat seat m));
  took = took;
  pends = pending;
}

-- another lull was put in place of this seat's
pub begins_at : (seats : List Seat) (at : ℕ) (was is old new : Seat) (now : Option Duration) → at < length seats → was ≡ get_or seats at was
    → Begins was.lull is.lull now → slice_get seats at ≡ Some old → slice_get (slice_set seats at is) at ≡ Some new
    → Begins old.lull new.lull now
begins_at seats at was is old new now l read b there there' =
    let same : was ≡ old = read_is seats at was old read there in
    let put : is ≡ new = read_is (slice_set seats at is) at is new (sym (get_or-set_same seats at is is l)) there' in
    subst (λ (s : Seat). Begins old.lull s.lull now) put (subst (λ (s : Seat). Begins s.lull is.lull now) same b)

-- the lull of what it was
pub begins_so : (old new : Lull) (now : Option Duration) (pending : Bool) (count : ℕ) → new.taken ≡ count
    → ((old.pending ≡ false) ⊎ (pending ≡ false) ⊎ (count ≢ old.taken) → new.since ≡ now) → Begins old new now
begins_so old new now pending count is f = λ x. f (elim x [
  | inl more ↦ inr (inr (λ e. more (sym (is ∙ e))))
  | inr none ↦ inl none
])

module _ {S : Type 0} (clients : List (ClientState × S)) where
  -- of the first clients none is held back
  abbrev pub NoneIsHeldBack : ℕ → Type 0
  NoneIsHeldBack n = (at : ℕ) (client : ClientState × S) → at < n → slice_get clients at ≡ Some client → client.0.unsent ≡ []
      → client.0.over ≡ false → client.0.waiting ≡ []

  pub held_back_none : NoneIsHeldBack 0
  held_back_none at client l there = absurd (omega (arith, l))

  pub held_back_more : (i : ℕ) (d : ClientState × S) (fed : Bool) → d ≡ get_or clients i d → fed ≡ false
      → (d.0.unsent ≡ [] → d.0.over ≡ false → 0 < length d.0.waiting → fed ≡ true) → NoneIsHeldBack i → NoneIsHeldBack (i + 1)
  held_back_more i d fed is not feeds none at client l there sent goes = elim (cases_lt at i) [
    | inl m ↦ none at client m there sent goes
    | inr m ↦
        let here : at ≡ i = omega (arith, l, m) in
        let same : d ≡ client = read_is clients i d client is (subst (λ k. slice_get clients k ≡ Some client) here there) in
        elim (cases_lt 0 (length client.0.waiting)) [
          | inl w ↦
              let was = feeds (ap (λ z. z.0.unsent) same ∙ sent) (ap (λ z. z.0.over) same ∙ goes)
              (subst (λ (z : ClientState × S). 0 < length z.0.waiting) (sym same) w) in
              absurd (let z : ⊥ = cc in z)
          | inr w ↦ nil_from_length client.0.waiting (omega (arith, w))
        ]
  ]

  pub held_back_all : (n : ℕ) → length clients ≤ n → NoneIsHeldBack n → (at : ℕ) (client : ClientState × S)
      → slice_get clients at ≡ Some client → client.0.unsent ≡ [] → client.0.over ≡ false → client.0.waiting ≡ []
  held_back_all n all none at client there sent goes =
      none at client (omega (arith, slice_get_within clients at client there, all)) there sent goes
