-- A piece as short as a request's header makes one READ whole at most.
use Rattle.std.proofs.Common.{◌≡◌, ◌≤◌, ◌<◌, ◌+◌, ◌++◌, ◌==◌, ◌&&◌, ◌||◌, nat_le, if◌then◌else◌, ℕ, zero, suc, Bool, true, false}
use Rattle.std.proofs.Common.{List, [], ◌∷◌, length, take, drop, Option, Some, None, inl, inr, refl, sym, ap, ◌∙◌, subst, arith}
use Rattle.std.proofs.Common.{length-append, length-drop, length-take}
use Rattle.std.proofs.lemmas.Bool.{cases_Bool, cases_lt, lt-ltb, le-ltb, leb-true}
use Rattle.std.proofs.lemmas.List.{take-append-le, drop-append-le}
use Rattle.nbd_session.specs.declared.phase.Phase.{Phase}
use Rattle.nbd_session.specs.declared.phase.Phase.TheVariants.{Flags, Options, Transmission, Ended}
use Rattle.nbd_session.specs.declared.offer.Offer.{Offer}
use Rattle.nbd_session.specs.declared.transmission.Request.{Request}
use Rattle.nbd_session.specs.Protocol.{short, longest_reply, max_length, nbd_cmd_read, nbd_cmd_disc, nbd_cmd_write, nbd_cmd_trim}
use Rattle.nbd_session.specs.Protocol.{nbd_cmd_write_zeroes, nbd_eperm, nbd_einval}
use Rattle.nbd_session.specs.Messages.{Front, Partial, Whole, Halt, front, front_of, header_size, body_size}
use Rattle.nbd_session.specs.Transmission.{Answer, Says, Asks, request_of, request_answer, read_answer, may_read, simple_reply}
use Rattle.nbd_session.specs.Answers.{answer, next_phase}
use Rattle.nbd_session.specs.Talk.{Heard, hear, hear_front, Verdict, Bytes, Refused, Judged, replies, read_reply}
use Rattle.nbd_session.specs.Session.{added}
use Rattle.nbd_session.specs.Export.{Facts, Fair}
use Rattle.nbd_session.specs.Short.{asks, asked, reply_head, AsksOnce, RepliesOnce, RepliesWithin}
use Rattle.nbd_session.proofs.Hearing.{Shorter, front_of-shorter, front-shorter, hear-front, hear-ended}
use Rattle.nbd_session.proofs.Moving.{rest_partial}
use Rattle.nbd_session.proofs.Waiting.{front_short}

-- a message that a piece makes whole leaves less than the piece

front_of_within : (header rest more : List ℕ) (o : Option ℕ) → front_of header rest o ≡ Partial →
    Shorter (length more) (front_of header (rest ++ more) o)
front_of_within header rest more None p = absurd (let q : ⊥ = cc in q)
front_of_within header rest more (Some n) p =
    elim (cases_lt (length rest) n) [
      | inl l ↦ elim (cases_lt (length (rest ++ more)) n) [
        | inl k ↦ rw (lt-ltb (length (rest ++ more)) n k) tt
        | inr k ↦ rw (le-ltb (length (rest ++ more)) n k) (omega (arith, length-drop n (rest ++ more), length-append rest more))
      ]
      | inr l ↦ let q = rw (le-ltb (length rest) n l) at p in absurd (let z : ⊥ = cc in z)
    ]

pub front_within : (phase : Phase) (u piece : List ℕ) → front phase u ≡ Partial → Shorter (length piece) (front phase (u ++ piece))
front_within phase u piece p =
    elim (cases_lt (length u) (header_size phase)) [
      | inl l ↦ elim (cases_lt (length (u ++ piece)) (header_size phase)) [
        | inl k ↦ rw (lt-ltb (length (u ++ piece)) (header_size phase) k) tt
        | inr k ↦ rw (le-ltb (length (u ++ piece)) (header_size phase) k)
            (front_of-shorter (length piece) (take (header_size phase) (u ++ piece)) (drop (header_size phase) (u ++ piece))
            (body_size phase (take (header_size phase) (u ++ piece)))
            (omega (arith, length-drop (header_size phase) (u ++ piece), length-append u piece)))
      ]
      | inr l ↦ let q = rw (le-ltb (length u) (header_size phase) l) at p in
          let long : header_size phase ≤ length (u ++ piece) = omega (arith, length-append u piece) in
          rw (
            le-ltb (length (u ++ piece)) (header_size phase) long,
            take-append-le (header_size phase) u piece l,
            drop-append-le (header_size phase) u piece l,
          )
          (front_of_within (take (header_size phase) u) (drop (header_size phase) u) piece (body_size phase (take (header_size phase) u)) q)
    ]

-- less than a request's header asks for nothing

few_front : (offer : Offer) (phase : Phase) (bytes : List ℕ) (f : Front) → front phase bytes ≡ f → length bytes < short →
    Shorter (length bytes) f
    → ((p : Phase) (r : List ℕ) → length r < length bytes → asks (hear offer p r).answers ≡ 0) →
    asks (hear_front offer phase bytes (hear offer) f).answers ≡ 0
few_front offer phase bytes Partial e l s h = refl
few_front offer phase bytes Halt e l s h = refl
few_front offer Flags bytes (Whole m rest) e l s h = h (next_phase offer Flags m) rest s
few_front offer (Options f z) bytes (Whole m rest) e l s h = h (next_phase offer (Options f z) m) rest s
few_front offer Transmission bytes (Whole m rest) e l s h = let q = front_short Transmission bytes l in absurd (let z : ⊥ = cc in z)
few_front offer Ended bytes (Whole m rest) e l s h = h (next_phase offer Ended m) rest s

pub few : (offer : Offer) (n : ℕ) (phase : Phase) (bytes : List ℕ) → length bytes < n → length bytes < short →
    asks (hear offer phase bytes).answers ≡ 0
few offer zero phase bytes l m = absurd (omega arith)
few offer (suc n) phase bytes l m =
    ap (λ (h : Heard). asks h.answers) (hear-front offer phase bytes)
    ∙ few_front offer phase bytes (front phase bytes) refl m (front-shorter phase bytes)
    (λ p r s. few offer n p r (omega arith) (omega arith))

one_more : (a : Answer) (xs : List Answer) → asks xs ≡ 0 → asks (a ∷ xs) ≤ 1
one_more (Says bytes) xs e = omega arith
one_more (Asks offset len cookie) xs e = omega arith

once_front : (offer : Offer) (phase : Phase) (bytes : List ℕ) (k : ℕ) (f : Front) → k ≤ short → Shorter k f →
    asks (hear_front offer phase bytes (hear offer) f).answers ≤ 1
once_front offer phase bytes k Partial l s = omega arith
once_front offer phase bytes k Halt l s = omega arith
once_front offer phase bytes k (Whole m rest) l s =
    one_more (answer offer phase m) (hear offer (next_phase offer phase m) rest).answers
    (few offer (suc (length rest)) (next_phase offer phase m) rest (omega arith) (omega arith))

pub asks_once : AsksOnce
asks_once offer input piece l =
    let h = hear offer Flags input in
    let P : Heard → Type 0 = λ x. asks x.answers ≤ 1 in
    subst P (sym (hear-front offer h.phase (h.unfinished ++ piece)))
    (once_front offer h.phase (h.unfinished ++ piece) (length piece) (front h.phase (h.unfinished ++ piece)) l
    (front_within h.phase h.unfinished piece (rest_partial offer Flags input)))

-- one reply, in transmission

-- nothing, one reply without bytes, or one range
abbrev pub IsOneReply : List Answer → Type 0
IsOneReply [] = Unit {0}
IsOneReply (Says bytes ∷ []) = length bytes ≤ 16
IsOneReply (Asks offset len cookie ∷ []) = (len ≤ max_length) × (length cookie ≤ 8)
IsOneReply (a ∷ b ∷ more) = ⊥

pub and_right : (a b : Bool) → (a && b) ≡ true → b ≡ true
and_right true b e = e
and_right false b e = absurd (let q : ⊥ = cc in q)

pub and_left : (a b : Bool) → (a && b) ≡ true → a ≡ true
and_left true b e = refl
and_left false b e = absurd (let q : ⊥ = cc in q)

simple_len : (error : ℕ) (cookie : List ℕ) → length cookie ≤ 8 → length (simple_reply error cookie) ≤ 16
simple_len error cookie h = omega arith

read_bound : (size : ℕ) (r : Request) → length r.cookie ≤ 8 → IsOneReply (read_answer size r ∷ [])
read_bound size r h =
    elim (cases_Bool (may_read size r)) [
      | inl e ↦ elim (cases_Bool (r.len == 0)) [
        | inl z ↦ rw (e, z) (simple_len 0 r.cookie h)
        | inr z ↦ rw (e, z) (
          leb-true r.len max_length (and_right (r.flags == 0) (nat_le r.len max_length)
              (and_left ((r.flags == 0) && nat_le r.len max_length) (nat_le (r.offset + r.len) size) e)),
          h,
        )
      ]
      | inr e ↦ rw e (simple_len nbd_einval r.cookie h)
    ]

reply_bound : (size : ℕ) (r : Request) → length r.cookie ≤ 8 → IsOneReply (request_answer size r ∷ [])
reply_bound size r h =
    elim (cases_Bool (r.kind == nbd_cmd_read)) [
      | inl e ↦ rw e (read_bound size r h)
      | inr e ↦ elim (cases_Bool (r.kind == nbd_cmd_disc)) [
        | inl d ↦ rw (e, d) (omega arith)
        | inr d ↦ elim (cases_Bool ((r.kind == nbd_cmd_write) || (r.kind == nbd_cmd_trim) || (r.kind == nbd_cmd_write_zeroes))) [
          | inl w ↦ rw (e, d, w) (simple_len nbd_eperm r.cookie h)
          | inr w ↦ rw (e, d, w) (simple_len nbd_einval r.cookie h)
        ]
      ]
    ]

-- the next message isn't whole
pub silent : (offer : Offer) (over : Bool) (rest : List ℕ) → length rest < short →
    (hear offer (if over then Ended else Transmission) rest).answers ≡ []
silent offer true rest l = ap (λ (h : Heard). h.answers) (hear-ended offer rest)
silent offer false rest l =
    ap (λ (h : Heard). h.answers) (hear-front offer Transmission rest ∙ ap (hear_front offer Transmission rest (hear offer))
    (front_short Transmission rest l))

reply_front : (offer : Offer) (bytes : List ℕ) (k : ℕ) (f : Front) → k ≤ short → Shorter k f →
    IsOneReply (hear_front offer Transmission bytes (hear offer) f).answers
reply_front offer bytes k Partial l s = tt
reply_front offer bytes k Halt l s = tt
reply_front offer bytes k (Whole m rest) l s =
    let r = request_of m.header in
    let P : List Answer → Type 0 = λ xs. IsOneReply (request_answer offer.size r ∷ xs) in
    subst P (sym (silent offer (r.kind == nbd_cmd_disc) rest (omega arith)))
    (reply_bound offer.size r (omega (arith, length-take 8 (drop 8 m.header))))

verdict_len : (P : ℕ → ℕ → Verdict → Type 0) (offset len : ℕ) (cookie : List ℕ) (v : Verdict) →
    ((o l : ℕ) (bytes : List ℕ) → P o l (Bytes bytes) → length bytes ≡ l) → len ≤ max_length → length cookie ≤ 8
    → P offset len v → length (read_reply cookie v ++ []) ≤ longest_reply
verdict_len P offset len cookie (Bytes bytes) f l c h =
    omega (
      arith,
      f offset len bytes h,
      length-append (simple_reply 0 cookie) bytes,
      length-append (simple_reply 0 cookie ++ bytes) [],
      simple_len 0 cookie c,
    )
verdict_len P offset len cookie (Refused error) f l c h =
    omega (arith, length-append (simple_reply error cookie) [], simple_len error cookie c)

reply_len : (P : ℕ → ℕ → Verdict → Type 0) (answers : List Answer) (verdicts : List Verdict) →
    ((o l : ℕ) (bytes : List ℕ) → P o l (Bytes bytes) → length bytes ≡ l)
    → IsOneReply answers → Judged P answers verdicts → length (replies answers verdicts) ≤ longest_reply
reply_len P [] verdicts f i j = omega arith
reply_len P (Says bytes ∷ []) verdicts f i j = omega (arith, length-append bytes [])
reply_len P (Asks offset len cookie ∷ []) [] f i j = absurd j
reply_len P (Asks offset len cookie ∷ []) (v ∷ verdicts) f i j = verdict_len P offset len cookie v f i.0 i.1 j.0
reply_len P (a ∷ b ∷ more) verdicts f i j = absurd i

pub one_reply : (offer : Offer) (input piece : List ℕ) → (hear offer Flags input).phase ≡ Transmission → length piece ≤ short →
    IsOneReply (added offer input piece)
one_reply offer input piece t l =
    let h = hear offer Flags input in
    let bytes = h.unfinished ++ piece in
    let Q : Phase → Type 0 = λ p. front p h.unfinished ≡ Partial in
    let p : front Transmission h.unfinished ≡ Partial = subst Q t (rest_partial offer Flags input) in
    let R : Heard → Type 0 = λ x. IsOneReply x.answers in
    let one : IsOneReply (hear offer Transmission bytes).answers =
    subst R (sym (hear-front offer Transmission bytes)) (reply_front offer bytes (length piece) (front Transmission bytes) l
    (front_within Transmission h.unfinished piece p)) in
    let S : Phase → Type 0 = λ x. IsOneReply (hear offer x bytes).answers in
    subst S (sym t) one

pub replies_once : (P : ℕ → ℕ → Verdict → Type 0) → ((o l : ℕ) (bytes : List ℕ) → P o l (Bytes bytes) → length bytes ≡ l) → RepliesOnce P
replies_once P f offer input piece verdicts t l j =
    reply_len P (added offer input piece) verdicts f (one_reply offer input piece t l) j

verdict_within : (P : ℕ → ℕ → Verdict → Type 0) (offset len : ℕ) (cookie : List ℕ) (v : Verdict) →
    ((o l : ℕ) (bytes : List ℕ) → P o l (Bytes bytes) → length bytes ≡ l) → length cookie ≤ 8
    → P offset len v → length (read_reply cookie v ++ []) ≤ 16 + len
verdict_within P offset len cookie (Bytes bytes) f c h =
    omega (
      arith,
      f offset len bytes h,
      length-append (simple_reply 0 cookie) bytes,
      length-append (simple_reply 0 cookie ++ bytes) [],
      simple_len 0 cookie c,
    )
verdict_within P offset len cookie (Refused error) f c h =
    omega (arith, length-append (simple_reply error cookie) [], simple_len error cookie c)

reply_within : (P : ℕ → ℕ → Verdict → Type 0) (answers : List Answer) (verdicts : List Verdict) →
    ((o l : ℕ) (bytes : List ℕ) → P o l (Bytes bytes) → length bytes ≡ l)
    → IsOneReply answers → Judged P answers verdicts → length (replies answers verdicts) ≤ reply_head + asked answers
reply_within P [] verdicts f i j = omega arith
reply_within P (Says bytes ∷ []) verdicts f i j = omega (arith, length-append bytes [])
reply_within P (Asks offset len cookie ∷ []) [] f i j = absurd j
reply_within P (Asks offset len cookie ∷ []) (v ∷ verdicts) f i j =
    let h = verdict_within P offset len cookie v f i.1 j.0 in omega (arith, h)
reply_within P (a ∷ b ∷ more) verdicts f i j = absurd i

pub replies_within : (P : ℕ → ℕ → Verdict → Type 0) → ((o l : ℕ) (bytes : List ℕ) → P o l (Bytes bytes) → length bytes ≡ l) →
    RepliesWithin P
replies_within P f offer input piece verdicts t l j =
    reply_within P (added offer input piece) verdicts f (one_reply offer input piece t l) j

pub fair_len : (a b : Facts) (offset len : ℕ) (bytes : List ℕ) → Fair a b offset len (Bytes bytes) → length bytes ≡ len
fair_len a b offset len bytes h = h.exact
