-- What an inbox keeps, and the front of the bytes that it stands for.
use Rattle.std.proofs.Common.{◌≡◌, ℕ, ◌+◌, ◌-◌, ◌<◌, ◌≤◌, List, [], ◌++◌, length, take, drop, Option, Some, None, inl, inr, refl}
use Rattle.std.proofs.Common.{sym, ◌∙◌, subst, arith, length-append, length-drop}
use Rattle.std.proofs.lemmas.Bool.{cases_lt, lt-ltb, le-ltb}
use Rattle.std.proofs.lemmas.List.{take_all, drop_all, take-append-le, drop-append-le, take-take}
use Rattle.nbd_session.specs.declared.phase.Phase.{Phase}
use Rattle.nbd_session.specs.declared.phase.Phase.TheVariants.{Flags, Options, Transmission, Ended}
use Rattle.nbd_session.specs.Messages.{Partial, Whole, body_size, front, front_of, header_size}
use Rattle.nbd_session.specs.Inbox.{kept, with_body, lacking, missing_of, HasBody}

kept_short : (phase : Phase) (u : List ℕ) → length u ≤ header_size phase → kept phase u ≡ u
kept_short Flags u h = refl
kept_short (Options f z) u h = refl
kept_short Transmission u h = take_all 28 u h
kept_short Ended u h = refl

-- a body lacks something where the message isn't whole
lacks : (header rest : List ℕ) (o : Option ℕ) → front_of header rest o ≡ Partial → lacking (length rest) o ≡ 0 → ⊥
lacks header rest None p m = cc
lacks header rest (Some n) p m =
    elim (cases_lt (length rest) n) [
      | inl l ↦ omega (arith, m)
      | inr l ↦ let q = rw (le-ltb (length rest) n l) at p in cc
    ]

short : (phase : Phase) (u : List ℕ) → front phase u ≡ Partial → missing_of phase u ≡ 0 → length u < header_size phase
short phase u p m =
    elim (cases_lt (length u) (header_size phase)) [
      | inl l ↦ l
      | inr l ↦ let q = rw (le-ltb (length u) (header_size phase) l) at p in
          let k = rw (le-ltb (length u) (header_size phase) l, ← length-drop (header_size phase) u) at m in
          absurd (lacks (take (header_size phase) u) (drop (header_size phase) u) (body_size phase (take (header_size phase) u)) q k)
    ]

-- while the header comes, all is held
pub held_header : (phase : Phase) (u held : List ℕ) (m : ℕ) → front phase u ≡ Partial → held ≡ kept phase u →
    m ≡ missing_of phase u → m ≡ 0 → held ≡ u
held_header phase u held m p e f z = let l = short phase u p (sym f ∙ z) in e ∙ kept_short phase u (omega arith)

pub front_short : (phase : Phase) (v : List ℕ) → length v < header_size phase → front phase v ≡ Partial
front_short phase v l = rw (lt-ltb (length v) (header_size phase) l) refl

pub kept_before : (phase : Phase) (v : List ℕ) → length v < header_size phase → kept phase v ≡ v
kept_before phase v l = kept_short phase v (omega arith)

pub missing_short : (phase : Phase) (v : List ℕ) → length v < header_size phase → missing_of phase v ≡ 0
missing_short phase v l = rw (lt-ltb (length v) (header_size phase) l) refl

-- where the header has come whole
pub front_at : (phase : Phase) (v : List ℕ) (o : Option ℕ) → length v ≡ header_size phase → o ≡ body_size phase v →
    front phase v ≡ front_of v [] o
front_at phase v o l e =
    let a : header_size phase ≤ length v = omega arith in
    let b : length v ≤ header_size phase = omega arith in
    rw (le-ltb (length v) (header_size phase) a, take_all (header_size phase) v b, drop_all (header_size phase) v b, e) refl

pub missing_at : (phase : Phase) (v : List ℕ) (n : ℕ) → length v ≡ header_size phase → Some n ≡ body_size phase v → n ≡ missing_of phase v
missing_at phase v n l e =
    let a : header_size phase ≤ length v = omega arith in
    let b : length v ≤ header_size phase = omega arith in
    let z : length v - header_size phase ≡ 0 = omega arith in
    rw (le-ltb (length v) (header_size phase) a, take_all (header_size phase) v b, ← e, z) (omega arith)

pub kept_at : (phase : Phase) (v : List ℕ) → length v ≡ header_size phase → kept phase v ≡ v
kept_at phase v l = kept_short phase v (omega arith)

pub front_needs : (phase : Phase) (v : List ℕ) (n : ℕ) → length v ≡ header_size phase → Some n ≡ body_size phase v → (n ≡ 0 → ⊥) →
    front phase v ≡ Partial
front_needs phase v n l e z = front_at phase v (Some n) l e ∙ rw (lt-ltb 0 n (omega (arith, z))) refl

pub no_body : (phase : Phase) (held : List ℕ) → length held ≡ header_size phase → HasBody phase held []
no_body Flags held l = sym (drop_all 4 held (omega arith))
no_body (Options f z) held l = sym (drop_all 16 held (omega arith))
no_body Transmission held l = tt
no_body Ended held l = tt

-- while a body comes

body_from : (come m : ℕ) (o : Option ℕ) → m ≡ lacking come o → 0 < m → (n : ℕ) × (o ≡ Some n) × (come + m ≡ n)
body_from come m None e h = absurd (omega arith)
body_from come m (Some n) e h = (n, refl, omega arith)

-- the header has come, and of its body m bytes are to come
pub record Comes (phase : Phase) (u : List ℕ) (m : ℕ) : Type 0 where
  pub size : ℕ
  pub header : header_size phase ≤ length u
  pub tells : body_size phase (take (header_size phase) u) ≡ Some size
  pub rest : length (drop (header_size phase) u) + m ≡ size

pub comes : (phase : Phase) (u : List ℕ) (m : ℕ) → m ≡ missing_of phase u → 0 < m → Comes phase u m
comes phase u m f h =
    elim (cases_lt (length u) (header_size phase)) [
      | inl l ↦ let k = rw (lt-ltb (length u) (header_size phase) l) at f in absurd (omega arith)
      | inr l ↦ let k = rw (le-ltb (length u) (header_size phase) l) at f in
          let b = body_from (length u - header_size phase) m (body_size phase (take (header_size phase) u)) k h in
          record { size = b.0; header = l; tells = b.1; rest = omega (arith, b.2, length-drop (header_size phase) u) }
    ]

front_body : (phase : Phase) (u c : List ℕ) (m : ℕ) (k : Comes phase u m) →
    front phase (u ++ c) ≡ front_of (take (header_size phase) u) (drop (header_size phase) u ++ c) (Some k.size)
front_body phase u c m k =
    let l : header_size phase ≤ length (u ++ c) = omega (arith, length-append u c, k.header) in
    let h = k.header in
    rw (
      le-ltb (length (u ++ c)) (header_size phase) l,
      take-append-le (header_size phase) u c h,
      drop-append-le (header_size phase) u c h,
      k.tells,
    ) refl

pub front_comes : (phase : Phase) (u c : List ℕ) (m : ℕ) → Comes phase u m → length c < m → front phase (u ++ c) ≡ Partial
front_comes phase u c m k l =
    let s : length (drop (header_size phase) u ++ c) < k.size = omega (arith, length-append (drop (header_size phase) u) c, k.rest) in
    front_body phase u c m k ∙ rw (lt-ltb (length (drop (header_size phase) u ++ c)) k.size s) refl

pub missing_comes : (phase : Phase) (u c : List ℕ) (m r : ℕ) → Comes phase u m → length c + r ≡ m → r ≡ missing_of phase (u ++ c)
missing_comes phase u c m r k e =
    let l : header_size phase ≤ length (u ++ c) = omega (arith, length-append u c, k.header) in
    let h = k.header in
    let s : r ≡ k.size - (length (u ++ c) - header_size phase) =
    omega (arith, length-append u c, k.rest, length-drop (header_size phase) u, k.header) in
    rw (le-ltb (length (u ++ c)) (header_size phase) l, take-append-le (header_size phase) u c h, k.tells) s

pub kept_comes : (phase : Phase) (u c : List ℕ) → header_size phase ≤ length u → with_body phase (kept phase u) c ≡ kept phase (u ++ c)
kept_comes Flags u c h = refl
kept_comes (Options f z) u c h = refl
kept_comes Transmission u c h = sym (take-append-le 28 u c h)
kept_comes Ended u c h = refl

header_kept : (phase : Phase) (u c : List ℕ) → header_size phase ≤ length u →
    take (header_size phase) (kept phase (u ++ c)) ≡ take (header_size phase) u
header_kept Flags u c h = take-append-le 4 u c h
header_kept (Options f z) u c h = take-append-le 16 u c h
header_kept Transmission u c h = take-take 28 28 (u ++ c) (omega arith) ∙ take-append-le 28 u c h
header_kept Ended u c h = take-append-le 1 u c h

body_kept : (phase : Phase) (u c : List ℕ) → header_size phase ≤ length u →
    HasBody phase (kept phase (u ++ c)) (drop (header_size phase) u ++ c)
body_kept Flags u c h = sym (drop-append-le 4 u c h)
body_kept (Options f z) u c h = sym (drop-append-le 16 u c h)
body_kept Transmission u c h = tt
body_kept Ended u c h = tt

pub whole_comes : (phase : Phase) (u c held : List ℕ) (m : ℕ) → Comes phase u m → length c ≡ m → held ≡ kept phase (u ++ c)
    → (body : List ℕ) × HasBody phase held body ×
    (front phase (u ++ c) ≡ Whole (record { header = take (header_size phase) held; body = body }) [])
whole_comes phase u c held m k e x =
    let s : length (drop (header_size phase) u ++ c) ≡ k.size = omega (arith, length-append (drop (header_size phase) u) c, k.rest) in
    let a : k.size ≤ length (drop (header_size phase) u ++ c) = omega arith in
    let b : length (drop (header_size phase) u ++ c) ≤ k.size = omega arith in
    let P : List ℕ → Type 0 = λ v. HasBody phase v (drop (header_size phase) u ++ c) in (
      drop (header_size phase) u ++ c,
      subst P (sym x) (body_kept phase u c k.header),
      front_body phase u c m k
          ∙ rw (
            le-ltb (length (drop (header_size phase) u ++ c)) k.size a,
            take_all k.size (drop (header_size phase) u ++ c) b,
            drop_all k.size (drop (header_size phase) u ++ c) b,
            x,
            header_kept phase u c k.header,
          ) refl,
    )
