-- One more step at the end of a history.
use Rattle.std.proofs.Common.{◌≡◌, ◌+◌, ℕ, false, true, Bool, ◌||◌, List, [], ◌∷◌, ◌++◌, refl, sym, ap, ◌∙◌, arith, append_assoc}
use Rattle.std.proofs.Common.{append-nil}
use Rattle.nbd_hub.specs.History.{Step, Opening, Feeding, Ending, Refusal, Taken, Nothing, Takes, Starves, taken, goes_on, own}
use Rattle.nbd_hub.specs.History.{is_starves, starved, said, output, opens, opened, closes, closed, ends, ended}

-- the piece that is taken
abbrev pub piece_of : Taken → List ℕ
piece_of Nothing = []
piece_of (Takes piece) = piece
piece_of Starves = []

own_one : (t : Taken) → goes_on t [] ≡ piece_of t
own_one Nothing = refl
own_one (Takes piece) = append-nil piece
own_one Starves = refl

own_awake_first : (t : Taken) (later : List ℕ) (b : Bool) → (is_starves t || b) ≡ false → goes_on t later ≡ piece_of t ++ later
own_awake_first Nothing later b h = refl
own_awake_first (Takes piece) later b h = refl
own_awake_first Starves later b h = absurd (let q : ⊥ = cc in q)

rest_awake : (t : Taken) (b : Bool) → (is_starves t || b) ≡ false → b ≡ false
rest_awake Nothing b h = h
rest_awake (Takes piece) b h = h
rest_awake Starves b h = absurd (let q : ⊥ = cc in q)

pub own-awake : (h : List Step) (s : Step) (k : ℕ) → starved h k ≡ false → own (h ++ s ∷ []) k ≡ own h k ++ piece_of (taken s k)
own-awake [] s k a = own_one (taken s k)
own-awake (x ∷ h) s k a =
    let t = taken x k in
    let more = own h k ++ piece_of (taken s k) in
    let b : starved h k ≡ false = rest_awake t (starved h k) a in
    ap (goes_on t) (own-awake h s k b)
    ∙ own_awake_first t more (starved h k) a
    ∙ sym (append_assoc (piece_of t) (own h k) (piece_of (taken s k)))
    ∙ ap (λ z. z ++ piece_of (taken s k)) (sym (own_awake_first t (own h k) (starved h k) a))

own_starved_first : (t : Taken) (later later' : List ℕ) (b : Bool) → (is_starves t || b) ≡ true → (b ≡ true → later ≡ later') →
    goes_on t later ≡ goes_on t later'
own_starved_first Nothing later later' b h f = f h
own_starved_first (Takes piece) later later' b h f = ap (λ z. piece ++ z) (f h)
own_starved_first Starves later later' b h f = refl

pub own-starved : (h : List Step) (s : Step) (k : ℕ) → starved h k ≡ true → own (h ++ s ∷ []) k ≡ own h k
own-starved [] s k a = absurd (let q : ⊥ = cc in q)
own-starved (x ∷ h) s k a = own_starved_first (taken x k) _ _ (starved h k) a (λ b. own-starved h s k b)

or_assoc : (a b c : Bool) → (a || (b || c)) ≡ ((a || b) || c)
or_assoc true b c = refl
or_assoc false b c = refl

pub or_false : (a : Bool) → (a || false) ≡ a
or_false true = refl
or_false false = refl

pub or_true : (a : Bool) → (a || true) ≡ true
or_true true = refl
or_true false = refl

pub starved-snoc : (h : List Step) (s : Step) (k : ℕ) → starved (h ++ s ∷ []) k ≡ (starved h k || is_starves (taken s k))
starved-snoc [] s k = or_false (is_starves (taken s k))
starved-snoc (x ∷ h) s k = ap (λ z. is_starves (taken x k) || z) (starved-snoc h s k)
    ∙ or_assoc (is_starves (taken x k)) (starved h k) (is_starves (taken s k))

pub ended-snoc : (h : List Step) (s : Step) (k : ℕ) → ended (h ++ s ∷ []) k ≡ (ended h k || ends s k)
ended-snoc [] s k = or_false (ends s k)
ended-snoc (x ∷ h) s k = ap (λ z. ends x k || z) (ended-snoc h s k) ∙ or_assoc (ends x k) (ended h k) (ends s k)

pub output-snoc : (h : List Step) (s : Step) (k : ℕ) → output (h ++ s ∷ []) k ≡ output h k ++ said s k
output-snoc [] s k = append-nil (said s k)
output-snoc (x ∷ h) s k = ap (λ z. said x k ++ z) (output-snoc h s k) ∙ sym (append_assoc (said x k) (output h k) (said s k))

opens-more : (s : Step) (m n : ℕ) → opens s (m + n) ≡ opens s m + n
opens-more (Opening id bytes) m n = omega arith
opens-more (Feeding id piece status bytes) m n = refl
opens-more (Ending id) m n = refl
opens-more Refusal m n = refl

pub opened-append : (h g : List Step) → opened (h ++ g) ≡ opened h + opened g
opened-append [] g = omega arith
opened-append (s ∷ h) g = ap (opens s) (opened-append h g) ∙ opens-more s (opened h) (opened g)

closes-more : (s : Step) (m n : ℕ) → closes s (m + n) ≡ closes s m + n
closes-more (Opening id bytes) m n = refl
closes-more (Feeding id piece status bytes) m n = refl
closes-more (Ending id) m n = omega arith
closes-more Refusal m n = refl

pub closed-append : (h g : List Step) → closed (h ++ g) ≡ closed h + closed g
closed-append [] g = omega arith
closed-append (s ∷ h) g = ap (closes s) (closed-append h g) ∙ closes-more s (closed h) (closed g)
