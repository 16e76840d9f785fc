-- How runs of calls go on, and what steps on one device lead to.
use Rattle.std.proofs.Common.{◌≡◌, refl, inl, inr, ⊎_elim, ℕ, List, sym, ◌∙◌, ap, subst, arith}
use Rattle.verity_disks.specs.declared.disks.Device.{Device}
use Rattle.verity_disks.specs.declared.disks.Device.TheVariants.{Data, Hash, Journal}
use Rattle.verity_disks.specs.Disks.{Contents, put, Torn, Reached, Follows, Stays, Only, IsDurable, Elapses, LeavesOnly}

pub put_here : (device : Device) (b : List ℕ) (c : Contents) → put device b c device ≡ b
put_here Data b c = refl
put_here Hash b c = refl
put_here Journal b c = refl

at_self : (device : Device) (c : Contents) (other : Device) → c other ≡ put device (c device) c other
at_self Data c Data = refl
at_self Data c Hash = refl
at_self Data c Journal = refl
at_self Hash c Data = refl
at_self Hash c Hash = refl
at_self Hash c Journal = refl
at_self Journal c Data = refl
at_self Journal c Hash = refl
at_self Journal c Journal = refl

pub put_self : (device : Device) (c : Contents) → c ≡ put device (c device) c
put_self device c = λ i other. at_self device c other i

at_twice : (device : Device) (a b : List ℕ) (c : Contents) (other : Device) → put device a (put device b c) other ≡ put device a c other
at_twice Data a b c Data = refl
at_twice Data a b c Hash = refl
at_twice Data a b c Journal = refl
at_twice Hash a b c Data = refl
at_twice Hash a b c Hash = refl
at_twice Hash a b c Journal = refl
at_twice Journal a b c Data = refl
at_twice Journal a b c Hash = refl
at_twice Journal a b c Journal = refl

pub put_twice : (device : Device) (a b : List ℕ) (c : Contents) → put device a (put device b c) ≡ put device a c
put_twice device a b c = λ i other. at_twice device a b c other i

-- of the other devices nothing has changed
pub put_other : (device : Device) (a b : List ℕ) (c d : Contents) → ((other : Device) → c other ≡ d other) → (other : Device) →
    put device a c other ≡ put device a d other
put_other Data a b c d same Data = refl
put_other Data a b c d same Hash = same Hash
put_other Data a b c d same Journal = same Journal
put_other Hash a b c d same Data = same Data
put_other Hash a b c d same Hash = refl
put_other Hash a b c d same Journal = same Journal
put_other Journal a b c d same Data = same Data
put_other Journal a b c d same Hash = same Hash
put_other Journal a b c d same Journal = refl

pub torn_self : (at n : ℕ) (b : List ℕ) → Torn at n b b
torn_self at n b = record { before = refl; after = refl; no_shorter = omega arith; no_longer = omega arith }

pub reached_self : (device : Device) (step : List ℕ → List ℕ → Type 0) (outcomes : Contents → Type 0) (c : Contents) →
    step (c device) (c device) → outcomes c → Reached device step outcomes c
reached_self device step outcomes c still now = (c, now, c device, still, put_self device c)

-- a step more on the same device
pub reached_more : (device : Device) (step next : List ℕ → List ℕ → Type 0) (first mid : Contents → Type 0) →
    ((a b c : List ℕ) → step a b → next b c → step a c)
    → ((d : Contents) → mid d → Reached device step first d) → (c : Contents) → Reached device next mid c → Reached device step first c
reached_more device step next first mid joins so_far c (d, was, b, stepped, is) =
    let from = so_far d was in
    let e = from.0 in let a = from.2 in
    let here : d device ≡ a = ap (λ (f : Contents). f device) from.4 ∙ put_here device a e in
    let both : step (e device) b = joins (e device) a b from.3 (subst (λ (l : List ℕ). next l b) here stepped) in
    (e, from.1, b, both, is ∙ ap (λ (f : Contents). put device b f) from.4 ∙ put_twice device b a e)

module _ {D : Type 0} (moment : D → ℕ) (left_since : D → ℕ → Contents → Type 0) where
  -- before the first call
  pub started : (old : D) (P : Contents → Type 0) → ((c : Contents) → left_since old (moment old) c → P c) →
      LeavesOnly moment left_since old old P
  started old P here = record { later = omega arith; each = here; before = λ t c le left. inl left }

  -- one call more, after which a stop leaves what has P
  pub goes_on : (old mid new : D) (P may_leave : Contents → Type 0) → LeavesOnly moment left_since old mid P →
      Elapses (moment mid) (moment new) (left_since mid) (left_since new) may_leave
      → ((c : Contents) → may_leave c → P c) → LeavesOnly moment left_since old new P
  goes_on old mid new P may_leave so_far time here = record {
    later = omega (arith, so_far.later, time.later);
    each = λ c left. ⊎_elim (so_far.each c) (here c) (time.nothing_else (moment old) c so_far.later left);
    before = λ t c le left. ⊎_elim (so_far.before t c le) (λ now. inr (here c now))
        (time.nothing_else t c (omega (arith, le, so_far.later)) left);
  }

  -- a run more, during which a stop leaves what has Q, and so P
  pub joined : (old mid new : D) (P Q : Contents → Type 0) → LeavesOnly moment left_since old mid P →
      LeavesOnly moment left_since mid new Q → ((c : Contents) → Q c → P c) → LeavesOnly moment left_since old new P
  joined old mid new P Q so_far more here = record {
    later = omega (arith, so_far.later, more.later);
    each = λ c left. ⊎_elim (so_far.each c) (λ q. here c q) (more.before (moment old) c so_far.later left);
    before = λ t c le left. ⊎_elim (so_far.before t c le) (λ q. inr (here c q)) (more.before t c (omega (arith, le, so_far.later)) left);
  }

-- after a step on one device that is then synced, all of it is on the devices
pub durable_after : (device : Device) (step : List ℕ → List ℕ → Type 0) (b : List ℕ) (seen next : Contents) (old new : Contents → Type 0)
    → IsDurable seen old → next ≡ put device b seen → Follows device step old new → Only device next new → IsDurable next new
durable_after device step b seen next old new durable is follows only other c left =
    let from = follows c left in
    let d = from.0 in let a = from.2 in
    let whole : c ≡ put device a d = from.4 in
    let here : a ≡ b = sym (ap (λ (f : Contents). f device) whole ∙ put_here device a d) ∙ only c left
    ∙ ap (λ (f : Contents). f device) is ∙ put_here device b seen in
    ap (λ (f : Contents). f other) whole
    ∙ ap (λ (l : List ℕ). put device l d other) here
    ∙ put_other device b b d seen (λ o. durable o d from.1) other
    ∙ sym (ap (λ (f : Contents). f other) is)

-- each of the three was synced
pub synced : (a b c d : Contents) (one two three : Contents → Type 0) → b ≡ a → c ≡ b → d ≡ c → Only Data a one → Only Hash b two →
    Only Journal c three → Stays one two → Stays two three → IsDurable d three
synced a b c d one two three ba cb dc data_kept hash_kept journal_kept first second Data f left =
    data_kept f (first f (second f left)) ∙ sym (ap (λ (g : Contents). g Data) (dc ∙ cb ∙ ba))
synced a b c d one two three ba cb dc data_kept hash_kept journal_kept first second Hash f left = hash_kept f (second f left)
    ∙ sym (ap (λ (g : Contents). g Hash) (dc ∙ cb))
synced a b c d one two three ba cb dc data_kept hash_kept journal_kept first second Journal f left =
    journal_kept f left ∙ sym (ap (λ (g : Contents). g Journal) dc)
