-- The touched blocks are those above the edited ones.
use Rattle.std.proofs.Common.{◌≡◌, ℕ, zero, suc, ◌+◌, ◌-◌, ◌*◌, ◌/◌, ◌^◌, ◌<◌, ◌≤◌, Bool, true, ◌&&◌, eqb, List, [], ◌∷◌, length}
use Rattle.std.proofs.Common.{map, get_or, ⊎_elim, ◌⊎◌, inl, inr, refl, sym, ap, ◌∙◌, subst, arith}
use Rattle.std.specs.Int.{div_ceil}
use Rattle.verity_digest.specs.Shape.{row_len}
use Rattle.std.specs.List.{filter, list_any, range_with_len, dedup_from}
use Rattle.std.proofs.Math.Nat.{pow-zero, pow-suc, one-le-pow, one-mul, div-div-eq-div-mul, div-mul-le_self, lt-div-mul-add}
use Rattle.std.proofs.Math.Nat.{lt_of_mul-lt-mul_right, add-mul}
use Rattle.std.proofs.lemmas.Bool.{cases_lt, cases_eq, cases_Bool, or_cases, or_left, or_right, and_parts, and_from, eqb-true}
use Rattle.std.proofs.lemmas.Bool.{eq-eqb, eqb-false, cond-true, cond-false}
use Rattle.verity_pending.specs.Edits.{Edits}
use Rattle.verity_pending.specs.Touched.{changed_blocks, has_fallen, is_touched, touched}
use Rattle.verity_pending.specs.declared.child.Child.{Child}
use Rattle.verity_pending.specs.Slots.{child_at}
use Rattle.verity_pending.specs.Parents.{is_edited, edited_blocks, parents}
use Rattle.verity_pending.proofs.Untouched.{begun}

-- the numbers rise, from lo on
abbrev pub Rising : ℕ → List ℕ → Type 0
Rising lo [] = Unit {0}
Rising lo (x ∷ xs) = (lo ≤ x) × Rising (suc x) xs

abbrev pub Has : List ℕ → ℕ → Type 0
Has [] n = ⊥
Has (x ∷ xs) n = (n ≡ x) ⊎ Has xs n

pub Rising-from : (a b : ℕ) (xs : List ℕ) → a ≤ b → Rising b xs → Rising a xs
Rising-from a b [] le r = tt
Rising-from a b (x ∷ xs) le r = (let h = r.0 in omega arith, r.1)

Has-least : (lo n : ℕ) (xs : List ℕ) → Rising lo xs → Has xs n → lo ≤ n
Has-least lo n [] r h = absurd h
Has-least lo n (x ∷ xs) r h = let low = r.0 in ⊎_elim (λ e. omega arith) (λ t. let m = Has-least (suc x) n xs r.1 t in omega arith) h

-- lists of rising numbers that have the same are the same
pub same_rising : (lo : ℕ) (xs ys : List ℕ) → Rising lo xs → Rising lo ys → ((n : ℕ) → Has xs n → Has ys n) →
    ((n : ℕ) → Has ys n → Has xs n) → xs ≡ ys
same_rising lo [] [] r s f g = refl
same_rising lo [] (y ∷ ys) r s f g = absurd (g y (inl refl))
same_rising lo (x ∷ xs) [] r s f g = absurd (f x (inl refl))
same_rising lo (x ∷ xs) (y ∷ ys) r s f g =
    let first : x ≡ y = ⊎_elim (λ e. e)
    (λ t. let a = Has-least (suc y) x ys s.1 t in
    ⊎_elim (λ e. sym e) (λ u. let b = Has-least (suc x) y xs r.1 u in absurd (omega arith)) (g y (inl refl)))
    (f x (inl refl)) in
    let tail_ys : Rising (suc x) ys = Rising-from (suc x) (suc y) ys (omega arith) s.1 in
    let rest : xs ≡ ys = same_rising (suc x) xs ys r.1 tail_ys
    (λ n h. ⊎_elim (λ e. let low = Has-least (suc x) n xs r.1 h in absurd (omega arith)) (λ t. t) (f n (inr h)))
    (λ n h. ⊎_elim (λ e. let low = Has-least (suc x) n ys tail_ys h in absurd (omega arith)) (λ t. t) (g n (inr h))) in
    λ i. first i ∷ rest i

-- a filter of a range

pub Rising-filter : (p : ℕ → Bool) (n a : ℕ) → Rising a (filter p (range_with_len a n))
Rising-filter p zero a = tt
Rising-filter p (suc n) a =
    let rest : List ℕ = filter p (range_with_len (a + 1) n) in
    let r : Rising (a + 1) rest = Rising-filter p n (a + 1) in
    ⊎_elim (λ t. subst (Rising a) (sym (cond-true (p a) (a ∷ rest) rest t)) (omega arith, Rising-from (suc a) (a + 1) rest (omega arith) r))
    (λ f. subst (Rising a) (sym (cond-false (p a) (a ∷ rest) rest f)) (Rising-from a (a + 1) rest (omega arith) r)) (cases_Bool (p a))

pub record InFilter (p : ℕ → Bool) (a n m : ℕ) : Type 0 where
  pub low : a ≤ m
  pub high : m < a + n
  pub passes : p m ≡ true

pub filter_has : (p : ℕ → Bool) (n a m : ℕ) → InFilter p a n m → Has (filter p (range_with_len a n)) m
filter_has p zero a m i = let l = i.low in let h = i.high in absurd (omega arith)
filter_has p (suc n) a m i =
    let rest : List ℕ = filter p (range_with_len (a + 1) n) in
    let P : List ℕ → Type 0 = λ xs. Has xs m in
    let l = i.low in let h = i.high in
    ⊎_elim (λ e. let t : p a ≡ true = ap p (sym e) ∙ i.passes in subst P (sym (cond-true (p a) (a ∷ rest) rest t)) (inl e))
    (λ ne.
    let tail : Has rest m = filter_has p n (a + 1) m (record { low = omega arith; high = omega arith; passes = i.passes }) in
    ⊎_elim (λ t. subst P (sym (cond-true (p a) (a ∷ rest) rest t)) (inr tail))
    (λ f. subst P (sym (cond-false (p a) (a ∷ rest) rest f)) tail) (cases_Bool (p a)))
    (cases_eq m a)

pub in_filter : (p : ℕ → Bool) (n a m : ℕ) → Has (filter p (range_with_len a n)) m → InFilter p a n m
in_filter p zero a m h = absurd h
in_filter p (suc n) a m h =
    let rest : List ℕ = filter p (range_with_len (a + 1) n) in
    let P : List ℕ → Type 0 = λ xs. Has xs m in
    let later : Has rest m → InFilter p a (suc n) m = λ t. let i = in_filter p n (a + 1) m t in let l = i.low in let u = i.high in
    record { low = omega arith; high = omega arith; passes = i.passes } in
    ⊎_elim (λ t. ⊎_elim (λ e. record { low = omega arith; high = omega arith; passes = ap p e ∙ t }) later
    (subst P (cond-true (p a) (a ∷ rest) rest t) h))
    (λ f. later (subst P (cond-false (p a) (a ∷ rest) rest f) h)) (cases_Bool (p a))

pub any_has : (q : ℕ → Bool) (xs : List ℕ) → list_any q xs ≡ true → (n : ℕ) × Has xs n × (q n ≡ true)
any_has q [] h = absurd (cc)
any_has q (x ∷ xs) h = ⊎_elim (λ t. (x, inl refl, t)) (λ t. let r = any_has q xs t in
    (r.0, inr r.1, r.2)) (or_cases (q x) (list_any q xs) h)

pub has_any : (q : ℕ → Bool) (xs : List ℕ) (n : ℕ) → Has xs n → q n ≡ true → list_any q xs ≡ true
has_any q [] n h t = absurd h
has_any q (x ∷ xs) n h t = ⊎_elim (λ e. or_left (q x) (list_any q xs) (ap q (sym e) ∙ t))
    (λ u. or_right (q x) (list_any q xs) (has_any q xs n u t)) h

-- one level up

div_rises : (k a b : ℕ) → 0 < k → a ≤ b → a / k ≤ b / k
div_rises k a b p le =
    let low : a / k * k ≤ a = div-mul-le_self a k in
    let high : b < b / k * k + k = lt-div-mul-add p in
    let less : a / k < b / k + 1 = lt_of_mul-lt-mul_right k (omega (arith, add-mul (b / k) 1 k)) in
    omega arith

Rising-dedup_from : (k : ℕ) (xs : List ℕ) (lo q : ℕ) → 0 < k → Rising lo xs → q ≤ lo / k → Rising q (dedup_from eqb q (map (λ n. n / k) xs))
Rising-dedup_from k [] lo q p r le = (omega arith, tt)
Rising-dedup_from k (x ∷ xs) lo q p r le =
    let here : lo / k ≤ x / k = div_rises k lo x p r.0 in
    let next : x / k ≤ suc x / k = div_rises k x (suc x) p (omega arith) in
    let rest : List ℕ = map (λ n. n / k) xs in
    ⊎_elim
    (λ t. subst (Rising q) (sym (cond-true (eqb (x / k) q) (dedup_from eqb q rest) (q ∷ dedup_from eqb (x / k) rest) t))
    (Rising-dedup_from k xs (suc x) q p r.1 (omega arith)))
    (λ f. let apart = eqb-false (x / k) q f in
    let less : suc q ≤ x / k = ⊎_elim (λ l. l) (λ g. absurd (apart (omega arith))) (cases_lt q (x / k)) in
    subst (Rising q) (sym (cond-false (eqb (x / k) q) (dedup_from eqb q rest) (q ∷ dedup_from eqb (x / k) rest) f))
    (omega arith, Rising-from (suc q) (x / k) (dedup_from eqb (x / k) rest) less (Rising-dedup_from k xs (suc x) (x / k) p r.1 next)))
    (cases_Bool (eqb (x / k) q))

pub Rising-parents : (k : ℕ) (xs : List ℕ) → 0 < k → Rising 0 xs → Rising 0 (parents k xs)
Rising-parents k [] p r = tt
Rising-parents k (x ∷ xs) p r = Rising-from 0 (x / k) (dedup_from eqb (x / k) (map (λ n. n / k) xs)) (omega arith)
    (Rising-dedup_from k xs (suc x) (x / k) p r.1 (div_rises k x (suc x) p (omega arith)))

dedup_from_has : (ys : List ℕ) (q m : ℕ) → (m ≡ q) ⊎ Has ys m → Has (dedup_from eqb q ys) m
dedup_from_has [] q m h = ⊎_elim (λ e. inl e) (λ t. absurd t) h
dedup_from_has (y ∷ ys) q m h =
    let P : List ℕ → Type 0 = λ xs. Has xs m in
    ⊎_elim
    (λ t. let same = eqb-true y q t in
    subst P (sym (cond-true (eqb y q) (dedup_from eqb q ys) (q ∷ dedup_from eqb y ys) t))
    (dedup_from_has ys q m (⊎_elim (λ e. inl e) (λ u. ⊎_elim (λ e. inl (e ∙ same)) (λ v. inr v) u) h)))
    (λ f. subst P (sym (cond-false (eqb y q) (dedup_from eqb q ys) (q ∷ dedup_from eqb y ys) f))
    (⊎_elim (λ e. inl e) (λ u. inr (dedup_from_has ys y m u)) h))
    (cases_Bool (eqb y q))

has_dedup_from : (ys : List ℕ) (q m : ℕ) → Has (dedup_from eqb q ys) m → (m ≡ q) ⊎ Has ys m
has_dedup_from [] q m h = ⊎_elim (λ e. inl e) (λ t. absurd t) h
has_dedup_from (y ∷ ys) q m h =
    let P : List ℕ → Type 0 = λ xs. Has xs m in
    ⊎_elim
    (λ t. ⊎_elim (λ e. inl e) (λ u. inr (inr u))
    (has_dedup_from ys q m (subst P (cond-true (eqb y q) (dedup_from eqb q ys) (q ∷ dedup_from eqb y ys) t) h)))
    (λ f. ⊎_elim (λ e. inl e) (λ u. inr (has_dedup_from ys y m u))
    (subst P (cond-false (eqb y q) (dedup_from eqb q ys) (q ∷ dedup_from eqb y ys) f) h))
    (cases_Bool (eqb y q))

map_has : (f : ℕ → ℕ) (xs : List ℕ) (n : ℕ) → Has xs n → Has (map f xs) (f n)
map_has f [] n h = absurd h
map_has f (x ∷ xs) n h = ⊎_elim (λ e. inl (ap f e)) (λ t. inr (map_has f xs n t)) h

has_map : (f : ℕ → ℕ) (xs : List ℕ) (m : ℕ) → Has (map f xs) m → (n : ℕ) × Has xs n × (m ≡ f n)
has_map f [] m h = absurd h
has_map f (x ∷ xs) m h = ⊎_elim (λ e. (x, inl refl, e)) (λ t. let r = has_map f xs m t in (r.0, inr r.1, r.2)) h

pub parents_have : (k : ℕ) (xs : List ℕ) (n : ℕ) → Has xs n → Has (parents k xs) (n / k)
parents_have k [] n h = absurd h
parents_have k (x ∷ xs) n h = dedup_from_has (map (λ a. a / k) xs) (x / k) (n / k)
    (⊎_elim (λ e. inl (ap (λ a. a / k) e)) (λ t. inr (map_has (λ a. a / k) xs n t)) h)

pub have_parents : (k : ℕ) (xs : List ℕ) (m : ℕ) → Has (parents k xs) m → (n : ℕ) × Has xs n × (m ≡ n / k)
have_parents k [] m h = absurd h
have_parents k (x ∷ xs) m h = ⊎_elim (λ e. (x, inl refl, e)) (λ t. let r = has_map (λ a. a / k) xs m t in
    (r.0, inr r.1, r.2)) (has_dedup_from (map (λ a. a / k) xs) (x / k) m h)

-- the touched blocks

-- block i of level l lies above an edited block
pub record AboveEdited (k : ℕ) (e : Edits) (l i : ℕ) : Type 0 where
  pub block : ℕ
  pub within : block < length e.working
  pub edited : is_edited e block ≡ true
  pub at : block / k ^ suc l ≡ i

pub touched_above : (k : ℕ) (e : Edits) (l i : ℕ) → 0 < length e.working → is_touched k e l i ≡ true → AboveEdited k e l i
touched_above k e l i some t =
    let last : ℕ = length e.working - 1 in
    ⊎_elim
    (λ a. let r = any_has (λ n. eqb (n / k ^ suc l) i) (changed_blocks e) a in
    let f = in_filter e.changed (length e.working) 0 r.0 r.1 in
    let h = f.high in
    record {
      block = r.0;
      within = omega arith;
      edited = or_left (e.changed r.0) (has_fallen e && eqb r.0 last) f.passes;
      at = eqb-true (r.0 / k ^ suc l) i r.2;
    })
    (λ b. let parts = and_parts (has_fallen e) (eqb (last / k ^ suc l) i) b in
    record {
      block = last;
      within = omega arith;
      edited = or_right (e.changed last) (has_fallen e && eqb last last)
          (and_from (has_fallen e) (eqb last last) parts.0 (eq-eqb last last refl));
      at = eqb-true (last / k ^ suc l) i parts.1;
    })
    (or_cases (list_any (λ n. eqb (n / k ^ suc l) i) (changed_blocks e)) (has_fallen e && eqb (last / k ^ suc l) i) t)

pub above_touched : (k : ℕ) (e : Edits) (l i : ℕ) → AboveEdited k e l i → is_touched k e l i ≡ true
above_touched k e l i a =
    let last : ℕ = length e.working - 1 in
    let w = a.within in
    ⊎_elim
    (λ c. or_left (list_any (λ n. eqb (n / k ^ suc l) i) (changed_blocks e)) (has_fallen e && eqb (last / k ^ suc l) i)
    (has_any (λ n. eqb (n / k ^ suc l) i) (changed_blocks e) a.block
    (filter_has e.changed (length e.working) 0 a.block (record { low = omega arith; high = omega arith; passes = c }))
    (eq-eqb (a.block / k ^ suc l) i a.at)))
    (λ f. let parts = and_parts (has_fallen e) (eqb a.block last) f in
    let same = eqb-true a.block last parts.1 in
    or_right (list_any (λ n. eqb (n / k ^ suc l) i) (changed_blocks e)) (has_fallen e && eqb (last / k ^ suc l) i)
    (and_from (has_fallen e) (eqb (last / k ^ suc l) i) parts.0 (eq-eqb (last / k ^ suc l) i (ap (λ n. n / k ^ suc l) (sym same) ∙ a.at))))
    (or_cases (e.changed a.block) (has_fallen e && eqb a.block last) a.edited)

-- a touched block is there
within_level : (k n b l : ℕ) → 0 < k → b < n → b / k ^ suc l < div_ceil n (k ^ suc l)
within_level k n b l p below =
    let w : 0 < k ^ suc l = one-le-pow (suc l) k p in
    begun n (k ^ suc l) (b / k ^ suc l) w (let low = div-mul-le_self b (k ^ suc l) in omega arith)

touched_has : (k : ℕ) (e : Edits) (l i : ℕ) → 0 < k → AboveEdited k e l i → Has (touched k e l) i
unfolding row_len
touched_has k e l i p a =
    let n : ℕ = div_ceil (length e.working) (k ^ suc l) in
    let inside : a.block / k ^ suc l < n = within_level k (length e.working) a.block l p a.within in
    let at = a.at in
    filter_has (is_touched k e l) n 0 i (record { low = omega arith; high = omega arith; passes = above_touched k e l i a })

has_touched : (k : ℕ) (e : Edits) (l i : ℕ) → 0 < length e.working → Has (touched k e l) i → AboveEdited k e l i
unfolding row_len
has_touched k e l i some h =
    let f = in_filter (is_touched k e l) (div_ceil (length e.working) (k ^ suc l)) 0 i h in touched_above k e l i some f.passes

-- the touched blocks of level 0 are those above the edited blocks
pub touched-zero : (k : ℕ) (e : Edits) → 0 < k → 0 < length e.working → touched k e 0 ≡ parents k (edited_blocks e)
unfolding row_len
touched-zero k e p some =
    let one : k ^ suc 0 ≡ k = pow-suc k 0 ∙ ap (λ w. w * k) (pow-zero k) ∙ one-mul k in
    let n : ℕ = length e.working in
    same_rising 0 (touched k e 0) (parents k (edited_blocks e))
    (Rising-filter (is_touched k e 0) (div_ceil n (k ^ suc 0)) 0)
    (Rising-parents k (edited_blocks e) p (Rising-filter (is_edited e) n 0))
    (λ i h. let a = has_touched k e 0 i some h in let w = a.within in
    let P : ℕ → Type 0 = λ m. Has (parents k (edited_blocks e)) m in
    subst P (ap (λ w. a.block / w) (sym one) ∙ a.at)
    (parents_have k (edited_blocks e) a.block
    (filter_has (is_edited e) n 0 a.block (record { low = omega arith; high = omega arith; passes = a.edited }))))
    (λ i h. let r = have_parents k (edited_blocks e) i h in
    let f = in_filter (is_edited e) n 0 r.0 r.1 in let w = f.high in
    touched_has k e 0 i p (record { block = r.0; within = omega arith; edited = f.passes; at = ap (λ w. r.0 / w) one ∙ sym r.2 }))

-- those of the next level are those above them
pub touched-suc : (k : ℕ) (e : Edits) (l : ℕ) → 0 < k → 0 < length e.working → touched k e (suc l) ≡ parents k (touched k e l)
unfolding row_len
touched-suc k e l p some =
    let up : (b : ℕ) → b / k ^ suc (suc l) ≡ b / k ^ suc l / k = λ b. ap (λ w. b / w) (pow-suc k (suc l))
    ∙ sym (div-div-eq-div-mul b (k ^ suc l) k) in
    same_rising 0 (touched k e (suc l)) (parents k (touched k e l))
    (Rising-filter (is_touched k e (suc l)) (div_ceil (length e.working) (k ^ suc (suc l))) 0)
    (Rising-parents k (touched k e l) p (Rising-filter (is_touched k e l) (div_ceil (length e.working) (k ^ suc l)) 0))
    (λ i h. let a = has_touched k e (suc l) i some h in
    let P : ℕ → Type 0 = λ m. Has (parents k (touched k e l)) m in
    subst P (sym (up a.block) ∙ a.at)
    (parents_have k (touched k e l) (a.block / k ^ suc l)
    (touched_has k e l (a.block / k ^ suc l) p (record { block = a.block; within = a.within; edited = a.edited; at = refl }))))
    (λ i h. let r = have_parents k (touched k e l) i h in
    let a = has_touched k e l r.0 some r.1 in
    touched_has k e (suc l) i p (record {
      block = a.block;
      within = a.within;
      edited = a.edited;
      at = up a.block
          ∙ ap (λ b. b / k) a.at ∙ sym r.2;
    }))

-- a number in a list
pub get_has : (xs : List ℕ) (t : ℕ) → t < length xs → Has xs (get_or xs t 0)
get_has [] t below = absurd (omega arith)
get_has (x ∷ xs) zero below = inl refl
get_has (x ∷ xs) (suc t) below = inr (get_has xs t (omega arith))

pub has_number : (children : List Child) (n : ℕ) → Has (map (λ child. child.number) children) n → (c : ℕ) × (c < length children) ×
    ((child_at children c).number ≡ n)
has_number [] n h = absurd h
has_number (x ∷ children) n h = ⊎_elim (λ e. (0, omega arith, sym e)) (λ t. let r = has_number children n t in
    (suc r.0, (let l = r.1 in omega arith), r.2)) h

-- the blocks above children of a level begin within it
pub parents_within : (k : ℕ) (children : List Child) (digests t : ℕ) → 0 < k →
    ((c : ℕ) → c < length children → (child_at children c).number < digests)
    → t < length (parents k (map (λ child. child.number) children)) →
    get_or (parents k (map (λ child. child.number) children)) t 0 * k < digests
parents_within k children digests t some within below =
    let numbers : List ℕ = map (λ child. child.number) children in
    let r = have_parents k numbers (get_or (parents k numbers) t 0) (get_has (parents k numbers) t below) in
    let c = has_number children r.0 r.1 in
    let inside = within c.0 c.1 in
    let low = div-mul-le_self r.0 k in
    let at : get_or (parents k numbers) t 0 * k ≡ r.0 / k * k = ap (λ q. q * k) r.2 in
    let same = c.2 in
    omega arith
