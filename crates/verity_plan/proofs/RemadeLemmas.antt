-- A hash block that is made again from the old one.
use Rattle.std.proofs.Common.{◌≡◌, ltb, true, false, ℕ, zero, suc, ◌+◌, ◌-◌, ◌*◌, ◌/◌, ◌%◌, ◌<◌, ◌≤◌, min, List, [], ◌++◌, length}
use Rattle.std.proofs.Common.{take, drop, replicate, get_or, ⊎_elim, ◌⊎◌, inl, inr, sym, ap, ◌∙◌, subst, arith}
use Rattle.std.specs.List.{concat}
use Rattle.std.specs.Fork.{slice_chunk}
use Rattle.std.proofs.Math.Nat.{mul-le-mul_right, add-mul, div-add-mod'}
use Rattle.std.proofs.lemmas.Bool.{cases_lt, cases_eq, ltb-true, ltb-false}
use Rattle.std.proofs.lemmas.List.{length-append, length-take, length-drop, take-take, drop-take, ext_get_or, take-append-drop}
use Rattle.std.proofs.lemmas.List.{get_or-take, get_or-drop, take_at, drop_at, length-replicate}
use Rattle.verity_digest.specs.Tree.{Hashing, hash_block}
use Rattle.verity_digest.proofs.Slots.{AreSized}
use Rattle.verity_store.specs.Blocks.{cut}
use Rattle.verity_store.proofs.BlockLemmas.{length-cut, get_or-cut, concat-cut}
use Rattle.verity_pending.specs.declared.child.Child.{Child}
use Rattle.std.specs.List.Sorted.{IsPartitionPoint}
use Rattle.verity_plan.specs.Remade.{CanRemake}
use Rattle.verity_pending.proofs.Untouched.{div_of}
use Rattle.verity_pending.specs.Slots.{slots, nobody, child_at, AreNamed, FillsSlots}

-- the remainder of a number in a block
mod_of : (i k r : ℕ) → r < k → (i * k + r) % k ≡ r
mod_of i k r low =
    let q : (i * k + r) / k ≡ i = div_of i k (i * k + r) (omega arith) (omega arith) in
    let split = div-add-mod' (i * k + r) k in
    let at : (i * k + r) / k * k ≡ i * k = ap (λ n. n * k) q in
    omega arith

-- a slot of a front is a slot of the whole
slot_of_front : (d : ℕ) (b : List ℕ) (m r : ℕ) → r < m → take d (drop (r * d) (take (m * d) b)) ≡ take d (drop (r * d) b)
slot_of_front d b m r below =
    let wide : (r + 1) * d ≤ m * d = mul-le-mul_right d (omega arith) in
    let at : m * d ≡ r * d + (m * d - r * d) = omega (arith, add-mul r 1 d) in
    ap (λ n. take d (drop (r * d) (take n b))) at
    ∙ ap (λ bs. take d bs) (drop-take (r * d) (m * d - r * d) b)
    ∙ take-take d (m * d - r * d) (drop (r * d) b) (omega (arith, add-mul r 1 d))

-- a block is the hash block of these digests where they stand in its slots and zeros behind them
pub hash_block_is : (d : ℕ) (h : Hashing) (run : List (List ℕ)) (b : List ℕ) (k : ℕ) → h.digest_size ≡ d → length b ≡ h.block_size →
    length run ≤ k → k * d ≤ length b → AreSized d run
    → ((r : ℕ) → r < length run → get_or (slots d k b) r [] ≡ get_or run r [])
    → drop (length run * d) b ≡ replicate (length b - length run * d) 0
    → b ≡ hash_block h run
hash_block_is d h run b k size len fits room sized same zeros =
    let m : ℕ = length run in
    let wide : m * d ≤ k * d = mul-le-mul_right d fits in
    let front : List ℕ = take (m * d) b in
    let front_len : length front ≡ m * d = rw length-take (omega arith) in
    let digests : cut d m front ≡ run = ext_get_or [] (cut d m front) run (length-cut d m front)
    (λ r below. let inside : r < m = rw length-cut at below in
    let there : r < k = omega arith in
    get_or-cut d m front r inside ∙ slot_of_front d b m r inside ∙ sym (get_or-cut d k b r there) ∙ same r inside) in
    let whole : concat run ≡ front = ap concat (sym digests) ∙ concat-cut d m front front_len in
    let rest : length b - m * d ≡ h.block_size - length (concat run) =
    (let l : length (concat run) ≡ m * d = ap length whole ∙ front_len in omega arith) in
    sym (take-append-drop (m * d) b)
    ∙ ap (λ f. f ++ drop (m * d) b) (sym whole) ∙ ap (λ z. concat run ++ z) zeros
    ∙ ap (λ n. concat run ++ replicate n 0) rest

-- some child from a to before b has this slot, or none has
some_child : (k r : ℕ) (children : List Child) (n a b : ℕ) → a + n ≡ b
    → ((c : ℕ) × (a ≤ c) × (c < b) × ((child_at children c).number % k ≡ r)) ⊎
    ((c : ℕ) → a ≤ c → c < b → (child_at children c).number % k ≡ r → ⊥)
some_child k r children zero a b e = inr (λ c low high _. absurd (omega arith))
some_child k r children (suc n) a b e =
    ⊎_elim
    (λ here. let h : a < b = omega arith in inl (a, omega arith, h, here))
    (λ apart. ⊎_elim
    (λ some. let l = some.1 in inl (some.0, omega arith, some.2, some.3))
    (λ none. inr (λ c low high is. ⊎_elim (λ same. apart (ap (λ x. (child_at children x).number % k) (sym same) ∙ is))
    (λ ne. none c (omega arith) high is) (cases_eq c a)))
    (some_child k r children n (suc a) b (omega arith)))
    (cases_eq ((child_at children a).number % k) r)

-- the hash block of run i of some digests, from what the block held before
pub remade : (d : ℕ) (h : Hashing) (new : List (List ℕ)) (children : List Child) (a b k i : ℕ) (before filled made : List ℕ)
    → h.digest_size ≡ d → length made ≡ h.block_size → k * d ≤ length made → 0 < k → i * k < length new → AreSized d new
    → a ≤ b → AreNamed (λ j. get_or new j []) children → ((c : ℕ) → a ≤ c → c < b → (child_at children c).number / k ≡ i)
    → FillsSlots k children a b (slots d k before) (slots d k filled)
    → made ≡ take (length (slice_chunk new k i) * d) filled ++ replicate (length filled - length (slice_chunk new k i) * d) 0
    → length filled ≡ length made
    → ((r : ℕ) → r < length (slice_chunk new k i) → ((c : ℕ) → a ≤ c → c < b → (child_at children c).number % k ≡ r → ⊥) →
    get_or (slots d k before) r [] ≡ get_or new (i * k + r) [])
    → made ≡ hash_block h (slice_chunk new k i)
remade d h new children a b k i before filled made size len room p some sized le named below fills is same_len kept =
    let run : List (List ℕ) = slice_chunk new k i in
    let m : ℕ = length run in
    let short : m ≡ min k (length new - i * k) = length-take k (drop (i * k) new) ∙ ap (λ n. min k n) (length-drop (i * k) new) in
    let fits : m ≤ k = omega arith in
    let wide : m * d ≤ k * d = mul-le-mul_right d fits in
    let at : (r : ℕ) → r < k → get_or run r [] ≡ get_or new (i * k + r) [] = λ r low. get_or-take k (drop (i * k) new) r [] low
    ∙ get_or-drop (i * k) new r [] in
    let run_sized : AreSized d run = record {
      each = λ r low. let l : r < k = omega arith in
          ap length (at r l) ∙ sized.each (i * k + r) (omega arith);
    } in
    let front_len : length (take (m * d) filled) ≡ m * d = rw length-take (omega arith) in
    let fronts : take (m * d) made ≡ take (m * d) filled = ap (λ bs. take (m * d) bs) is
    ∙ take_at (take (m * d) filled) (replicate (length filled - m * d) 0) (m * d) front_len in
    let backs : drop (m * d) made ≡ replicate (length made - m * d) 0 = ap (λ bs. drop (m * d) bs) is
    ∙ drop_at (take (m * d) filled) (replicate (length filled - m * d) 0) (m * d) front_len
    ∙ ap (λ n. replicate (n - m * d) 0) same_len in
    let slot : (r : ℕ) → r < m → get_or (slots d k made) r [] ≡ get_or (slots d k filled) r [] = λ r low.
    let l : r < k = omega arith in
    get_or-cut d k made r l ∙ sym (slot_of_front d made m r low) ∙ ap (λ f. take d (drop (r * d) f)) fronts
    ∙ slot_of_front d filled m r low ∙ sym (get_or-cut d k filled r l) in
    hash_block_is d h run made k size len fits room run_sized
    (λ r low. slot r low ∙
    (let l : r < k = omega arith in
    ⊎_elim
    (λ c.
    let number : (child_at children c.0).number ≡ i * k + r = sym (div-add-mod' (child_at children c.0).number k)
    ∙ ap (λ q. q * k + (child_at children c.0).number % k) (below c.0 c.1 c.2) ∙ ap (λ s. i * k + s) c.3 in
    ap (λ s. get_or (slots d k filled) s []) (sym c.3)
    ∙ fills.set (λ j. get_or new j []) named c.0 c.1 c.2 i (below c.0 c.1 c.2) below
    ∙ ap (λ j. get_or new j []) number)
    (λ none. fills.kept r none ∙ kept r low none)
    (some_child k r children (b - a) a b (omega arith)))
    ∙ sym (at r (let l : r < k = omega arith in l)))
    backs

-- what is made of a block that can be made again
pub remake_done : (d : ℕ) (h : Hashing) (new : List (List ℕ)) (k i len : ℕ) (children : List Child) (before filled made : List ℕ) (a b : ℕ)
    → h.digest_size ≡ d → CanRemake h new k i len children before → 0 < k → k * d ≤ length before → len ≤ k → a ≤ b → b ≤ length children
    → IsPartitionPoint (λ child. ltb child.number (i * k) ≡ true) (λ child. ltb child.number (i * k) ≡ false) children a
    → ((c : ℕ) → a ≤ c → c < b → (child_at children c).number / k ≡ i)
    → (b < length children → (child_at children b).number / k ≡ i → ⊥)
    → FillsSlots k children a b (slots d k before) (slots d k filled)
    → length filled ≡ length before
    → made ≡ take (len * d) filled ++ replicate (length filled - len * d) 0
    → made ≡ hash_block h (slice_chunk new k i)
remake_done d h new k i len children before filled made a b size can p room fits le most parted below stops fills same_len is =
    let wide : len * d ≤ k * d = mul-le-mul_right d fits in
    let made_len : length made ≡ length filled =
    ap length is ∙ (let e : length (take (len * d) filled ++ replicate (length filled - len * d) 0) ≡ length filled = omega (
      arith,
      length-append (take (len * d) filled) (replicate (length filled - len * d) 0),
      length-take (len * d) filled,
      length-replicate {A = ℕ} (length filled - len * d) 0,
    ) in e) in
    let P : ℕ → Type 0 = λ n. made ≡ take (n * d) filled ++ replicate (length filled - n * d) 0 in
    let is_run = subst P can.whole is in
    remade d h new children a b k i before filled made size (made_len ∙ same_len ∙ sym can.block_size) (omega arith) p can.inside
    (record { each = λ j low. can.sized j low ∙ size }) le can.named below fills is_run (sym made_len)
    (λ r low none.
    let inside : r < len = (let w = can.whole in omega arith) in
    let r_low : r < k = omega arith in
    subst (λ (w : ℕ). get_or (slots w k before) r [] ≡ get_or new (i * k + r) []) size (can.kept r inside (λ c within number.
    let first : a ≤ c = ⊎_elim (λ early. let t = ltb-true (child_at children c).number (i * k)
    (parted.0 c nobody (omega arith) early) in absurd (omega arith)) (λ l. l) (cases_lt c a) in
    ⊎_elim
    (λ l. none c first l (ap (λ n. n % k) number ∙ mod_of i k r r_low))
    (λ late.
    let end : b < length children = omega arith in
    let at_end : i * k ≤ (child_at children b).number = ltb-false (child_at children b).number (i * k) (parted.1 b nobody le end) in
    let order : (child_at children b).number ≤ (child_at children c).number = can.rising b c nobody late within in
    absurd (stops end (div_of i k (child_at children b).number at_end (omega arith))))
    (cases_lt c b))))
