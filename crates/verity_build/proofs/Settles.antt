-- The numbers of digests and blocks while open blocks are closed level by level.
use Rattle.std.proofs.Common.{◌≡◌, ◌≢◌, ℕ, zero, suc, ◌+◌, ◌*◌, ◌<◌, ◌≤◌, List, [], ◌∷◌, ◌++◌, length, ⊎_elim, refl, sym, ap}
use Rattle.std.proofs.Common.{◌∙◌, subst, arith}
use Rattle.std.specs.Prelude.{Option}
use Rattle.std.specs.Int.{div_ceil}
use Rattle.std.proofs.Math.Nat.{add-mul, zero-mul, suc-mul, lt_of_mul-lt-mul_right}
use Rattle.std.proofs.lemmas.Bool.{cases_lt, cases_eq}
use Rattle.std.proofs.lemmas.List.{length-append}
use Rattle.verity_digest.specs.Tree.{Hashing, hash_block}
use Rattle.verity_digest.specs.Shape.{row_len, level_len}
use Rattle.verity_digest.proofs.Ceil.{IsCeil, IsCeil-div_ceil, same_ceil}
use Rattle.verity_digest.proofs.Counts.{row_len-zero, row_len-suc}
use Rattle.verity_tree.specs.Open.{Open}
use Rattle.verity_tree.specs.Climb.{open_at, AreEmpty, Comes, Closes}
use Rattle.verity_build.specs.Progress.{came, InOrder, Rooted, Growing, Grown, Settling}

-- where the indices below a level are the same, as many came to it
came_same : (n m : ℕ) (old new : List Open) (l : ℕ) → (l ≡ 0 → n ≡ m) →
    ((q : ℕ) → suc q ≡ l → (open_at new q).index ≡ (open_at old q).index) → came m new l ≡ came n old l
came_same n m old new zero first same = sym (first refl)
came_same n m old new (suc l) first same = same l refl

order_by : (k c c' : ℕ) (o o' : Open) → c' ≡ c → o' ≡ o → c ≡ o.index * k + length o.digests → c' ≡ o'.index * k + length o'.digests
order_by k c c' o o' e f order = e ∙ order ∙ (λ i. (sym f i).index * k + length (sym f i).digests)

ceil_by : (k c c' i i' : ℕ) → c' ≡ c → i' ≡ i → IsCeil c k i → IsCeil c' k i'
ceil_by k c c' i i' e f h =
    let P : ℕ → Type 0 = λ x. IsCeil x k i in
    let Q : ℕ → Type 0 = λ x. IsCeil c' k x in
    subst Q (sym f) (subst P (sym e) h)

-- one digest more in an open block
length-push : (o o' : Open) (d : List ℕ) → o' ≡ record o { digests = o.digests ++ d ∷ [] } → length o'.digests ≡ length o.digests + 1
length-push o o' d is = ap (λ x. length x.digests) is ∙ length-append o.digests (d ∷ [])

index-push : (o o' : Open) (d : List ℕ) → o' ≡ record o { digests = o.digests ++ d ∷ [] } → o'.index ≡ o.index
index-push o o' d is = ap (λ x. x.index) is

order_push : (k c : ℕ) (o o' : Open) (d : List ℕ) → c ≡ o.index * k + length o.digests →
    o' ≡ record o { digests = o.digests ++ d ∷ [] } → c + 1 ≡ o'.index * k + length o'.digests
order_push k c o o' d order is =
    let same : o'.index * k ≡ o.index * k = ap (λ x. x * k) (index-push o o' d is) in
    omega (arith, length-push o o' d is)

module _ (k n : ℕ) (d : List ℕ) (old new : List Open) (old_root new_root : Option (List ℕ)) (growing : Growing k n old old_root)
    (comes : Comes 0 d old new old_root new_root) where
  pub same_index : (q : ℕ) → q < length old → (open_at new q).index ≡ (open_at old q).index
  same_index zero there = ap (λ o. o.index) (comes.here there)
  same_index (suc q) there = ap (λ o. o.index) (comes.others (suc q) (λ e. absurd (omega arith)))

  first_order : (l : ℕ) → l < length old → InOrder k (n + 1) new l
  first_order zero there = order_push k n (open_at old 0) (open_at new 0) d (growing.order 0 there) (comes.here there)
  first_order (suc l) there =
      order_by k (open_at old l).index (open_at new l).index (open_at old (suc l)) (open_at new (suc l))
      (same_index l (omega arith)) (comes.others (suc l) (λ e. absurd (omega arith))) (growing.order (suc l) there)

  first_rooted : Rooted (n + 1) new new_root
  first_rooted none =
      ⊎_elim
      (λ some.
      ap (λ m. came (n + 1) new m) comes.len
      ∙ came_same n (n + 1) old new (length old) (λ z. absurd (omega arith)) (λ q e. same_index q (omega arith))
      ∙ growing.rooted (sym (comes.kept some) ∙ none))
      (λ no. let root = comes.root no in absurd (cc))
      (cases_lt 0 (length old))

  -- a data block's digest comes to level 0
  pub settling_from : (all : ℕ) → Settling k (n + 1) all 0 new new_root
  settling_from all =
      let len = comes.len in
      record {
        below = λ l less there. absurd (omega arith);
        earlier = λ more l less there. absurd (omega arith);
        order = λ l le there. first_order l (omega arith);
        room = λ l apart there.
            let old_room = growing.room l (omega arith) in
            subst (λ o. length o.digests < k) (sym (comes.others l apart)) old_room;
        some = λ there. omega (arith, length-push (open_at old 0) (open_at new 0) d (comes.here (omega arith)));
        most = λ there.
            let old_room = growing.room 0 (omega arith) in
            omega (arith, length-push (open_at old 0) (open_at new 0) d (comes.here (omega arith)));
        rooted = first_rooted;
      }

module _ (k n all j : ℕ) (h : Hashing) (old new : List Open) (old_root new_root : Option (List ℕ))
    (settling : Settling k n all j old old_root) (there : j < length old)
    (done : n < all → length (open_at old j).digests ≡ k) (closes : Closes h j old new old_root new_root) where
  closed_index : (q : ℕ) → q ≢ j → q < length old → (open_at new q).index ≡ (open_at old q).index
  closed_index q apart inside =
      ⊎_elim
      (λ next. ap (λ m. (open_at new m).index) next ∙ ap (λ o. o.index) (closes.above (omega arith))
      ∙ ap (λ m. (open_at old m).index) (sym next))
      (λ other. ap (λ o. o.index) (closes.others q apart other))
      (cases_eq q (suc j))

  closed_came : (l : ℕ) → l ≢ suc j → l ≤ length old → came n new l ≡ came n old l
  closed_came l apart within =
      came_same n n old new l (λ z. refl) (λ q e. closed_index q (λ same. apart (sym e ∙ ap suc same)) (omega arith))

  here_index : (open_at new j).index ≡ (open_at old j).index + 1
  here_index = ap (λ o. o.index) closes.here

  here_digests : length (open_at new j).digests ≡ 0
  here_digests = ap (λ o. length o.digests) closes.here

  apart_next : j ≢ suc j
  apart_next e = absurd (omega arith)

  here_ceil : IsCeil (came n new j) k (open_at new j).index
  here_ceil =
      let i : ℕ = (open_at old j).index in
      let order = settling.order j (omega arith) there in
      let some = settling.some there in
      let most = settling.most there in
      ceil_by k (came n old j) (came n new j) (i + 1) (open_at new j).index (closed_came j apart_next (omega arith)) here_index
      (record { above = omega (arith, add-mul i 1 k); below = omega (arith, add-mul i 1 k) })

  here_order : n < all → InOrder k n new j
  here_order more =
      let i : ℕ = (open_at old j).index in
      let full = done more in
      let order = settling.order j (omega arith) there in
      let same : (open_at new j).index * k ≡ (i + 1) * k = ap (λ x. x * k) here_index in
      let c = closed_came j apart_next (omega arith) in
      omega (arith, add-mul i 1 k, here_digests)

  next_order : suc j < length old → InOrder k n new (suc j)
  next_order inside =
      here_index ∙ order_push k (open_at old j).index (open_at old (suc j)) (open_at new (suc j))
      (h.digest (hash_block h (open_at old j).digests))
      (settling.order (suc j) (omega arith) inside) (closes.above inside)

  later_order : (l : ℕ) → suc j < l → l < length old → InOrder k n new l
  later_order l more inside =
      order_by k (came n old l) (came n new l) (open_at old l) (open_at new l)
      (closed_came l (λ e. absurd (omega arith)) (omega arith)) (closes.others l (λ e. absurd (omega arith)) (λ e. absurd (omega arith)))
      (settling.order l (omega arith) inside)

  lower_ceil : (l : ℕ) → l < j → l < length old → IsCeil (came n new l) k (open_at new l).index
  lower_ceil l less inside =
      ceil_by k (came n old l) (came n new l) (open_at old l).index (open_at new l).index
      (closed_came l (λ e. absurd (omega arith)) (omega arith)) (closed_index l (λ e. absurd (omega arith)) inside)
      (settling.below l less inside)

  lower_order : n < all → (l : ℕ) → l < j → l < length old → InOrder k n new l
  lower_order more l less inside =
      order_by k (came n old l) (came n new l) (open_at old l) (open_at new l)
      (closed_came l (λ e. absurd (omega arith)) (omega arith)) (closes.others l (λ e. absurd (omega arith)) (λ e. absurd (omega arith)))
      (settling.earlier more l less inside)

  next_rooted : Rooted n new new_root
  next_rooted none =
      ⊎_elim
      (λ inner.
      ap (λ m. came n new m) closes.len
      ∙ closed_came (length old) (λ e. absurd (omega arith)) (omega arith)
      ∙ settling.rooted (sym (closes.kept inner) ∙ none))
      (λ top. let root = closes.root top in absurd (cc))
      (cases_lt (suc j) (length old))

  -- the open block of a level is closed, and what is left to do is at the next level
  pub settling_next : Settling k n all (suc j) new new_root
  settling_next =
      let len = closes.len in
      record {
        below = λ l less inside. ⊎_elim (λ e. subst (λ m. IsCeil (came n new m) k (open_at new m).index) (sym e) here_ceil)
            (λ apart. lower_ceil l (omega arith) (omega arith)) (cases_eq l j);
        earlier = λ more l less inside. ⊎_elim (λ e. subst (λ m. InOrder k n new m) (sym e) (here_order more))
            (λ apart. lower_order more l (omega arith) (omega arith)) (cases_eq l j);
        order = λ l le inside. ⊎_elim (λ e. subst (λ m. InOrder k n new m) (sym e) (next_order (omega arith)))
            (λ apart. later_order l (omega arith) (omega arith)) (cases_eq l (suc j));
        room = λ l apart inside.
            ⊎_elim
            (λ e. let some = settling.some there in let most = settling.most there in
            subst (λ m. length (open_at new m).digests < k) (sym e) (omega (arith, here_digests)))
            (λ other. let room = settling.room l other (omega arith) in
            subst (λ o. length o.digests < k) (sym (closes.others l other apart)) room)
            (cases_eq l j);
        some = λ inside. omega (
          arith,
          length-push (open_at old (suc j)) (open_at new (suc j))
              (h.digest (hash_block h (open_at old j).digests)) (closes.above (omega arith)),
        );
        most = λ inside.
            let room = settling.room (suc j) (λ e. absurd (omega arith)) (omega arith) in
            omega (
              arith,
              length-push (open_at old (suc j)) (open_at new (suc j)) (h.digest (hash_block h (open_at old j).digests))
                  (closes.above (omega arith)),
            );
        rooted = next_rooted;
      }

-- a block that isn't full stays open, and nothing more is to be done
pub growing_at : (k n all j : ℕ) (opens : List Open) (root : Option (List ℕ)) → Settling k n all j opens root → j < length opens →
    n < all → length (open_at opens j).digests ≢ k → Growing k n opens root
growing_at k n all j opens root settling there more short = record {
  order = λ l inside. ⊎_elim (λ less. settling.earlier more l less inside) (λ le. settling.order l le inside) (cases_lt l j);
  room = λ l inside. ⊎_elim
      (λ e. let most = settling.most there in subst (λ m. length (open_at opens m).digests < k) (sym e)
      (⊎_elim (λ less. less) (λ le. absurd (short (omega arith))) (cases_lt (length (open_at opens j).digests) k)))
      (λ apart. settling.room l apart inside)
      (cases_eq l j);
  rooted = settling.rooted;
}

-- above the top level nothing is left to do
pub growing_end : (k n all j : ℕ) (opens : List Open) (root : Option (List ℕ)) → Settling k n all j opens root → length opens ≤ j →
    n < all → Growing k n opens root
growing_end k n all j opens root settling end more = record {
  order = λ l inside. settling.earlier more l (omega arith) inside;
  room = λ l inside. settling.room l (λ e. absurd (omega arith)) inside;
  rooted = settling.rooted;
}

pub grown_end : (k n all j : ℕ) (opens : List Open) (root : Option (List ℕ)) → Settling k n all j opens root → length opens ≤ j →
    Grown k n opens root
grown_end k n all j opens root settling end = record {
  ceil = λ l inside. settling.below l (omega arith) inside;
  rooted = settling.rooted;
}

came_empty : (opens : List Open) → AreEmpty opens → (l : ℕ) → l ≤ length opens → came 0 opens l ≡ 0
came_empty opens empty zero within = refl
came_empty opens empty (suc l) within = (empty l (omega arith)).1

-- before the first data block
pub growing_empty : (k : ℕ) (opens : List Open) (root : Option (List ℕ)) → 0 < k → AreEmpty opens → Growing k 0 opens root
growing_empty k opens root some empty = record {
  order = λ l inside.
      let none : (open_at opens l).index * k ≡ 0 = ap (λ i. i * k) (empty l inside).1 ∙ zero-mul k in
      let few : length (open_at opens l).digests ≡ 0 = ap length (empty l inside).0 in
      let c = came_empty opens empty l (omega arith) in
      omega arith;
  room = λ l inside. omega (arith, ap length (empty l inside).0);
  rooted = λ none. came_empty opens empty (length opens) (omega arith);
}

-- no level closed more blocks than what came to it takes
pub record Reaches (k n : ℕ) (opens : List Open) : Type 0 where
  pub each : (l : ℕ) → l < length opens → (open_at opens l).index * k < came n opens l + k

pub settling_reaches : (k n all j : ℕ) (opens : List Open) (root : Option (List ℕ)) → 0 < k → Settling k n all j opens root →
    Reaches k n opens
settling_reaches k n all j opens root some settling = record {
  each = λ l inside. ⊎_elim
      (λ less. (settling.below l less inside).below)
      (λ le. let order = settling.order l le inside in omega arith)
      (cases_lt l j);
}

pub growing_reaches : (k n : ℕ) (opens : List Open) (root : Option (List ℕ)) → 0 < k → Growing k n opens root → Reaches k n opens
growing_reaches k n opens root some growing = record { each = λ l inside. let order = growing.order l inside in omega arith }

pub grown_reaches : (k n : ℕ) (opens : List Open) (root : Option (List ℕ)) → Grown k n opens root → Reaches k n opens
grown_reaches k n opens root grown = record { each = λ l inside. (grown.ceil l inside).below }

-- no more comes to a level than there is
pub came_most : (k n all : ℕ) (opens : List Open) → 0 < k → n ≤ all → Reaches k n opens → (l : ℕ) → l ≤ length opens →
    came n opens l ≤ row_len k all l
came_most k n all opens some few reaches zero within = omega (arith, row_len-zero k all)
came_most k n all opens some few reaches (suc l) within =
    let i : ℕ = (open_at opens l).index in
    let r : ℕ = row_len k all l in
    let low : came n opens l ≤ r = came_most k n all opens some few reaches l (omega arith) in
    let reach = reaches.each l (omega arith) in
    let up : r ≤ row_len k all (suc l) * k = rw (row_len-suc k all l some) (IsCeil-div_ceil r k some).above in
    let less : i < suc (row_len k all (suc l)) = lt_of_mul-lt-mul_right k (omega (arith, suc-mul (row_len k all (suc l)) k)) in
    omega arith

-- the block that is closed is one of its level
pub index_below : (k n all j : ℕ) (opens : List Open) (root : Option (List ℕ)) → 0 < k → n ≤ all → Settling k n all j opens root →
    j < length opens → (open_at opens j).index < level_len k all j
index_below k n all j opens root some few settling there =
    let r : ℕ = row_len k all j in
    let low : came n opens j ≤ r = came_most k n all opens some few (settling_reaches k n all j opens root some settling) j (omega arith) in
    let order = settling.order j (omega arith) there in
    let digests = settling.some there in
    let up : r ≤ row_len k all (suc j) * k = rw (row_len-suc k all j some) (IsCeil-div_ceil r k some).above in
    lt_of_mul-lt-mul_right k (omega arith)

-- behind the last data block all has come to the levels that are closed
came_all : (k all : ℕ) (opens : List Open) → 0 < k → (j : ℕ) →
    ((l : ℕ) → l < j → IsCeil (came all opens l) k (open_at opens l).index) → came all opens j ≡ row_len k all j
came_all k all opens some zero ceil = sym (row_len-zero k all)
came_all k all opens some (suc j) ceil =
    let before : came all opens j ≡ row_len k all j = came_all k all opens some j (λ l less. ceil l (omega arith)) in
    let i : ℕ = (open_at opens j).index in
    let P : ℕ → Type 0 = λ c. IsCeil c k i in
    same_ceil (row_len k all j) k i (div_ceil (row_len k all j) k) (subst P before (ceil j (omega arith)))
    (IsCeil-div_ceil (row_len k all j) k some)
    ∙ sym (row_len-suc k all j some)

pub settling_all : (k all j : ℕ) (opens : List Open) (root : Option (List ℕ)) → 0 < k → Settling k all all j opens root →
    j ≤ length opens → came all opens j ≡ row_len k all j
settling_all k all j opens root some settling within = came_all k all opens some j (λ l less. settling.below l less (omega arith))

-- .. and every level has closed all its blocks
pub grown_all : (k all : ℕ) (opens : List Open) (root : Option (List ℕ)) → 0 < k → Grown k all opens root → (l : ℕ) →
    l ≤ length opens → came all opens l ≡ row_len k all l
grown_all k all opens root some grown l within = came_all k all opens some l (λ m less. grown.ceil m (omega arith))
