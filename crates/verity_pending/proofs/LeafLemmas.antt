-- The leaves of a draft are the changed blocks, with the digests of the working image.
use Rattle.std.proofs.Common.{◌≡◌, ℕ, zero, suc, ◌+◌, ◌-◌, ◌<◌, ◌≤◌, Bool, true, false, ◌&&◌}
use Rattle.std.proofs.Common.{eqb, ltb, leb, cond, List, [], ◌∷◌, ◌++◌, length, map}
use Rattle.std.proofs.Common.{get_or, take, drop, Option, Some, None, ⊎_elim, ◌⊎◌, inl, inr, refl, sym, ap, ◌∙◌, subst, arith}
use Rattle.std.specs.Prelude.{is_some, unwrap_or, IfSome}
use Rattle.std.specs.List.{range_with_len, filter}
use Rattle.std.specs.Ordering.{nat_cmp}
use Rattle.std.specs.Map.{lookup}
use Rattle.std.specs.BTreeMap.{is_at}
use Rattle.std.proofs.lemmas.Bool.{cases_lt, cases_eq, cases_Bool, or_cases, or_left, or_right, and_parts, and_from, cond-true}
use Rattle.std.proofs.lemmas.Bool.{cond-false, lt-ltb, le-ltb, ltb-true, leb-true, le-leb, false≢true, eq-eqb, ne_eqb}
use Rattle.std.proofs.lemmas.List.{length-map, map-append, get_or-map, take_at, drop_at, length-take-le, drop-drop, take_all, length-append}
use Rattle.std.proofs.lemmas.List.{length-replicate, append_assoc, append-nil, drop_all}
use Rattle.std.specs.List.{count_by}
use Rattle.std.specs.List.Sorted.{IsNonDecreasingBy}
use Rattle.std.proofs.lemmas.List.FromFn.{length-range_with_len}
use Rattle.std.proofs.lemmas.List.Sums.{count_by-le-length, sum_by-cons}
use Rattle.std.proofs.Math.Seq.{take-add}
use borrow.Rule.Slice.PartMut.{put_mid}
use Rattle.verity_profile.specs.Profile.{zero_block}
use Rattle.verity_digest.specs.Hash.{Salted, salted_digest}
use Rattle.verity_pending.specs.declared.child.Child.{Child}
use Rattle.verity_pending.specs.Edits.{Edits}
use Rattle.verity_pending.specs.Touched.{changed_blocks}
use Rattle.verity_pending.specs.Draft.{Draft, IsDraft, written_at, block_at, edits_of}
use Rattle.verity_pending.specs.Slots.{nobody, child_at}
use Rattle.verity_pending.specs.Plan.{numbers_of}
use Rattle.verity_pending.specs.Leaves.{unhashed, numbers_in, old_numbers, changed_numbers, written_or, hashed_leaf, is_written}
use Rattle.verity_pending.specs.Leaves.{leaf_hashes}
use Rattle.verity_pending.specs.Children.{digest_among, spread}
use Rattle.verity_pending.proofs.ParentLemmas.{Rising, Has, same_rising, Rising-filter, filter_has, in_filter, Rising-from}
use Rattle.verity_pending.proofs.Drafts.{is_at_apart, at_working, length-working}
use Rattle.verity_pending.proofs.Applied.{KeysRise, is_at_same}
use Rattle.verity_pending.proofs.ChildLemmas.{IsFirstFrom, rising_children}

abbrev pub all_leaves : Salted → Draft → List Child
all_leaves salted d = map (hashed_leaf salted d.written (zero_block d.size)) (changed_numbers d.written d.least d.working)

-- the numbers of the old blocks

old_rising : (least lo : ℕ) (es : List (ℕ × List ℕ)) → KeysRise lo es → Rising lo (old_numbers least es)
old_rising least lo [] r = tt
old_rising least lo (e ∷ es) r =
    let rest : List (ℕ × List ℕ) = filter (λ x. ltb x.0 least) es in
    let numbers : List (ℕ × List ℕ) → List ℕ = λ xs. map (λ x. x.0) xs in
    let tail : Rising (suc e.0) (numbers rest) = old_rising least (suc e.0) es r.1 in
    let low = r.0 in
    ⊎_elim
    (λ t. subst (λ (xs : List (ℕ × List ℕ)). Rising lo (numbers xs)) (sym (cond-true (ltb e.0 least) (e ∷ rest) rest t)) (low, tail))
    (λ f. subst (λ (xs : List (ℕ × List ℕ)). Rising lo (numbers xs)) (sym (cond-false (ltb e.0 least) (e ∷ rest) rest f))
    (Rising-from lo (suc e.0) (numbers rest) (omega arith) tail))
    (cases_Bool (ltb e.0 least))

record IsOld (least n : ℕ) (es : List (ℕ × List ℕ)) : Type 0 where
  low : n < least
  known : is_some (lookup (is_at (nat_cmp n)) es) ≡ true

known_later : (e : ℕ × List ℕ) (es : List (ℕ × List ℕ)) (n : ℕ) → is_some (lookup (is_at (nat_cmp n)) es) ≡ true →
    is_some (lookup (is_at (nat_cmp n)) (e ∷ es)) ≡ true
known_later e es n k =
    ⊎_elim
    (λ t. ap is_some (cond-true (is_at (nat_cmp n) e.0) (Some e.1) (lookup (is_at (nat_cmp n)) es) t))
    (λ f. ap is_some (cond-false (is_at (nat_cmp n) e.0) (Some e.1) (lookup (is_at (nat_cmp n)) es) f) ∙ k)
    (cases_Bool (is_at (nat_cmp n) e.0))

old_has : (least n : ℕ) (es : List (ℕ × List ℕ)) → Has (old_numbers least es) n → IsOld least n es
old_has least n [] h = absurd h
old_has least n (e ∷ es) h =
    let rest : List (ℕ × List ℕ) = filter (λ x. ltb x.0 least) es in
    let P : List (ℕ × List ℕ) → Type 0 = λ xs. Has (map (λ x. x.0) xs) n in
    let later : P rest → IsOld least n (e ∷ es) = λ t. let r = old_has least n es t in
    record { low = r.low; known = known_later e es n r.known } in
    ⊎_elim
    (λ t. ⊎_elim
    (λ here.
    let low = ltb-true e.0 least t in
    let same : is_at (nat_cmp n) e.0 ≡ true = subst (λ (m : ℕ). is_at (nat_cmp n) m ≡ true) here (is_at_same n) in
    record { low = omega arith; known = ap is_some (cond-true (is_at (nat_cmp n) e.0) (Some e.1) (lookup (is_at (nat_cmp n)) es) same) })
    later (subst P (cond-true (ltb e.0 least) (e ∷ rest) rest t) h))
    (λ f. later (subst P (cond-false (ltb e.0 least) (e ∷ rest) rest f) h))
    (cases_Bool (ltb e.0 least))

has_old : (least n : ℕ) (es : List (ℕ × List ℕ)) → IsOld least n es → Has (old_numbers least es) n
has_old least n [] i = absurd (false≢true i.known)
has_old least n (e ∷ es) i =
    let rest : List (ℕ × List ℕ) = filter (λ x. ltb x.0 least) es in
    let P : List (ℕ × List ℕ) → Type 0 = λ xs. Has (map (λ x. x.0) xs) n in
    let low = i.low in
    ⊎_elim
    (λ same.
    let t : ltb e.0 least ≡ true = lt-ltb e.0 least (omega arith) in
    subst P (sym (cond-true (ltb e.0 least) (e ∷ rest) rest t)) (inl same))
    (λ apart.
    let gone = cond-false (is_at (nat_cmp n) e.0) (Some e.1) (lookup (is_at (nat_cmp n)) es) (is_at_apart e.0 n (λ s. apart (sym s))) in
    let tail : P rest = has_old least n es (record { low = low; known = sym (ap is_some gone) ∙ i.known }) in
    ⊎_elim (λ t. subst P (sym (cond-true (ltb e.0 least) (e ∷ rest) rest t)) (inr tail))
    (λ f. subst P (sym (cond-false (ltb e.0 least) (e ∷ rest) rest f)) tail) (cases_Bool (ltb e.0 least)))
    (cases_eq n e.0)

-- the numbers of the new blocks, and of all

new_rising : (n a : ℕ) → Rising a (range_with_len a n)
new_rising zero a = tt
new_rising (suc n) a = (omega arith, Rising-from (suc a) (a + 1) (range_with_len (a + 1) n) (omega arith) (new_rising n (a + 1)))

new_has : (n a m : ℕ) → Has (range_with_len a n) m → (a ≤ m) × (m < a + n)
new_has zero a m h = absurd h
new_has (suc n) a m h =
    ⊎_elim (λ e. (omega arith, omega arith)) (λ t. let r = new_has n (a + 1) m t in let l = r.0 in let u = r.1 in
    (omega arith, omega arith)) h

has_new : (n a m : ℕ) → a ≤ m → m < a + n → Has (range_with_len a n) m
has_new zero a m low high = absurd (omega arith)
has_new (suc n) a m low high = ⊎_elim (λ e. inl e) (λ ne. inr (has_new n (a + 1) m (omega arith) (omega arith))) (cases_eq m a)

Rising-append : (lo m : ℕ) (xs ys : List ℕ) → lo ≤ m → Rising lo xs → ((n : ℕ) → Has xs n → n < m) → Rising m ys → Rising lo (xs ++ ys)
Rising-append lo m [] ys le r below s = Rising-from lo m ys le s
Rising-append lo m (x ∷ xs) ys le r below s =
    let less = below x (inl refl) in
    (r.0, Rising-append (suc x) m xs ys (omega arith) r.1 (λ n h. below n (inr h)) s)

has_append : (xs ys : List ℕ) (n : ℕ) → Has (xs ++ ys) n → Has xs n ⊎ Has ys n
has_append [] ys n h = inr h
has_append (x ∷ xs) ys n h = ⊎_elim (λ e. inl (inl e)) (λ t. ⊎_elim (λ a. inl (inr a)) (λ b. inr b) (has_append xs ys n t)) h

append_has : (xs ys : List ℕ) (n : ℕ) → Has xs n ⊎ Has ys n → Has (xs ++ ys) n
append_has [] ys n h = ⊎_elim (λ a. absurd a) (λ b. b) h
append_has (x ∷ xs) ys n h = ⊎_elim (λ a. ⊎_elim (λ e. inl e) (λ t. inr (append_has xs ys n (inl t))) a)
    (λ b. inr (append_has xs ys n (inr b))) h

pub changed_numbers-blocks : (d : Draft) (image : List (List ℕ)) → IsDraft d → KeysRise 0 d.written →
    changed_numbers d.written d.least d.working ≡ changed_blocks (edits_of image d)
changed_numbers-blocks d image ok rise =
    let e : Edits = edits_of image d in
    let old : List ℕ = old_numbers d.least d.written in
    let new : List ℕ = range_with_len d.least (d.working - d.least) in
    let len = length-working image d in
    let lw = ok.least in
    same_rising 0 (old ++ new) (changed_blocks e)
    (Rising-append 0 d.least old new (omega arith) (old_rising d.least 0 d.written rise)
    (λ n h. (old_has d.least n d.written h).low) (new_rising (d.working - d.least) d.least))
    (Rising-filter e.changed (length e.working) 0)
    (λ n h. ⊎_elim
    (λ a. let o = old_has d.least n d.written a in let low = o.low in
    filter_has e.changed (length e.working) 0 n (record {
      low = omega arith;
      high = omega arith;
      passes = or_left (is_some (written_at d n)) (leb d.least n && ltb n d.working) o.known;
    }))
    (λ b. let r = new_has (d.working - d.least) d.least n b in let low = r.0 in let high = r.1 in
    filter_has e.changed (length e.working) 0 n (record {
      low = omega arith;
      high = omega arith;
      passes = or_right (is_some (written_at d n)) (leb d.least n && ltb n d.working)
          (and_from (leb d.least n) (ltb n d.working) (le-leb d.least n low) (lt-ltb n d.working (omega arith)));
    }))
    (has_append old new n h))
    (λ n h.
    let i = in_filter e.changed (length e.working) 0 n h in
    let high = i.high in
    append_has old new n
    (⊎_elim
    (λ low. inl (has_old d.least n d.written (record {
      low = low;
      known = ⊎_elim (λ k. k) (λ b. let p = and_parts (leb d.least n) (ltb n d.working) b in let up = leb-true d.least n p.0 in
          absurd (omega arith)) (or_cases (is_some (written_at d n)) (leb d.least n && ltb n d.working) i.passes);
    })))
    (λ up. inr (has_new (d.working - d.least) d.least n up (omega arith)))
    (cases_lt n d.least)))

numbers_of-hashed : (salted : Salted) (written : List (ℕ × List ℕ)) (zeros : List ℕ) (ns : List ℕ) →
    numbers_of (map (hashed_leaf salted written zeros) ns) ≡ ns
numbers_of-hashed salted written zeros [] = refl
numbers_of-hashed salted written zeros (n ∷ ns) = ap (λ ms. n ∷ ms) (numbers_of-hashed salted written zeros ns)

pub numbers-leaves : (salted : Salted) (d : Draft) (image : List (List ℕ)) → IsDraft d → KeysRise 0 d.written →
    numbers_of (all_leaves salted d) ≡ changed_blocks (edits_of image d)
numbers-leaves salted d image ok rise =
    numbers_of-hashed salted d.written (zero_block d.size) (changed_numbers d.written d.least d.working)
    ∙ changed_numbers-blocks d image ok rise

-- the digests

-- a leaf of the draft
pub record IsLeaf (salted : Salted) (d : Draft) (child : Child) : Type 0 where
  pub digest : child.digest ≡ salted_digest salted (written_or d.written (zero_block d.size) child.number)
  pub within : child.number < d.working
  pub known : child.number < d.least → is_some (written_at d child.number) ≡ true

has_get_or : (ns : List ℕ) (c : ℕ) → c < length ns → Has ns (get_or ns c 0)
has_get_or [] c below = absurd (omega arith)
has_get_or (n ∷ ns) zero below = inl refl
has_get_or (n ∷ ns) (suc c) below = inr (has_get_or ns c (omega arith))

leaf_is : (salted : Salted) (d : Draft) (n : ℕ) → IsDraft d → Has (changed_numbers d.written d.least d.working) n →
    IsLeaf salted d (hashed_leaf salted d.written (zero_block d.size) n)
leaf_is salted d n ok h =
    let least = ok.least in
    ⊎_elim
    (λ old. let o = old_has d.least n d.written old in let low = o.low in
    record { digest = refl; within = omega arith; known = λ _. o.known })
    (λ new. let r = new_has (d.working - d.least) d.least n new in let low = r.0 in let high = r.1 in
    record { digest = refl; within = omega arith; known = λ l. absurd (omega arith) })
    (has_append (old_numbers d.least d.written) (range_with_len d.least (d.working - d.least)) n h)

pub each_leaf : (salted : Salted) (d : Draft) → IsDraft d → (c : ℕ) → c < length (all_leaves salted d) →
    IsLeaf salted d (child_at (all_leaves salted d) c)
each_leaf salted d ok c below =
    let f : ℕ → Child = hashed_leaf salted d.written (zero_block d.size) in
    let ns : List ℕ = changed_numbers d.written d.least d.working in
    let len : length (all_leaves salted d) ≡ length ns = length-map ns f in
    let inside : c < length ns = omega arith in
    subst (IsLeaf salted d) (sym (get_or-map f ns c 0 nobody inside)) (leaf_is salted d (get_or ns c 0) ok (has_get_or ns c inside))

some_is : (o : Option (List ℕ)) (a b : List ℕ) → is_some o ≡ true → unwrap_or o a ≡ unwrap_or o b
some_is None a b t = absurd (false≢true t)
some_is (Some x) a b t = refl

-- a leaf has the digest of the block of the working image
pub leaf_named : (salted : Salted) (d : Draft) (image : List (List ℕ)) (child : Child) → IsLeaf salted d child →
    child.digest ≡ salted_digest salted (get_or (edits_of image d).working child.number [])
leaf_named salted d image child l =
    let n : ℕ = child.number in
    let w : Option (List ℕ) = written_at d n in
    let same : unwrap_or w (zero_block d.size) ≡ block_at image d n =
    ⊎_elim
    (λ low. some_is w (zero_block d.size) (cond (ltb n d.least) (get_or image n []) (zero_block d.size)) (l.known low))
    (λ high. ap (unwrap_or w) (sym (cond-false (ltb n d.least) (get_or image n []) (zero_block d.size) (le-ltb n d.least high))))
    (cases_lt n d.least) in
    l.digest ∙ ap (salted_digest salted) (same ∙ sym (at_working image d n l.within))

-- what is hashed for a number has the size of a block
length-unwrap_or : (o : Option (List ℕ)) (zeros : List ℕ) (size : ℕ) → length zeros ≡ size → IfSome o (λ block. length block ≡ size) →
    length (unwrap_or o zeros) ≡ length zeros
length-unwrap_or None zeros size len sized = refl
length-unwrap_or (Some block) zeros size len sized = sized ∙ sym len

pub length-written_or : (d : Draft) (zeros : List ℕ) → IsDraft d → zeros ≡ zero_block d.size → (n : ℕ) →
    length (written_or d.written zeros n) ≡ length zeros
length-written_or d zeros ok is n =
    length-unwrap_or (written_at d n) zeros d.size (ap length is ∙ length-replicate d.size 0) (ok.sized n)

-- making the digests of leaves that have none yet
pub hashed_unhashed : (salted : Salted) (written : List (ℕ × List ℕ)) (zeros : List ℕ) (ns : List ℕ) →
    map (λ child. hashed_leaf salted written zeros child.number) (map unhashed ns) ≡ map (hashed_leaf salted written zeros) ns
hashed_unhashed salted written zeros [] = refl
hashed_unhashed salted written zeros (n ∷ ns) = ap (λ cs. hashed_leaf salted written zeros n ∷ cs) (hashed_unhashed salted written zeros ns)

-- one more run of leaves is made
pub run_made : (f : Child → Child) (xs ys zs : List Child) (a n m : ℕ) → a + n ≤ length xs → ys ≡ map f (take a xs) ++ drop a xs →
    m ≡ n → zs ≡ map f (take m (drop a ys)) → put_mid a m ys zs ≡ map f (take (a + n) xs) ++ drop (a + n) xs
run_made f xs ys zs a n m fits old same new =
    let front : length (map f (take a xs)) ≡ a = length-map (take a xs) f ∙ length-take-le a xs (omega arith) in
    let before : take a ys ≡ map f (take a xs) = ap (take a) old ∙ take_at (map f (take a xs)) (drop a xs) a front in
    let behind : drop a ys ≡ drop a xs = ap (drop a) old ∙ drop_at (map f (take a xs)) (drop a xs) a front in
    let made : zs ≡ map f (take n (drop a xs)) = new ∙ (λ i. map f (take (same i) (behind i))) in
    let rest : drop m (drop a ys) ≡ drop (a + n) xs = (λ i. drop (same i) (behind i)) ∙ drop-drop n a xs in
    (λ i. before i ++ (made i ++ rest i))
    ∙ sym (append_assoc (map f (take a xs)) (map f (take n (drop a xs))) (drop (a + n) xs))
    ∙ ap (λ cs. cs ++ drop (a + n) xs) (sym (map-append f (take a xs) (take n (drop a xs))))
    ∙ ap (λ cs. map f cs ++ drop (a + n) xs) (sym (take-add a n xs))

-- and all are made
pub all_made : (f : Child → Child) (xs ys : List Child) (a : ℕ) → length xs ≤ a → ys ≡ map f (take a xs) ++ drop a xs → ys ≡ map f xs
all_made f xs ys a all is =
    is ∙ ap (λ cs. map f cs ++ drop a xs) (take_all a xs all) ∙ ap (λ cs. map f xs ++ cs) (drop_all a xs all) ∙ append-nil (map f xs)

none_is : (o : Option (List ℕ)) (zeros : List ℕ) → is_some o ≡ false → unwrap_or o zeros ≡ zeros
none_is None zeros not = refl
none_is (Some x) zeros not = absurd (false≢true (sym not))

-- what wasn't written holds zeros
pub unwritten : (written : List (ℕ × List ℕ)) (zeros : List ℕ) (n : ℕ) → is_written written n ≡ false → written_or written zeros n ≡ zeros
unwritten written zeros n not = none_is (lookup (is_at (nat_cmp n)) written) zeros not

-- how many blocks are hashed

count_same : (p q : ℕ → Bool) (ns : List ℕ) → ((n : ℕ) → Has ns n → p n ≡ q n) → count_by p ns ≡ count_by q ns
count_same p q [] same = refl
count_same p q (n ∷ ns) same =
    sum_by-cons (λ (m : ℕ). cond (p m) 1 0) n ns
    ∙ (λ i. cond (same n (inl refl) i) 1 0 + count_same p q ns (λ m h. same m (inr h)) i)
    ∙ sym (sum_by-cons (λ (m : ℕ). cond (q m) 1 0) n ns)

count_here : (p : ℕ → Bool) (n : ℕ) (ns : List ℕ) → p n ≡ true → count_by p (n ∷ ns) ≡ 1 + count_by p ns
count_here p n ns t = sum_by-cons (λ (m : ℕ). cond (p m) 1 0) n ns ∙ ap (λ m. m + count_by p ns) (cond-true (p n) 1 0 t)

count_not : (p : ℕ → Bool) (n : ℕ) (ns : List ℕ) → p n ≡ false → count_by p (n ∷ ns) ≡ count_by p ns
count_not p n ns f = sum_by-cons (λ (m : ℕ). cond (p m) 1 0) n ns ∙ ap (λ m. m + count_by p ns) (cond-false (p n) 1 0 f) ∙ omega arith

has_least : (lo n : ℕ) (ns : List ℕ) → Rising lo ns → Has ns n → lo ≤ n
has_least lo n [] r h = absurd h
has_least lo n (m ∷ ns) r h = let low = r.0 in ⊎_elim (λ e. omega arith) (λ t. let more = has_least (suc m) n ns r.1 t in omega arith) h

written_first : (e : ℕ × List ℕ) (es : List (ℕ × List ℕ)) (n : ℕ) → e.0 ≡ n → is_written (e ∷ es) n ≡ true
written_first e es n is =
    ap is_some (cond-true (is_at (nat_cmp n) e.0) (Some e.1) (lookup (is_at (nat_cmp n)) es)
    (subst (λ (m : ℕ). is_at (nat_cmp n) m ≡ true) (sym is) (is_at_same n)))

written_later : (e : ℕ × List ℕ) (es : List (ℕ × List ℕ)) (n : ℕ) → (e.0 ≡ n → ⊥) → is_written (e ∷ es) n ≡ is_written es n
written_later e es n apart =
    ap is_some (cond-false (is_at (nat_cmp n) e.0) (Some e.1) (lookup (is_at (nat_cmp n)) es) (is_at_apart e.0 n apart))

written_least : (es : List (ℕ × List ℕ)) (lo n : ℕ) → KeysRise lo es → is_written es n ≡ true → lo ≤ n
written_least [] lo n r w = absurd (false≢true w)
written_least (e ∷ es) lo n r w =
    let low = r.0 in
    ⊎_elim (λ same. omega arith)
    (λ apart. let more = written_least es (suc e.0) n r.1 (sym (written_later e es n apart) ∙ w) in omega arith)
    (cases_eq e.0 n)

not_written : (es : List (ℕ × List ℕ)) (lo n : ℕ) → KeysRise lo es → n < lo → is_written es n ≡ false
not_written es lo n r below =
    ⊎_elim (λ t. let low = written_least es lo n r t in absurd (omega arith)) (λ f. f) (cases_Bool (is_written es n))

-- as many of these numbers are written as there are written blocks, where they have all of them
count_keys : (ns : List ℕ) (es : List (ℕ × List ℕ)) (lo : ℕ) → Rising lo ns → KeysRise lo es →
    ((n : ℕ) → is_written es n ≡ true → Has ns n) → count_by (is_written es) ns ≡ length es
count_keys [] [] lo r k all = refl
count_keys [] (e ∷ es) lo r k all = absurd (all e.0 (written_first e es e.0 refl))
count_keys (n ∷ ns) [] lo r k all =
    count_not (is_written []) n ns refl ∙ count_keys ns [] (suc n) r.1 tt (λ m w. absurd (false≢true w))
count_keys (n ∷ ns) (e ∷ es) lo r k all =
    ⊎_elim
    (λ same.
    let rest : KeysRise (suc n) es = subst (λ (m : ℕ). KeysRise (suc m) es) same k.1 in
    let skip : (m : ℕ) → Has ns m → is_written (e ∷ es) m ≡ is_written es m = λ m h.
    let low = has_least (suc n) m ns r.1 h in written_later e es m (λ is. absurd (omega arith)) in
    count_here (is_written (e ∷ es)) n ns (written_first e es n same)
    ∙ ap (λ m. 1 + m) (count_same (is_written (e ∷ es)) (is_written es) ns skip
    ∙ count_keys ns es (suc n) r.1 rest (λ m w.
    let low = written_least es (suc n) m rest w in
    ⊎_elim (λ is. absurd (omega arith)) (λ h. h)
    (all m (written_later e es m (λ is. absurd (omega arith)) ∙ w))))
    ∙ omega arith)
    (λ later.
    let low = has_least (suc n) e.0 ns r.1 later in
    let here : KeysRise (suc n) (e ∷ es) = (low, k.1) in
    count_not (is_written (e ∷ es)) n ns (not_written (e ∷ es) (suc n) n here (omega arith))
    ∙ count_keys ns (e ∷ es) (suc n) r.1 here (λ m w.
    let least = written_least (e ∷ es) (suc n) m here w in
    ⊎_elim (λ is. absurd (omega arith)) (λ h. h) (all m w)))
    (all e.0 (written_first e es e.0 refl))

changed_rising : (es : List (ℕ × List ℕ)) (least working : ℕ) → KeysRise 0 es → Rising 0 (changed_numbers es least working)
changed_rising es least working rise =
    Rising-append 0 least (old_numbers least es) (range_with_len least (working - least)) (omega arith) (old_rising least 0 es rise)
    (λ n h. (old_has least n es h).low) (new_rising (working - least) least)

pub count_written : (es : List (ℕ × List ℕ)) (least working : ℕ) → KeysRise 0 es → ((n : ℕ) → working ≤ n → is_written es n ≡ false) →
    count_by (is_written es) (changed_numbers es least working) ≡ length es
count_written es least working rise behind =
    count_keys (changed_numbers es least working) es 0 (changed_rising es least working rise) rise
    (λ n w. append_has (old_numbers least es) (range_with_len least (working - least)) n
    (⊎_elim (λ low. inl (has_old least n es (record { low = low; known = w })))
    (λ high. ⊎_elim (λ inside. inr (has_new (working - least) least n high (omega arith)))
    (λ past. absurd (false≢true (sym (behind n past) ∙ w))) (cases_lt n working))
    (cases_lt n least)))

-- where as many are written as there are, all are
count_full : (p : ℕ → Bool) (ns : List ℕ) (n : ℕ) → length ns ≤ count_by p ns → Has ns n → p n ≡ true
count_full p [] n full h = absurd h
count_full p (m ∷ ns) n full h =
    let most = count_by-le-length p ns in
    ⊎_elim
    (λ t. let c = count_here p m ns t in ⊎_elim (λ e. ap p e ∙ t) (λ l. count_full p ns n (omega arith) l) h)
    (λ f. let c = count_not p m ns f in absurd (omega arith))
    (cases_Bool (p m))

-- the leaves before block `least`

abbrev pub written_leaves : Salted → List (ℕ × List ℕ) → List ℕ → List Child
written_leaves salted es zeros = map (hashed_leaf salted es zeros) (numbers_in es)

front_of : (f : ℕ → Child) (least : ℕ) (es : List (ℕ × List ℕ)) (p : ℕ) → ((n : ℕ) → (f n).number ≡ n) →
    IsFirstFrom least (map f (numbers_in es)) p → take p (map f (numbers_in es)) ≡ map f (old_numbers least es)
front_of f least [] zero numbered parted = refl
front_of f least [] (suc p) numbered parted = refl
front_of f least (e ∷ es) zero numbered parted =
    let rest : List (ℕ × List ℕ) = filter (λ x. ltb x.0 least) es in
    let here : ltb e.0 least ≡ false = ap (λ m. ltb m least) (sym (numbered e.0)) ∙ parted.1 0 nobody (omega arith) (omega arith) in
    front_of f least es zero numbered ((λ k d lo lt. absurd (omega arith)), (λ k d lo lt. parted.1 (suc k) d (omega arith) (omega arith)))
    ∙ ap (λ xs. map f (map (λ x. x.0) xs)) (sym (cond-false (ltb e.0 least) (e ∷ rest) rest here))
front_of f least (e ∷ es) (suc p) numbered parted =
    let rest : List (ℕ × List ℕ) = filter (λ x. ltb x.0 least) es in
    let here : ltb e.0 least ≡ true = ap (λ m. ltb m least) (sym (numbered e.0)) ∙ parted.0 0 nobody (omega arith) (omega arith) in
    ap (λ cs. f e.0 ∷ cs) (front_of f least es p numbered
    ((λ k d lo lt. parted.0 (suc k) d (omega arith) (omega arith)), (λ k d lo lt. parted.1 (suc k) d (omega arith) (omega arith))))
    ∙ ap (λ xs. map f (map (λ x. x.0) xs)) (sym (cond-true (ltb e.0 least) (e ∷ rest) rest here))

-- the digests of the others

digest_known : (salted : Salted) (es : List (ℕ × List ℕ)) (zeros common : List ℕ) (n : ℕ) (fs : List (ℕ × List ℕ)) →
    (is_written fs n ≡ true) ⊎ (common ≡ salted_digest salted (written_or es zeros n)) →
    digest_among (map (hashed_leaf salted es zeros) (numbers_in fs)) common n ≡ salted_digest salted (written_or es zeros n)
digest_known salted es zeros common n [] known = ⊎_elim (λ w. absurd (false≢true w)) (λ is. is) known
digest_known salted es zeros common n (e ∷ fs) known =
    let rest : List Child = map (hashed_leaf salted es zeros) (numbers_in fs) in
    let here : List ℕ = salted_digest salted (written_or es zeros e.0) in
    ⊎_elim
    (λ same. cond-true (eqb e.0 n) here (digest_among rest common n) (eq-eqb e.0 n same)
    ∙ ap (λ m. salted_digest salted (written_or es zeros m)) same)
    (λ apart. cond-false (eqb e.0 n) here (digest_among rest common n) (ne_eqb e.0 n apart)
    ∙ digest_known salted es zeros common n fs (⊎_elim (λ w. inl (sym (written_later e fs n apart) ∙ w)) (λ is. inr is) known))
    (cases_eq e.0 n)

map_range : (f g : ℕ → Child) (n a : ℕ) → ((m : ℕ) → a ≤ m → m < a + n → f m ≡ g m) →
    map f (range_with_len a n) ≡ map g (range_with_len a n)
map_range f g zero a same = refl
map_range f g (suc n) a same =
    (λ i. same a (omega arith) (omega arith) i ∷ map_range f g n (a + 1) (λ m low high. same m (omega arith) (omega arith)) i)

-- the leaves of all changed blocks, where the common digest is that of zeros if not all of them are written
pub leaves_spread : (salted : Salted) (es : List (ℕ × List ℕ)) (zeros common : List ℕ) (least working before : ℕ) → KeysRise 0 es →
    ((n : ℕ) → working ≤ n → is_written es n ≡ false) → IsFirstFrom least (written_leaves salted es zeros) before →
    (length es < length (changed_numbers es least working) → common ≡ salted_digest salted zeros) →
    take before (written_leaves salted es zeros) ++ spread (written_leaves salted es zeros) common least working
    ≡ map (hashed_leaf salted es zeros) (changed_numbers es least working)
leaves_spread salted es zeros common least working before rise behind parted known =
    let f : ℕ → Child = hashed_leaf salted es zeros in
    let named : List Child = written_leaves salted es zeros in
    let all : List ℕ = changed_numbers es least working in
    let old : List ℕ = old_numbers least es in
    let new : List ℕ = range_with_len least (working - least) in
    let count = count_written es least working rise behind in
    let each : (n : ℕ) → least ≤ n → n < least + (working - least) →
    digest_among named common n ≡ salted_digest salted (written_or es zeros n) =
    λ n low high. digest_known salted es zeros common n es
    (⊎_elim (λ w. inl w)
    (λ f. inr (⊎_elim (λ some. known some ∙ ap (salted_digest salted) (sym (unwritten es zeros n f)))
    (λ full. absurd (false≢true (sym f ∙ count_full (is_written es) all n (omega arith)
    (append_has old new n (inr (has_new (working - least) least n low high))))))
    (cases_lt (length es) (length all))))
    (cases_Bool (is_written es n))) in
    (λ i. front_of f least es before (λ n. refl) parted i
    ++ map_range (λ n. let x : Child = record { number = n; digest = digest_among named common n } in x) f (working - least) least
    (λ n low high. λ j. record { number = n; digest = each n low high j }) i)
    ∙ sym (map-append f old new)

-- their numbers rise
Rising-keys : (es : List (ℕ × List ℕ)) (lo : ℕ) → KeysRise lo es → Rising lo (numbers_in es)
Rising-keys [] lo r = tt
Rising-keys (e ∷ es) lo r = (r.0, Rising-keys es (suc e.0) r.1)

pub written_rise : (salted : Salted) (es : List (ℕ × List ℕ)) (zeros : List ℕ) → KeysRise 0 es →
    IsNonDecreasingBy (λ child. child.number) (written_leaves salted es zeros)
written_rise salted es zeros rise =
    rising_children (written_leaves salted es zeros)
    (subst (Rising 0) (sym (numbers_of-hashed salted es zeros (numbers_in es))) (Rising-keys es 0 rise))

-- how many stand before block `least`, and how many blocks are hashed
pub before_is : (salted : Salted) (es : List (ℕ × List ℕ)) (zeros : List ℕ) (least before : ℕ) → before ≤ length es →
    IsFirstFrom least (written_leaves salted es zeros) before → length (old_numbers least es) ≡ before
before_is salted es zeros least before fits parted =
    let f : ℕ → Child = hashed_leaf salted es zeros in
    let long = length-map (numbers_in es) f in
    let keys = length-map es (λ e. e.0) in
    sym (length-map (old_numbers least es) f) ∙ sym (ap length (front_of f least es before (λ n. refl) parted))
    ∙ length-take-le before (written_leaves salted es zeros) (omega arith)

pub length_changed : (es : List (ℕ × List ℕ)) (least working before : ℕ) → length (old_numbers least es) ≡ before →
    length (changed_numbers es least working) ≡ before + (working - least)
length_changed es least working before is =
    let a = length-append (old_numbers least es) (range_with_len least (working - least)) in
    let b = length-range_with_len least (working - least) in
    omega arith

pub leaf_hashes_most : (written : List (ℕ × List ℕ)) (ns : List ℕ) → leaf_hashes written ns ≤ length ns
leaf_hashes_most written ns = let most = count_by-le-length (is_written written) ns in omega arith
