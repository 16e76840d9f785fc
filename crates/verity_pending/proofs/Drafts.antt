-- Edits of a draft.
use Rattle.std.proofs.Common.{◌≡◌, ℕ, ◌-◌, ◌<◌, ◌≤◌, min, Bool, true, false, ◌||◌, ◌&&◌, eqb, ltb, leb, cond, List, [], ◌++◌}
use Rattle.std.proofs.Common.{length, take, replicate, get_or, set, Option, Some, None, ⊎_elim, refl, sym, ap, ◌∙◌, subst, arith}
use Rattle.std.specs.List.{filter}
use Rattle.std.specs.Prelude.{IfSome, is_some, unwrap_or}
use Rattle.std.proofs.Math.Bool.{or-false, and-true}
use Rattle.std.specs.Ordering.{nat_cmp, is_eq}
use Rattle.std.specs.declared.cmp.Ordering.TheVariants.{Less, Equal, Greater}
use Rattle.std.specs.Map.{lookup}
use Rattle.std.specs.BTreeMap.{is_at}
use Rattle.std.proofs.lemmas.Bool.{cases_lt, cases_eq, or_parts, and_cases, and_left, and_right, or_left, eq-eqb, ne_eqb, leb-false}
use Rattle.std.proofs.lemmas.Bool.{le-leb, lt-leb, lt-ltb, le-ltb, ltb-false, cond-true, cond-false, both_ways, cond_both}
use Rattle.std.proofs.lemmas.Bool.{true≢false}
use Rattle.std.proofs.lemmas.List.{get_or-take, length-take, length-set, get_or-set_other, get_or-set_same, get_or_append_left}
use Rattle.std.proofs.lemmas.List.{get_or-append_right, get_or-replicate, length-append, length-replicate, ext_get_or}
use Rattle.std.proofs.lemmas.List.FromFn.{length-map-range_with_len, get_or-map-range_with_len}
use Rattle.std.proofs.lemmas.Map.Entries.{lookup-filter-keys}
use Rattle.verity_store.specs.Blocks.{resized}
use Rattle.verity_profile.specs.Profile.{zero_block}
use Rattle.verity_pending.specs.Edits.{Edits, unedited, with_write, with_growth, with_shrink}
use Rattle.verity_pending.specs.Kept.{KeepsUnchanged}
use Rattle.verity_pending.specs.Draft.{Draft, IsDraft, written_at, block_at, is_changed, edits_of}

pub is_at_apart : (q n : ℕ) → (q ≡ n → ⊥) → is_at (nat_cmp n) q ≡ false
is_at_apart q n ne =
    ⊎_elim
    (λ less. ap is_eq (cond-true (ltb n q) Less (cond (eqb n q) Equal Greater) (lt-ltb n q less)))
    (λ more. ap is_eq (cond-false (ltb n q) Less (cond (eqb n q) Equal Greater) (le-ltb n q more)
    ∙ cond-false (eqb n q) Equal Greater (ne_eqb n q (λ e. ne (sym e)))))
    (cases_lt n q)

-- what is looked up where the entries from a key on were dropped
lookup_below : (count q : ℕ) (es : List (ℕ × List ℕ)) →
    lookup (is_at (nat_cmp q)) (filter (λ e. ltb e.0 count) es) ≡ cond (ltb q count) (lookup (is_at (nat_cmp q)) es) None
lookup_below count q es =
    lookup-filter-keys (is_at (nat_cmp q)) (λ k. ltb k count) (ltb q count)
    (λ k t. ⊎_elim (λ e. ap (λ m. ltb m count) e) (λ ne. absurd (both_ways (is_at (nat_cmp q) k) (is_at_apart k q ne) t)) (cases_eq k q)) es

same_edits : (image w v : List (List ℕ)) (c d : ℕ → Bool) → w ≡ v → ((n : ℕ) → c n ≡ d n) → let e : Edits =
    record { committed = image; working = w; changed = c } in e ≡ record { committed = image; working = v; changed = d }
same_edits image w v c d p q = λ i. record { committed = image; working = p i; changed = λ n. q n i }

pub at_working : (image : List (List ℕ)) (d : Draft) (n : ℕ) → n < d.working → get_or (edits_of image d).working n [] ≡ block_at image d n
at_working image d n below = get_or-map-range_with_len (block_at image d) 0 d.working n n [] below (omega arith)

pub length-working : (image : List (List ℕ)) (d : Draft) → length (edits_of image d).working ≡ d.working
length-working image d = length-map-range_with_len (block_at image d) 0 d.working

-- the same block where the same was written
same_at : (image : List (List ℕ)) (d e : Draft) (n : ℕ) → d.size ≡ e.size → written_at d n ≡ written_at e n →
    ltb n d.least ≡ ltb n e.least → block_at image d n ≡ block_at image e n
same_at image d e n s w l = λ i. unwrap_or (w i) (cond (l i) (get_or image n []) (zero_block (s i)))

pub edits_write : (image : List (List ℕ)) (d : Draft) (es : List (ℕ × List ℕ)) (n : ℕ) (block : List ℕ) → n < d.working
    → lookup (is_at (nat_cmp n)) es ≡ Some block
    → ((q : ℕ) → is_at (nat_cmp n) q ≡ false → lookup (is_at (nat_cmp q)) es ≡ written_at d q)
    → edits_of image (record d { written = es }) ≡ with_write n block (edits_of image d)
edits_write image d es n block within here others =
    let new : Draft = record d { written = es } in
    let apart : (q : ℕ) → (q ≡ n → ⊥) → written_at new q ≡ written_at d q = λ q ne. others q (is_at_apart q n ne) in
    same_edits image (edits_of image new).working (set (edits_of image d).working n block) (is_changed new) (λ m. eqb m n || is_changed d m)
    (ext_get_or [] (edits_of image new).working (set (edits_of image d).working n block) (length-working image new
    ∙ sym (length-set (edits_of image d).working n block ∙ length-working image d))
    (λ i below.
    let inside : i < d.working = rw length-working at below in
    at_working image new i inside
    ∙ ⊎_elim
    (λ same. let there : i < length (edits_of image d).working = rw length-working inside in
    let w : written_at new i ≡ Some block = subst (λ (m : ℕ). lookup (is_at (nat_cmp m)) es ≡ Some block) (sym same) here in
    ap (λ o. unwrap_or o (cond (ltb i d.least) (get_or image i []) (zero_block d.size))) w
    ∙ sym (subst (λ (m : ℕ). get_or (set (edits_of image d).working m block) i [] ≡ block) same
    (get_or-set_same (edits_of image d).working i block [] there)))
    (λ ne. same_at image new d i refl (apart i ne) refl ∙ sym (at_working image d i inside)
    ∙ sym (get_or-set_other (edits_of image d).working n i block [] ne))
    (cases_eq i n)))
    (λ m. ⊎_elim
    (λ same. let w : written_at new m ≡ Some block = subst (λ (q : ℕ). lookup (is_at (nat_cmp q)) es ≡ Some block) (sym same) here in
    ap (λ o. is_some o || (leb d.least m && ltb m d.working)) w ∙ sym (or_left (eqb m n) (is_changed d m) (eq-eqb m n same)))
    (λ ne. ap (λ o. is_some o || (leb d.least m && ltb m d.working)) (apart m ne) ∙ ap (λ b. b || is_changed d m) (sym (ne_eqb m n ne)))
    (cases_eq m n))

pub edits_grow : (image : List (List ℕ)) (d : Draft) (count : ℕ) → IsDraft d → d.working ≤ count
    → edits_of image (record d { working = count }) ≡ with_growth d.size count (edits_of image d)
edits_grow image d count ok more =
    let new : Draft = record d { working = count } in
    let old_list : List (List ℕ) = (edits_of image d).working in
    let zeros : List (List ℕ) = replicate (count - length old_list) (zero_block d.size) in
    let old_len : length old_list ≡ d.working = length-working image d in
    let len : length (old_list ++ zeros) ≡ count = rw (length-append, length-replicate, old_len) (omega arith) in
    same_edits image (edits_of image new).working (old_list ++ zeros) (is_changed new)
    (λ m. is_changed d m || (leb (length old_list) m && ltb m count))
    (ext_get_or [] (edits_of image new).working (old_list ++ zeros) (length-working image new ∙ sym len)
    (λ i below.
    let inside : i < count = rw length-working at below in
    at_working image new i inside
    ∙ ⊎_elim
    (λ low. let there : i < length old_list = omega arith in sym (get_or_append_left old_list zeros [] i there ∙ at_working image d i low))
    (λ high.
    let none : ltb i d.least ≡ false = le-ltb i d.least (omega (arith, ok.least)) in
    let in_zeros : i - d.working < count - length old_list = omega arith in
    (λ j. unwrap_or (ok.behind i high j) (cond (none j) (get_or image i []) (zero_block d.size)))
    ∙ sym (get_or-append_right old_list zeros d.working i [] old_len high
    ∙ get_or-replicate (count - length old_list) (i - d.working) (zero_block d.size) [] in_zeros))
    (cases_lt i d.working)))
    (λ m. ⊎_elim
    (λ low.
    let a : ltb m count ≡ ltb m d.working = lt-ltb m count (omega arith) ∙ sym (lt-ltb m d.working low) in
    let z : (leb (length old_list) m && ltb m count) ≡ false =
    and_left (leb (length old_list) m) (ltb m count) (lt-leb (length old_list) m (omega arith)) in
    ap (λ b. is_some (written_at d m) || (leb d.least m && b)) a ∙ sym (ap (λ b. is_changed d m || b) z ∙ or-false (is_changed d m)))
    (λ high.
    let t : leb d.least m ≡ true = le-leb d.least m (omega (arith, ok.least)) in
    let f : ltb m d.working ≡ false = le-ltb m d.working high in
    let u : leb (length old_list) m ≡ true = le-leb (length old_list) m (omega arith) in
    let w : is_some (written_at d m) ≡ false = ap is_some (ok.behind m high) in
    let left : is_changed new m ≡ ltb m count = (λ j. w j || (t j && ltb m count)) in
    let right : (is_changed d m || (leb (length old_list) m && ltb m count)) ≡ ltb m count =
    (λ j. w j || (t j && f j) || (u j && ltb m count)) in
    left ∙ sym right)
    (cases_lt m d.working))

pub edits_shrink : (image : List (List ℕ)) (d : Draft) (count : ℕ) (es : List (ℕ × List ℕ)) → IsDraft d → count ≤ d.working →
    es ≡ filter (λ e. ltb e.0 count) d.written
    → edits_of image (record d { least = min d.least count; working = count; written = es }) ≡ with_shrink count (edits_of image d)
edits_shrink image d count es ok less kept =
    let new : Draft = record d { least = min d.least count; working = count; written = es } in
    let old_list : List (List ℕ) = (edits_of image d).working in
    let old_len : length old_list ≡ d.working = length-working image d in
    let len : length (take count old_list) ≡ count = rw (length-take, old_len) (omega arith) in
    let found : (q : ℕ) → written_at new q ≡ cond (ltb q count) (written_at d q) None = λ q. ap (lookup (is_at (nat_cmp q))) kept
    ∙ lookup_below count q d.written in
    let before : (q : ℕ) → q < count → written_at new q ≡ written_at d q =
    λ q low. found q ∙ cond-true (ltb q count) (written_at d q) None (lt-ltb q count low) in
    let bounds : (q : ℕ) → q < count → ltb q (min d.least count) ≡ ltb q d.least = λ q low.
    ⊎_elim (λ a. lt-ltb q (min d.least count) (omega arith) ∙ sym (lt-ltb q d.least a))
    (λ a. le-ltb q (min d.least count) (omega arith) ∙ sym (le-ltb q d.least a)) (cases_lt q d.least) in
    same_edits image (edits_of image new).working (take count old_list) (is_changed new) (λ m. is_changed d m && ltb m count)
    (ext_get_or [] (edits_of image new).working (take count old_list) (length-working image new ∙ sym len)
    (λ i below.
    let inside : i < count = rw length-working at below in
    at_working image new i inside
    ∙ same_at image new d i refl (before i inside) (bounds i inside)
    ∙ sym (get_or-take count old_list i [] inside ∙ at_working image d i (omega arith))))
    (λ m. ⊎_elim
    (λ low.
    let a : leb (min d.least count) m ≡ leb d.least m =
    ⊎_elim (λ x. lt-leb (min d.least count) m (omega arith) ∙ sym (lt-leb d.least m x))
    (λ x. le-leb (min d.least count) m (omega arith) ∙ sym (le-leb d.least m x)) (cases_lt m d.least) in
    let t : ltb m count ≡ true = lt-ltb m count low in
    let u : ltb m d.working ≡ true = lt-ltb m d.working (omega arith) in
    (λ j. is_some (before m low j) || (a j && t j)) ∙ sym ((λ j. (is_some (written_at d m) || (leb d.least m && u j)) && t j)
    ∙ and-true (is_some (written_at d m) || (leb d.least m && true))))
    (λ high.
    let f : ltb m count ≡ false = le-ltb m count high in
    let none : written_at new m ≡ None = found m ∙ cond-false (ltb m count) (written_at d m) None f in
    (λ j. is_some (none j) || (leb (min d.least count) m && f j)) ∙ and_right (leb (min d.least count) m) false refl
    ∙ sym (and_right (is_changed d m) (ltb m count) f))
    (cases_lt m count))

pub IsDraft-shrink : (d : Draft) (count : ℕ) (es : List (ℕ × List ℕ)) → IsDraft d → 1 ≤ count → count ≤ d.working →
    es ≡ filter (λ e. ltb e.0 count) d.written
    → IsDraft (record d { least = min d.least count; working = count; written = es })
IsDraft-shrink d count es ok some less kept =
    let new : Draft = record d { least = min d.least count; working = count; written = es } in
    let found : (q : ℕ) → written_at new q ≡ cond (ltb q count) (written_at d q) None = λ q. ap (lookup (is_at (nat_cmp q))) kept
    ∙ lookup_below count q d.written in
    record {
      some = some;
      committed_some = ok.committed_some;
      least = omega arith;
      kept = omega (arith, ok.kept);
      few = omega (arith, ok.few);
      committed_few = ok.committed_few;
      behind = λ n high. found n ∙ cond-false (ltb n count) (written_at d n) None (le-ltb n count high);
      sized = λ n.
          let P : Option (List ℕ) → Type 0 = λ o. IfSome o (λ block. length block ≡ d.size) in
          subst P (sym (found n)) (cond_both (ltb n count) (written_at d n) None P (λ _. ok.sized n) (λ _. tt));
    }

pub length-resized : (size count : ℕ) (blocks : List (List ℕ)) → length (resized size count blocks) ≡ count
length-resized size count blocks = omega (
  arith,
  length-append (take count blocks) (replicate (count - length blocks) (zero_block size)),
  length-take count blocks,
  length-replicate {A = List ℕ} (count - length blocks) (zero_block size),
)

-- a draft without edits
pub edits_fresh : (image : List (List ℕ)) (size n : ℕ) → length image ≡ n
    → edits_of image (record { size = size; committed = n; least = n; working = n; written = [] }) ≡ unedited image
edits_fresh image size n len =
    let d : Draft = record { size = size; committed = n; least = n; working = n; written = [] } in
    same_edits image (edits_of image d).working image (is_changed d) (λ _. false)
    (ext_get_or [] (edits_of image d).working image (length-working image d ∙ sym len)
    (λ i below.
    let inside : i < n = rw length-working at below in
    at_working image d i inside ∙ cond-true (ltb i n) (get_or image i []) (zero_block size) (lt-ltb i n inside)))
    (λ m. ⊎_elim (λ low. and_left (leb n m) (ltb m n) (lt-leb n m low)) (λ high. and_right (leb n m) (ltb m n) (le-ltb m n high))
    (cases_lt m n))

none_written : (o : Option (List ℕ)) → is_some o ≡ false → o ≡ None
none_written None e = refl
none_written (Some b) e = absurd (true≢false e)

-- a draft keeps what it doesn't change
pub KeepsUnchanged-draft : (image : List (List ℕ)) (d : Draft) → IsDraft d → length image ≡ d.committed → KeepsUnchanged (edits_of image d)
KeepsUnchanged-draft image d ok len n within plain =
    let inside : n < d.working = rw length-working at within in
    let parts = or_parts (is_some (written_at d n)) (leb d.least n && ltb n d.working) plain in
    let low : n < d.least = ⊎_elim (λ f. leb-false d.least n f) (λ f. let high = ltb-false n d.working f in
    absurd (omega arith)) (and_cases (leb d.least n) (ltb n d.working) parts.1) in
    let kept = ok.kept in (
      omega arith,
      at_working image d n inside
          ∙ ap (λ o. unwrap_or o (cond (ltb n d.least) (get_or image n []) (zero_block d.size))) (none_written (written_at d n) parts.0)
          ∙ cond-true (ltb n d.least) (get_or image n []) (zero_block d.size) (lt-ltb n d.least low),
    )
