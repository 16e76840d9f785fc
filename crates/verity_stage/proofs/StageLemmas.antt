-- Blocks that are staged over a store: what writes and changes of length make of them.
use Rattle.std.proofs.Common.{◌≡◌, ℕ, suc, ◌+◌, ◌-◌, ◌*◌, ◌<◌, ◌≤◌, min, Bool, true, false, eqb, ltb, cond, List, [], ◌∷◌, ◌++◌}
use Rattle.std.proofs.Common.{length, take, replicate, get_or, set, Option, Some, None, ⊎_elim, refl, sym, ap, ◌∙◌, subst, arith}
use Rattle.std.specs.List.{filter}
use Rattle.std.specs.Prelude.{IfSome, unwrap_or}
use Rattle.std.specs.Ordering.{nat_cmp, is_eq}
use Rattle.std.specs.declared.cmp.Ordering.TheVariants.{Less, Equal, Greater}
use Rattle.std.specs.Map.{lookup}
use Rattle.std.specs.BTreeMap.{is_at}
use Rattle.std.proofs.lemmas.Bool.{cases_lt, cases_eq, eq-eqb, ne_eqb, lt-ltb, le-ltb, cond-true, cond-false, both_ways, cond_both}
use Rattle.std.proofs.lemmas.List.{get_or-take, length-take, length-set, get_or-set_other, get_or-set_same, get_or_append_left}
use Rattle.std.proofs.lemmas.List.{get_or-append_right, get_or-replicate, length-append, length-replicate, ext_get_or}
use Rattle.std.proofs.lemmas.List.FromFn.{length-map-range_with_len, get_or-map-range_with_len}
use Rattle.std.proofs.lemmas.List.Elements.{All-from_get_or, All-get_or}
use Rattle.std.proofs.lemmas.Map.Entries.{lookup-filter-keys}
use Rattle.verity_store.specs.Blocks.{resized}
use Rattle.verity_profile.specs.Profile.{zero_block, AllSized}
use Rattle.verity_stage.specs.Stage.{Stage, IsStage, written_at, block_at, staged}

pub is_at_apart : (q n : ℕ) → (q ≡ n → ⊥) → is_at (nat_cmp n) q ≡ false
is_at_apart q n ne =
    ⊎_elim
    (λ less. ap is_eq (cond-true (ltb n q) Less (cond (eqb n q) Equal Greater) (lt-ltb n q less)))
    (λ more. ap is_eq (cond-false (ltb n q) Less (cond (eqb n q) Equal Greater) (le-ltb n q more)
    ∙ cond-false (eqb n q) Equal Greater (ne_eqb n q (λ e. ne (sym e)))))
    (cases_lt n q)

-- what is looked up where the entries from a key on were dropped
pub lookup_below : (count q : ℕ) (es : List (ℕ × List ℕ)) →
    lookup (is_at (nat_cmp q)) (filter (λ e. ltb e.0 count) es) ≡ cond (ltb q count) (lookup (is_at (nat_cmp q)) es) None
lookup_below count q es =
    lookup-filter-keys (is_at (nat_cmp q)) (λ k. ltb k count) (ltb q count)
    (λ k t. ⊎_elim (λ e. ap (λ m. ltb m count) e) (λ ne. absurd (both_ways (is_at (nat_cmp q) k) (is_at_apart k q ne) t)) (cases_eq k q)) es

pub at_blocks : (content : List (List ℕ)) (d : Stage) (n : ℕ) → n < d.blocks → get_or (staged content d) n [] ≡ block_at content d n
at_blocks content d n below = get_or-map-range_with_len (block_at content d) 0 d.blocks n n [] below (omega arith)

pub length-staged : (content : List (List ℕ)) (d : Stage) → length (staged content d) ≡ d.blocks
length-staged content d = length-map-range_with_len (block_at content d) 0 d.blocks

-- a block that was written, one of the store below, and one that was added
pub at_written : (content : List (List ℕ)) (d : Stage) (n : ℕ) (block : List ℕ) → n < d.blocks → written_at d n ≡ Some block →
    get_or (staged content d) n [] ≡ block
at_written content d n block below is = at_blocks content d n below
    ∙ ap (λ o. unwrap_or o (cond (ltb n d.least) (get_or content n []) (zero_block d.size))) is

pub at_below : (content : List (List ℕ)) (d : Stage) (n : ℕ) → n < d.blocks → written_at d n ≡ None → n < d.least →
    get_or (staged content d) n [] ≡ get_or content n []
at_below content d n below is low =
    at_blocks content d n below ∙ ap (λ o. unwrap_or o (cond (ltb n d.least) (get_or content n []) (zero_block d.size))) is
    ∙ cond-true (ltb n d.least) (get_or content n []) (zero_block d.size) (lt-ltb n d.least low)

pub at_added : (content : List (List ℕ)) (d : Stage) (n : ℕ) → n < d.blocks → written_at d n ≡ None → d.least ≤ n →
    get_or (staged content d) n [] ≡ zero_block d.size
at_added content d n below is high =
    at_blocks content d n below ∙ ap (λ o. unwrap_or o (cond (ltb n d.least) (get_or content n []) (zero_block d.size))) is
    ∙ cond-false (ltb n d.least) (get_or content n []) (zero_block d.size) (le-ltb n d.least high)

-- each block has the size
pub AllSized-staged : (content : List (List ℕ)) (d : Stage) → IsStage d → d.least ≤ length content → AllSized d.size content →
    AllSized d.size (staged content d)
AllSized-staged content d ok kept sized =
    All-from_get_or (λ block. length block ≡ d.size) (staged content d) []
    (λ i below. let inside : i < d.blocks = rw length-staged at below in
    let P : List ℕ → Type 0 = λ block. length block ≡ d.size in
    let base : length (cond (ltb i d.least) (get_or content i []) (zero_block d.size)) ≡ d.size =
    ⊎_elim
    (λ low. ap length (cond-true (ltb i d.least) (get_or content i []) (zero_block d.size) (lt-ltb i d.least low))
    ∙ All-get_or (λ block. length block ≡ d.size) content i [] (omega arith) sized)
    (λ high. ap length (cond-false (ltb i d.least) (get_or content i []) (zero_block d.size) (le-ltb i d.least high))
    ∙ length-replicate d.size 0)
    (cases_lt i d.least) in
    ap length (at_blocks content d i inside) ∙ or_sized (written_at d i) _ d.size (ok.sized i) base) where
      or_sized : (o : Option (List ℕ)) (block : List ℕ) (size : ℕ) → IfSome o (λ b. length b ≡ size) → length block ≡ size →
          length (unwrap_or o block) ≡ size
      or_sized None block size h base = base
      or_sized (Some b) block size h base = h

-- the same block where the same was written
same_at : (content : List (List ℕ)) (d e : Stage) (n : ℕ) → d.size ≡ e.size → written_at d n ≡ written_at e n →
    ltb n d.least ≡ ltb n e.least → block_at content d n ≡ block_at content e n
same_at content d e n s w l = λ i. unwrap_or (w i) (cond (l i) (get_or content n []) (zero_block (s i)))

pub staged_write : (content : List (List ℕ)) (d : Stage) (es : List (ℕ × List ℕ)) (n : ℕ) (block : List ℕ) → n < d.blocks
    → lookup (is_at (nat_cmp n)) es ≡ Some block
    → ((q : ℕ) → is_at (nat_cmp n) q ≡ false → lookup (is_at (nat_cmp q)) es ≡ written_at d q)
    → staged content (record d { written = es }) ≡ set (staged content d) n block
staged_write content d es n block within here others =
    let new : Stage = record d { written = es } in
    let apart : (q : ℕ) → (q ≡ n → ⊥) → written_at new q ≡ written_at d q = λ q ne. others q (is_at_apart q n ne) in
    ext_get_or [] (staged content new) (set (staged content d) n block) (length-staged content new
    ∙ sym (length-set (staged content d) n block ∙ length-staged content d))
    (λ i below.
    let inside : i < d.blocks = rw length-staged at below in
    ⊎_elim
    (λ same. let there : i < length (staged content d) = rw length-staged inside in
    let w : written_at new i ≡ Some block = subst (λ (m : ℕ). lookup (is_at (nat_cmp m)) es ≡ Some block) (sym same) here in
    at_written content new i block inside w
    ∙ sym (subst (λ (m : ℕ). get_or (set (staged content d) m block) i [] ≡ block) same
    (get_or-set_same (staged content d) i block [] there)))
    (λ ne. at_blocks content new i inside ∙ same_at content new d i refl (apart i ne) refl ∙ sym (at_blocks content d i inside)
    ∙ sym (get_or-set_other (staged content d) n i block [] ne))
    (cases_eq i n))

pub IsStage-write : (d : Stage) (es : List (ℕ × List ℕ)) (n : ℕ) (block : List ℕ) → IsStage d → n < d.blocks → length block ≡ d.size
    → lookup (is_at (nat_cmp n)) es ≡ Some block
    → ((q : ℕ) → is_at (nat_cmp n) q ≡ false → lookup (is_at (nat_cmp q)) es ≡ written_at d q)
    → IsStage (record d { written = es })
IsStage-write d es n block ok within len here others =
    let new : Stage = record d { written = es } in
    let P : Option (List ℕ) → Type 0 = λ o. IfSome o (λ b. length b ≡ d.size) in
    record {
      least = ok.least;
      behind = λ q high. others q (is_at_apart q n (λ same. absurd (omega arith))) ∙ ok.behind q high;
      sized = λ q. ⊎_elim
          (λ same. subst P (sym (subst (λ (m : ℕ). lookup (is_at (nat_cmp m)) es ≡ Some block) (sym same) here)) len)
          (λ ne. subst P (sym (others q (is_at_apart q n ne))) (ok.sized q))
          (cases_eq q n);
    }

pub found_cut : (d : Stage) (count : ℕ) (es : List (ℕ × List ℕ)) → es ≡ filter (λ e. ltb e.0 count) d.written → (q : ℕ) →
    lookup (is_at (nat_cmp q)) es ≡ cond (ltb q count) (written_at d q) None
found_cut d count es kept q = ap (lookup (is_at (nat_cmp q))) kept ∙ lookup_below count q d.written

pub found_grown : (d : Stage) (count : ℕ) → IsStage d → d.blocks ≤ count → (q : ℕ) →
    written_at d q ≡ cond (ltb q count) (written_at d q) None
found_grown d count ok more q =
    ⊎_elim
    (λ low. sym (cond-true (ltb q count) (written_at d q) None (lt-ltb q count low)))
    (λ high. ok.behind q (omega arith) ∙ sym (cond-false (ltb q count) (written_at d q) None (le-ltb q count high)))
    (cases_lt q count)

length-resized : (size count : ℕ) (blocks : List (List ℕ)) → length (resized size count blocks) ≡ count
length-resized size count blocks = omega (
  arith,
  length-append (take count blocks) (replicate (count - length blocks) (zero_block size)),
  length-take count blocks,
  length-replicate {A = List ℕ} (count - length blocks) (zero_block size),
)

pub staged_resize : (content : List (List ℕ)) (d : Stage) (count : ℕ) (es : List (ℕ × List ℕ)) → IsStage d
    → ((q : ℕ) → lookup (is_at (nat_cmp q)) es ≡ cond (ltb q count) (written_at d q) None)
    → staged content (record d { least = min d.least count; blocks = count; written = es }) ≡ resized d.size count (staged content d)
staged_resize content d count es ok found =
    let new : Stage = record d { least = min d.least count; blocks = count; written = es } in
    let old : List (List ℕ) = staged content d in
    let old_len : length old ≡ d.blocks = length-staged content d in
    let front : List (List ℕ) = take count old in
    let zeros : List (List ℕ) = replicate (count - length old) (zero_block d.size) in
    let front_len : length front ≡ min count d.blocks = length-take count old ∙ ap (λ n. min count n) old_len in
    let before : (q : ℕ) → q < count → written_at new q ≡ written_at d q =
    λ q low. found q ∙ cond-true (ltb q count) (written_at d q) None (lt-ltb q count low) in
    let le = ok.least in
    ext_get_or [] (staged content new) (resized d.size count old) (length-staged content new ∙ sym (length-resized d.size count old))
    (λ i below.
    let inside : i < count = rw length-staged at below in
    ⊎_elim
    (λ low.
    let bounds : ltb i (min d.least count) ≡ ltb i d.least =
    ⊎_elim (λ a. lt-ltb i (min d.least count) (omega arith) ∙ sym (lt-ltb i d.least a))
    (λ a. le-ltb i (min d.least count) (omega arith) ∙ sym (le-ltb i d.least a)) (cases_lt i d.least) in
    let there : i < length front = omega arith in
    at_blocks content new i inside ∙ same_at content new d i refl (before i inside) bounds ∙ sym (at_blocks content d i low)
    ∙ sym (get_or_append_left front zeros [] i there ∙ get_or-take count old i [] inside))
    (λ high.
    let in_zeros : i - min count d.blocks < count - length old = omega arith in
    let at : min count d.blocks ≤ i = omega arith in
    at_added content new i inside (before i inside ∙ ok.behind i high) (omega arith)
    ∙ sym (get_or-append_right front zeros (min count d.blocks) i [] front_len at
    ∙ get_or-replicate (count - length old) (i - min count d.blocks) (zero_block d.size) [] in_zeros))
    (cases_lt i d.blocks))

pub IsStage-resize : (d : Stage) (count : ℕ) (es : List (ℕ × List ℕ)) → IsStage d
    → ((q : ℕ) → lookup (is_at (nat_cmp q)) es ≡ cond (ltb q count) (written_at d q) None)
    → IsStage (record d { least = min d.least count; blocks = count; written = es })
IsStage-resize d count es ok found =
    record {
      least = omega arith;
      behind = λ n high. found n ∙ cond-false (ltb n count) (written_at d n) None (le-ltb n count high);
      sized = λ n.
          let P : Option (List ℕ) → Type 0 = λ o. IfSome o (λ block. length block ≡ d.size) in
          subst P (sym (found n)) (cond_both (ltb n count) (written_at d n) None P (λ _. ok.sized n) (λ _. tt));
    }

-- more blocks than there are
pub staged_grow : (content : List (List ℕ)) (d : Stage) (count : ℕ) → IsStage d → d.blocks ≤ count →
    staged content (record d { blocks = count }) ≡ resized d.size count (staged content d)
staged_grow content d count ok more =
    let same : d.least ≡ min d.least count = omega (arith, ok.least) in
    ap (λ (m : ℕ). staged content (record d { least = m; blocks = count })) same
    ∙ staged_resize content d count d.written ok (found_grown d count ok more)

pub IsStage-grow : (d : Stage) (count : ℕ) → IsStage d → d.blocks ≤ count → IsStage (record d { blocks = count })
IsStage-grow d count ok more = record { least = omega (arith, ok.least); behind = λ n high. ok.behind n (omega arith); sized = ok.sized }

-- nothing is staged
pub staged_nothing : (content : List (List ℕ)) (size n : ℕ) → length content ≡ n →
    staged content (record { size = size; least = n; blocks = n; written = [] }) ≡ content
staged_nothing content size n len =
    let d : Stage = record { size = size; least = n; blocks = n; written = [] } in
    ext_get_or [] (staged content d) content (length-staged content d ∙ sym len)
    (λ i below. let inside : i < n = rw length-staged at below in at_below content d i inside refl inside)
