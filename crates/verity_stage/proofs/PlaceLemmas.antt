-- Staged blocks as bytes at their places.
use Rattle.std.proofs.Common.{◌≡◌, ◌^◌, ℕ, suc, ◌+◌, ◌-◌, ◌*◌, ◌<◌, ◌≤◌, min, true, ltb, eqb, cond, List, [], ◌∷◌, ◌++◌, length}
use Rattle.std.proofs.Common.{take, drop, replicate, map, get_or, set, Option, Some, None, ⊎_elim, refl, sym, ap, ◌∙◌, subst, arith}
use Rattle.std.specs.Prelude.{IfSome, unwrap_or}
use Rattle.std.specs.List.{concat}
use Rattle.std.specs.List.Sorted.{IsStrictlyIncreasing, IsStrictlySortedBy}
use Rattle.std.specs.Map.{keys_of, lookup}
use Rattle.std.specs.BTreeMap.{is_at}
use Rattle.std.specs.Ordering.{nat_cmp, is_eq}
use Rattle.std.specs.declared.cmp.Ordering.TheVariants.{Less, Equal, Greater}
use Rattle.std.proofs.lemmas.Map.Keys.{IsStrictlyIncreasing-from_sorted}
use Rattle.std.proofs.lemmas.Bool.{cases_lt, cases_eq, cond-true, cond-false, le-ltb, lt-ltb, eq-eqb}
use Rattle.std.proofs.lemmas.List.{length-map, ext_get_or, length-set, get_or-set_same, get_or-set_other, get_or-take}
use Rattle.std.proofs.lemmas.List.{get_or_append_left, get_or-append_right, get_or-replicate, length-append, length-take}
use Rattle.std.proofs.lemmas.List.{length-drop, length-replicate}
use Rattle.std.proofs.lemmas.List.Elements.{All-head, All-tail, All-nil, All-set, All-from_get_or, All-get_or, All-append, All-take}
use Rattle.std.proofs.Math.Nat.{suc-mul, mul-le-mul_right}
use Rattle.std.proofs.Math.Seq.{take-append_seam, drop-append_seam}
use Rattle.verity_store.specs.Blocks.{resized, cut}
use Rattle.verity_store.specs.RawFile.{overwritten, with_length}
use Rattle.verity_store.proofs.BlockLemmas.{cut-resize, cut-write, concat-cut, length-cut, AllSized-replicate}
use Rattle.verity_profile.specs.Profile.{zero_block, AllSized}
use Rattle.verity_journal.specs.Plan.{made, changed, Fit, IsSide}
use Rattle.verity_stage.specs.Stage.{Stage, IsStage, written_at, block_at, staged, at_place, side_of, below_of, bytes_below, FitPlaces}
use Rattle.verity_stage.proofs.StageLemmas.{is_at_apart, at_blocks, length-staged}

pub length-concat-sized : (size : ℕ) (bs : List (List ℕ)) → AllSized size bs → length (concat bs) ≡ length bs * size
length-concat-sized size [] all = omega arith
length-concat-sized size (b ∷ bs) all =
    let h : length b ≡ size = All-head (λ block. length block ≡ size) b bs all in
    let r = length-concat-sized size bs (All-tail (λ block. length block ≡ size) b bs all) in
    omega (arith, length-append b (concat bs), suc-mul (length bs) size)

cut-concat : (size : ℕ) (bs : List (List ℕ)) → AllSized size bs → cut size (length bs) (concat bs) ≡ bs
cut-concat size [] all = refl
cut-concat size (b ∷ bs) all =
    let h : length b ≡ size = All-head (λ block. length block ≡ size) b bs all in
    let first : take size (b ++ concat bs) ≡ b = subst (λ (n : ℕ). take n (b ++ concat bs) ≡ b) h (take-append_seam b (concat bs)) in
    let rest : drop size (b ++ concat bs) ≡ concat bs =
    subst (λ (n : ℕ). drop n (b ++ concat bs) ≡ concat bs) h (drop-append_seam b (concat bs)) in
    ap (λ (x : List ℕ). x ∷ cut size (length bs) (drop size (b ++ concat bs))) first
    ∙ ap (λ (x : List ℕ). b ∷ cut size (length bs) x) rest
    ∙ ap (λ (x : List (List ℕ)). b ∷ x) (cut-concat size bs (All-tail (λ block. length block ≡ size) b bs all))

-- a change of length
concat-resized : (size m : ℕ) (bs : List (List ℕ)) → AllSized size bs → with_length (m * size) (concat bs) ≡ concat (resized size m bs)
concat-resized size m bs all =
    let bytes : List ℕ = concat bs in
    let len : length bytes ≡ length bs * size = length-concat-sized size bs all in
    let whole : length (with_length (m * size) bytes) ≡ m * size =
    omega (
      arith,
      length-append (take (m * size) bytes) (replicate (m * size - length bytes) 0),
      length-take (m * size) bytes,
      length-replicate {A = ℕ} (m * size - length bytes) 0,
    ) in
    sym (concat-cut size m (with_length (m * size) bytes) whole)
    ∙ ap concat (cut-resize size (length bs) m bytes len ∙ ap (resized size m) (cut-concat size bs all))

pub AllSized-resized : (size m : ℕ) (bs : List (List ℕ)) → AllSized size bs → AllSized size (resized size m bs)
AllSized-resized size m bs all = All-append (λ block. length block ≡ size) (take m bs) (replicate (m - length bs) (zero_block size))
    (All-take (λ block. length block ≡ size) m bs all) (AllSized-replicate size (m - length bs))

-- a write
concat-set : (size k : ℕ) (bs : List (List ℕ)) (b : List ℕ) → AllSized size bs → k < length bs → length b ≡ size →
    overwritten (k * size) b (concat bs) ≡ concat (set bs k b)
concat-set size k bs b all below len =
    let bytes : List ℕ = concat bs in let n : ℕ = length bs in
    let whole : length bytes ≡ n * size = length-concat-sized size bs all in
    let new : List ℕ = overwritten (k * size) b bytes in
    let is : cut size n bytes ≡ bs = cut-concat size bs all in
    let fits : suc k * size ≤ n * size = mul-le-mul_right size (omega arith) in
    let long : length new ≡ n * size = omega (
      arith,
      fits,
      suc-mul k size,
      length-append (take (k * size) bytes) (b ++ drop (k * size + length b) bytes),
      length-append b (drop (k * size + length b) bytes),
      length-take (k * size) bytes,
      length-drop (k * size + length b) bytes,
    ) in
    sym (concat-cut size n new long)
    ∙ ap concat (cut-write size n k bytes b new len whole (omega (arith, length-cut size n bytes)) refl ∙ ap (λ x. set x k b) is)

-- the blocks after these were written, in order
abbrev pub over : List (ℕ × List ℕ) → List (List ℕ) → List (List ℕ)
over [] bs = bs
over (e ∷ es) bs = over es (set bs e.0 e.1)

length-over : (es : List (ℕ × List ℕ)) (bs : List (List ℕ)) → length (over es bs) ≡ length bs
length-over [] bs = refl
length-over (e ∷ es) bs = length-over es (set bs e.0 e.1) ∙ length-set bs e.0 e.1

-- each lies within so many blocks, and has the size
abbrev pub FitIn : ℕ → ℕ → List (ℕ × List ℕ) → Type 0
FitIn len size [] = Unit {0}
FitIn len size (e ∷ es) = ((e.0 < len) × (length e.1 ≡ size)) × FitIn len size es

changed-places : (size : ℕ) (es : List (ℕ × List ℕ)) (bs : List (List ℕ)) → AllSized size bs → FitIn (length bs) size es
    → changed (map (at_place size) es) (concat bs) ≡ concat (over es bs)
changed-places size [] bs all fits = refl
changed-places size (e ∷ es) bs all fits =
    let next : List (List ℕ) = set bs e.0 e.1 in
    ap (changed (map (at_place size) es)) (concat-set size e.0 bs e.1 all fits.0.0 fits.0.1)
    ∙ changed-places size es next (All-set (λ block. length block ≡ size) bs e.0 e.1 fits.0.1 all)
    (subst (λ (n : ℕ). FitIn n size es) (sym (length-set bs e.0 e.1)) fits.1)

-- keys that rise, from lo on
abbrev pub KeysRise : ℕ → List (ℕ × List ℕ) → Type 0
KeysRise lo [] = Unit {0}
KeysRise lo (e ∷ es) = (lo ≤ e.0) × KeysRise (suc e.0) es

is_at_same : (n : ℕ) → is_at (nat_cmp n) n ≡ true
is_at_same n = ap is_eq (cond-false (ltb n n) Less (cond (eqb n n) Equal Greater) (le-ltb n n (omega arith))
    ∙ cond-true (eqb n n) Equal Greater (eq-eqb n n refl))

lookup_under : (es : List (ℕ × List ℕ)) (lo q : ℕ) → KeysRise lo es → q < lo → lookup (is_at (nat_cmp q)) es ≡ None
lookup_under [] lo q r below = refl
lookup_under (e ∷ es) lo q r below =
    let l = r.0 in
    cond-false (is_at (nat_cmp q) e.0) (Some e.1) (lookup (is_at (nat_cmp q)) es) (is_at_apart e.0 q (λ s. absurd (omega arith)))
    ∙ lookup_under es (suc e.0) q r.1 (omega arith)

-- each block is what was written last, or the old one
over_at : (es : List (ℕ × List ℕ)) (lo : ℕ) (content : List (List ℕ)) (q : ℕ) → KeysRise lo es → q < length content
    → get_or (over es content) q [] ≡ unwrap_or (lookup (is_at (nat_cmp q)) es) (get_or content q [])
over_at [] lo content q r below = refl
over_at (e ∷ es) lo content q r below =
    let next : List (List ℕ) = set content e.0 e.1 in
    let inside : q < length next = rw length-set below in
    let later = lookup (is_at (nat_cmp q)) es in
    over_at es (suc e.0) next q r.1 inside
    ∙ ⊎_elim
    (λ same.
    let none : later ≡ None = lookup_under es (suc e.0) q r.1 (omega arith) in
    let here : is_at (nat_cmp q) e.0 ≡ true = subst (λ (n : ℕ). is_at (nat_cmp q) n ≡ true) same (is_at_same q) in
    ap (λ o. unwrap_or o (get_or next q [])) none
    ∙ subst (λ (n : ℕ). get_or (set content n e.1) q [] ≡ e.1) same (get_or-set_same content q e.1 [] below)
    ∙ sym (ap (λ o. unwrap_or o (get_or content q [])) (cond-true (is_at (nat_cmp q) e.0) (Some e.1) later here)))
    (λ apart.
    ap (λ d. unwrap_or later d) (get_or-set_other content e.0 q e.1 [] apart)
    ∙ sym (ap (λ o. unwrap_or o (get_or content q [])) (cond-false (is_at (nat_cmp q) e.0) (Some e.1) later
    (is_at_apart e.0 q (λ s. apart (sym s))))))
    (cases_eq q e.0)

KeysRise-from : (es : List (ℕ × List ℕ)) (lo : ℕ) → IsStrictlyIncreasing (keys_of es) →
    (0 < length es → lo ≤ get_or (keys_of es) 0 0) → KeysRise lo es
KeysRise-from [] lo inc first = tt
KeysRise-from (e ∷ es) lo inc first = (
  first (omega arith),
  KeysRise-from es (suc e.0)
      (λ k h. let at : suc k + 1 ≡ suc (k + 1) = omega arith in
      let more : suc k + 1 < length (keys_of (e ∷ es)) = omega arith in
      let P : ℕ → Type 0 = λ n. get_or (keys_of es) k 0 < get_or (keys_of (e ∷ es)) n 0 in
      subst P at (inc (suc k) more))
      (λ some. let more : 0 + 1 < length (keys_of (e ∷ es)) = (let l : length (keys_of es) ≡ length es = length-map es (λ x. x.0) in
      omega arith) in inc 0 more),
)

-- the keys of a map rise
KeysRise-ordered : (es : List (ℕ × List ℕ)) → IsStrictlySortedBy nat_cmp (keys_of es) → KeysRise 0 es
KeysRise-ordered es sorted = KeysRise-from es 0 (IsStrictlyIncreasing-from_sorted (keys_of es) sorted) (λ some. omega arith)

FitIn-from : (es : List (ℕ × List ℕ)) (lo len size : ℕ) → KeysRise lo es → ((q : ℕ) → len ≤ q → lookup (is_at (nat_cmp q)) es ≡ None)
    → ((q : ℕ) → IfSome (lookup (is_at (nat_cmp q)) es) (λ block. length block ≡ size)) → FitIn len size es
FitIn-from [] lo len size r behind sized = tt
FitIn-from (e ∷ es) lo len size r behind sized =
    let here : lookup (is_at (nat_cmp e.0)) (e ∷ es) ≡ Some e.1 =
    cond-true (is_at (nat_cmp e.0) e.0) (Some e.1) (lookup (is_at (nat_cmp e.0)) es) (is_at_same e.0) in
    let P : Option (List ℕ) → Type 0 = λ o. IfSome o (λ block. length block ≡ size) in
    let rest : (q : ℕ) → (q ≡ e.0 → ⊥) → lookup (is_at (nat_cmp q)) (e ∷ es) ≡ lookup (is_at (nat_cmp q)) es = λ q ne.
    cond-false (is_at (nat_cmp q) e.0) (Some e.1) (lookup (is_at (nat_cmp q)) es) (is_at_apart e.0 q (λ s. ne (sym s))) in
    let gone : (q : ℕ) → q ≡ e.0 → lookup (is_at (nat_cmp q)) es ≡ None = λ q same. lookup_under es (suc e.0) q r.1 (omega arith) in (
      (
        ⊎_elim (λ l. l) (λ far. let none : None ≡ Some e.1 = sym (behind e.0 far) ∙ here in (cc)) (cases_lt e.0 len),
        subst P here (sized e.0),
      ),
      FitIn-from es (suc e.0) len size r.1
          (λ q far. ⊎_elim (gone q) (λ ne. sym (rest q ne) ∙ behind q far) (cases_eq q e.0))
          (λ q. ⊎_elim (λ same. subst P (sym (gone q same)) tt) (λ ne. subst P (rest q ne) (sized q)) (cases_eq q e.0)),
    )

-- the blocks that are kept, the zeros behind them and the written ones over both are what is staged
over-staged : (content : List (List ℕ)) (d : Stage) → IsStage d → d.least ≤ length content → KeysRise 0 d.written
    → over d.written (resized d.size d.blocks (resized d.size d.least content)) ≡ staged content d
over-staged content d ok kept rise =
    let bottom : List (List ℕ) = resized d.size d.least content in
    let grown : List (List ℕ) = resized d.size d.blocks bottom in
    let bottom_len : length bottom ≡ d.least =
    omega (
      arith,
      length-append (take d.least content) (replicate (d.least - length content) (zero_block d.size)),
      length-take d.least content,
      length-replicate {A = List ℕ} (d.least - length content) (zero_block d.size),
    ) in
    let front_len : length (take d.blocks bottom) ≡ d.least = omega (arith, length-take d.blocks bottom, ok.least) in
    let len : length grown ≡ d.blocks = omega (
      arith,
      length-append (take d.blocks bottom) (replicate (d.blocks - length bottom) (zero_block d.size)),
      length-replicate {A = List ℕ} (d.blocks - length bottom) (zero_block d.size),
      ok.least,
    ) in
    ext_get_or [] (over d.written grown) (staged content d) (length-over d.written grown ∙ len ∙ sym (length-staged content d))
    (λ q below.
    let inside : q < d.blocks = (let l = length-over d.written grown in omega arith) in
    let there : q < length grown = omega arith in
    let base : get_or grown q [] ≡ cond (ltb q d.least) (get_or content q []) (zero_block d.size) =
    ⊎_elim
    (λ low.
    let front : q < length (take d.blocks bottom) = omega arith in
    let in_content : q < length (take d.least content) = omega (arith, length-take d.least content) in
    get_or_append_left (take d.blocks bottom) (replicate (d.blocks - length bottom) (zero_block d.size)) [] q front
    ∙ get_or-take d.blocks bottom q [] inside
    ∙ get_or_append_left (take d.least content) (replicate (d.least - length content) (zero_block d.size)) [] q in_content
    ∙ get_or-take d.least content q [] low
    ∙ sym (cond-true (ltb q d.least) (get_or content q []) (zero_block d.size) (lt-ltb q d.least low)))
    (λ high.
    let in_zeros : q - d.least < d.blocks - length bottom = omega arith in
    get_or-append_right (take d.blocks bottom) (replicate (d.blocks - length bottom) (zero_block d.size)) d.least q [] front_len high
    ∙ get_or-replicate (d.blocks - length bottom) (q - d.least) (zero_block d.size) [] in_zeros
    ∙ sym (cond-false (ltb q d.least) (get_or content q []) (zero_block d.size) (le-ltb q d.least high)))
    (cases_lt q d.least) in
    over_at d.written 0 grown q rise there ∙ ap (λ x. unwrap_or (written_at d q) x) base ∙ sym (at_blocks content d q inside))

-- what the changes of a stage make of a store's bytes is what is staged
pub made-staged : (content : List (List ℕ)) (d : Stage) → IsStage d → d.least ≤ length content → AllSized d.size content →
    IsStrictlySortedBy nat_cmp (keys_of d.written)
    → made (side_of d) (concat content) ≡ concat (staged content d)
made-staged content d ok kept all sorted =
    let bottom : List (List ℕ) = resized d.size d.least content in
    let grown : List (List ℕ) = resized d.size d.blocks bottom in
    let rise : KeysRise 0 d.written = KeysRise-ordered d.written sorted in
    let bottom_sized = AllSized-resized d.size d.least content all in
    let bottom_len : length bottom ≡ d.least =
    omega (
      arith,
      length-append (take d.least content) (replicate (d.least - length content) (zero_block d.size)),
      length-take d.least content,
      length-replicate {A = List ℕ} (d.least - length content) (zero_block d.size),
    ) in
    let len : length grown ≡ d.blocks = omega (
      arith,
      length-append (take d.blocks bottom) (replicate (d.blocks - length bottom) (zero_block d.size)),
      length-take d.blocks bottom,
      length-replicate {A = List ℕ} (d.blocks - length bottom) (zero_block d.size),
      ok.least,
    ) in
    ap (λ (bytes : List ℕ). changed (map (at_place d.size) d.written) (with_length (d.blocks * d.size) bytes))
    (concat-resized d.size d.least content all)
    ∙ ap (changed (map (at_place d.size) d.written)) (concat-resized d.size d.blocks bottom bottom_sized)
    ∙ changed-places d.size d.written grown (AllSized-resized d.size d.blocks bottom bottom_sized)
    (FitIn-from d.written 0 (length grown) d.size rise (λ q far. ok.behind q (omega arith)) ok.sized)
    ∙ ap concat (over-staged content d ok kept rise)

-- where a block lies has eight bytes
FitPlaces-from : (es : List (ℕ × List ℕ)) (blocks len size : ℕ) → FitIn blocks len es → blocks ≤ 2 ^ 41 → size ≤ 524288 → FitPlaces size es
FitPlaces-from [] blocks len size fits few small = tt
FitPlaces-from (e ∷ es) blocks len size fits few small =
    let a : e.0 * size ≤ 2 ^ 41 * size = (let low = fits.0.0 in mul-le-mul_right size (omega arith)) in
    let b : 2 ^ 41 * size < 2 ^ 64 = omega arith in (
      omega arith,
      FitPlaces-from es blocks len size fits.1 few small,
    )

pub places_fit : (d : Stage) → IsStage d → IsStrictlySortedBy nat_cmp (keys_of d.written) → d.blocks ≤ 2 ^ 41 → d.size ≤ 524288 →
    FitPlaces d.size d.written
places_fit d ok sorted few small =
    FitPlaces-from d.written d.blocks d.size d.size (FitIn-from d.written 0 d.blocks d.size (KeysRise-ordered d.written sorted)
    ok.behind ok.sized) few small

-- what is kept of a store are bytes of it
pub kept_bytes : (content : List (List ℕ)) (size least : ℕ) → AllSized size content → least ≤ length content →
    least * size ≤ length (concat content)
kept_bytes content size least all kept = let a : least * size ≤ length content * size = mul-le-mul_right size kept in
    omega (arith, length-concat-sized size content all)

-- the changes of blocks that lie within so many lie below their bytes
Fit-from : (es : List (ℕ × List ℕ)) (len size : ℕ) → FitIn len size es → Fit (len * size) (map (at_place size) es)
Fit-from [] len size fits = tt
Fit-from (e ∷ es) len size fits = let a : suc e.0 * size ≤ len * size = mul-le-mul_right size fits.0.0 in (
  omega (arith, suc-mul e.0 size, fits.0.1),
  Fit-from es len size fits.1,
)

-- a stage is a plan of changes below its length
pub is_side : (d : Stage) → IsStage d → IsStrictlySortedBy nat_cmp (keys_of d.written) → IsSide (side_of d)
is_side d ok sorted = record {
  kept = mul-le-mul_right d.size ok.least;
  fit = Fit-from d.written d.blocks d.size (FitIn-from d.written 0 d.blocks d.size (KeysRise-ordered d.written sorted) ok.behind ok.sized);
}

-- what a staged store is bound to tells the blocks below
seconds : (content : List (List ℕ)) → map (λ (entry : ℕ × List ℕ). entry.1) (below_of content) ≡ content
seconds [] = refl
seconds (block ∷ content) = ap (λ rest. block ∷ rest) (seconds content)

pub bytes_below-of : (content : List (List ℕ)) → bytes_below (below_of content) ≡ concat content
bytes_below-of content = ap concat (seconds content)
