-- The data store after a commit.
use Rattle.std.proofs.Common.{◌≡◌, ℕ, suc, ◌+◌, ◌-◌, ◌<◌, ◌≤◌, min, true, ltb, cond, List, [], ◌∷◌, length, take, replicate, get_or}
use Rattle.std.proofs.Common.{set, Option, Some, None, ⊎_elim, inl, inr, refl, sym, ap, ◌∙◌, subst, arith}
use Rattle.std.specs.Prelude.{unwrap_or, IfSome}
use Rattle.std.specs.List.Sorted.{IsStrictlyIncreasing, IsStrictlySortedBy}
use Rattle.std.specs.Map.{keys_of}
use Rattle.std.proofs.lemmas.Map.Keys.{IsStrictlyIncreasing-from_sorted}
use Rattle.std.specs.Ordering.{nat_cmp, is_eq}
use Rattle.std.specs.Map.{lookup}
use Rattle.std.specs.BTreeMap.{is_at}
use Rattle.std.specs.declared.cmp.Ordering.TheVariants.{Less, Equal, Greater}
use Rattle.std.proofs.lemmas.Bool.{cases_lt, cases_eq, cond-true, cond-false, le-ltb, lt-ltb, eq-eqb}
use Rattle.std.proofs.lemmas.List.{length-map, ext_get_or, length-set, get_or-set_same, get_or-set_other, get_or-take}
use Rattle.std.proofs.lemmas.List.{get_or_append_left, get_or-append_right, get_or-replicate, length-append, length-take}
use Rattle.std.proofs.lemmas.List.{length-replicate}
use Rattle.std.proofs.Common.{eqb}
use Rattle.verity_store.specs.Blocks.{resized}
use Rattle.verity_profile.specs.Profile.{zero_block}
use Rattle.verity_store.specs.Moves.{ChangesWithin}
use Rattle.verity_pending.specs.Draft.{Draft, IsDraft, written_at, edits_of}
use Rattle.verity_pending.specs.Applied.{overwritten, FitStore}
use Rattle.verity_pending.proofs.Drafts.{is_at_apart, at_working, length-working}

-- keys that rise, from lo on
abbrev pub KeysRise : ℕ → List (ℕ × List ℕ) → Type 0
KeysRise lo [] = Unit {0}
KeysRise lo (e ∷ es) = (lo ≤ e.0) × KeysRise (suc e.0) es

pub is_at_same : (n : ℕ) → is_at (nat_cmp n) n ≡ true
is_at_same n = ap is_eq (cond-false (ltb n n) Less (cond (eqb n n) Equal Greater) (le-ltb n n (omega arith))
    ∙ cond-true (eqb n n) Equal Greater (eq-eqb n n refl))

lookup_under : (es : List (ℕ × List ℕ)) (lo q : ℕ) → KeysRise lo es → q < lo → lookup (is_at (nat_cmp q)) es ≡ None
lookup_under [] lo q r below = refl
lookup_under (e ∷ es) lo q r below =
    let l = r.0 in
    cond-false (is_at (nat_cmp q) e.0) (Some e.1) (lookup (is_at (nat_cmp q)) es) (is_at_apart e.0 q (λ s. absurd (omega arith)))
    ∙ lookup_under es (suc e.0) q r.1 (omega arith)

pub length-overwritten : (es : List (ℕ × List ℕ)) (content : List (List ℕ)) → length (overwritten es content) ≡ length content
length-overwritten [] content = refl
length-overwritten (e ∷ es) content = length-overwritten es (set content e.0 e.1) ∙ length-set content e.0 e.1

-- each block is what was written last, or the old one
pub overwritten_at : (es : List (ℕ × List ℕ)) (lo : ℕ) (content : List (List ℕ)) (q : ℕ) → KeysRise lo es → q < length content
    → get_or (overwritten es content) q [] ≡ unwrap_or (lookup (is_at (nat_cmp q)) es) (get_or content q [])
overwritten_at [] lo content q r below = refl
overwritten_at (e ∷ es) lo content q r below =
    let next : List (List ℕ) = set content e.0 e.1 in
    let inside : q < length next = rw length-set below in
    let later = lookup (is_at (nat_cmp q)) es in
    overwritten_at es (suc e.0) next q r.1 inside
    ∙ ⊎_elim
    (λ same.
    let none : later ≡ None = lookup_under es (suc e.0) q r.1 (omega arith) in
    let here : is_at (nat_cmp q) e.0 ≡ true = subst (λ (n : ℕ). is_at (nat_cmp q) n ≡ true) same (is_at_same q) in
    ap (λ o. unwrap_or o (get_or next q [])) none
    ∙ subst (λ (n : ℕ). get_or (set content n e.1) q [] ≡ e.1) same (get_or-set_same content q e.1 [] below)
    ∙ sym (ap (λ o. unwrap_or o (get_or content q [])) (cond-true (is_at (nat_cmp q) e.0) (Some e.1) later here)))
    (λ apart.
    ap (λ d. unwrap_or later d) (get_or-set_other content e.0 q e.1 [] apart)
    ∙ sym (ap (λ o. unwrap_or o (get_or content q [])) (cond-false (is_at (nat_cmp q) e.0) (Some e.1) later
    (is_at_apart e.0 q (λ s. apart (sym s))))))
    (cases_eq q e.0)

-- the committed content, cut or grown, with zeros from the least count on and the written blocks over it, is the working image
pub applied : (d : Draft) (committed grown zeroed : List (List ℕ)) → IsDraft d → length committed ≡ d.committed → KeysRise 0 d.written
    → grown ≡ resized d.size d.working committed
    → ((q : ℕ) → d.least ≤ q → q < min d.committed d.working → get_or zeroed q [] ≡ zero_block d.size)
    → ChangesWithin d.least (min d.committed d.working - d.least) grown zeroed
    → overwritten d.written zeroed ≡ (edits_of committed d).working
applied d committed grown zeroed ok count rise is zeros others =
    let grown_len : length grown ≡ d.working =
    ap length is ∙ (let e : length (resized d.size d.working committed) ≡ d.working = omega (
      arith,
      length-append (take d.working committed) (replicate (d.working - length committed) (zero_block d.size)),
      length-take d.working committed,
      length-replicate {A = List ℕ} (d.working - length committed) (zero_block d.size),
    ) in e) in
    let len : length zeroed ≡ d.working = others.0 ∙ grown_len in
    let a = ok.least in let b = ok.kept in
    let front_len : length (take d.working committed) ≡ min d.working d.committed = length-take d.working committed
    ∙ ap (λ n. min d.working n) count in
    ext_get_or [] (overwritten d.written zeroed) (edits_of committed d).working (length-overwritten d.written zeroed ∙ len
    ∙ sym (length-working committed d))
    (λ q below.
    let inside : q < d.working = (let l = length-overwritten d.written zeroed in omega arith) in
    let there : q < length zeroed = omega arith in
    let base : get_or zeroed q [] ≡ cond (ltb q d.least) (get_or committed q []) (zero_block d.size) =
    ⊎_elim
    (λ low. let front : q < length (take d.working committed) = omega arith in
    others.1 q (inl low) ∙ ap (λ blocks. get_or blocks q []) is
    ∙ get_or_append_left (take d.working committed) (replicate (d.working - length committed) (zero_block d.size)) [] q front
    ∙ get_or-take d.working committed q [] inside
    ∙ sym (cond-true (ltb q d.least) (get_or committed q []) (zero_block d.size) (lt-ltb q d.least low)))
    (λ high.
    ⊎_elim
    (λ kept. zeros q high kept)
    (λ new. let back : d.least + (min d.committed d.working - d.least) ≤ q = omega arith in
    let in_zeros : q - min d.working d.committed < d.working - length committed = omega arith in
    let at : min d.working d.committed ≤ q = omega arith in
    others.1 q (inr back) ∙ ap (λ blocks. get_or blocks q []) is
    ∙ get_or-append_right (take d.working committed) (replicate (d.working - length committed) (zero_block d.size))
    (min d.working d.committed) q [] front_len at
    ∙ get_or-replicate (d.working - length committed) (q - min d.working d.committed) (zero_block d.size) [] in_zeros)
    (cases_lt q (min d.committed d.working))
    ∙ sym (cond-false (ltb q d.least) (get_or committed q []) (zero_block d.size) (le-ltb q d.least high)))
    (cases_lt q d.least) in
    overwritten_at d.written 0 zeroed q rise there ∙ ap (λ x. unwrap_or (written_at d q) x) base ∙ sym (at_working committed d q inside))

KeysRise-from : (es : List (ℕ × List ℕ)) (lo : ℕ) → IsStrictlyIncreasing (keys_of es) →
    (0 < length es → lo ≤ get_or (keys_of es) 0 0) → KeysRise lo es
KeysRise-from [] lo inc first = tt
KeysRise-from (e ∷ es) lo inc first = (
  first (omega arith),
  KeysRise-from es (suc e.0)
      (λ k h. let at : suc k + 1 ≡ suc (k + 1) = omega arith in
      let more : suc k + 1 < length (keys_of (e ∷ es)) = omega arith in
      let P : ℕ → Type 0 = λ n. get_or (keys_of es) k 0 < get_or (keys_of (e ∷ es)) n 0 in
      subst P at (inc (suc k) more))
      (λ some. let more : 0 + 1 < length (keys_of (e ∷ es)) = (let l : length (keys_of es) ≡ length es = length-map es (λ x. x.0) in
      omega arith) in inc 0 more),
)

-- the keys of a map rise
pub KeysRise-ordered : (es : List (ℕ × List ℕ)) → IsStrictlySortedBy nat_cmp (keys_of es) → KeysRise 0 es
KeysRise-ordered es sorted = KeysRise-from es 0 (IsStrictlyIncreasing-from_sorted (keys_of es) sorted) (λ some. omega arith)

FitStore-from : (es : List (ℕ × List ℕ)) (lo len size : ℕ) → KeysRise lo es → ((q : ℕ) → len ≤ q → lookup (is_at (nat_cmp q)) es ≡ None)
    → ((q : ℕ) → IfSome (lookup (is_at (nat_cmp q)) es) (λ block. length block ≡ size)) → FitStore len size es
FitStore-from [] lo len size r behind sized = tt
FitStore-from (e ∷ es) lo len size r behind sized =
    let here : lookup (is_at (nat_cmp e.0)) (e ∷ es) ≡ Some e.1 =
    cond-true (is_at (nat_cmp e.0) e.0) (Some e.1) (lookup (is_at (nat_cmp e.0)) es) (is_at_same e.0) in
    let P : Option (List ℕ) → Type 0 = λ o. IfSome o (λ block. length block ≡ size) in
    let rest : (q : ℕ) → (q ≡ e.0 → ⊥) → lookup (is_at (nat_cmp q)) (e ∷ es) ≡ lookup (is_at (nat_cmp q)) es = λ q ne.
    cond-false (is_at (nat_cmp q) e.0) (Some e.1) (lookup (is_at (nat_cmp q)) es) (is_at_apart e.0 q (λ s. ne (sym s))) in
    let gone : (q : ℕ) → q ≡ e.0 → lookup (is_at (nat_cmp q)) es ≡ None = λ q same. lookup_under es (suc e.0) q r.1 (omega arith) in (
      (
        ⊎_elim (λ l. l) (λ far. let none : None ≡ Some e.1 = sym (behind e.0 far) ∙ here in (cc)) (cases_lt e.0 len),
        subst P here (sized e.0),
      ),
      FitStore-from es (suc e.0) len size r.1
          (λ q far. ⊎_elim (gone q) (λ ne. sym (rest q ne) ∙ behind q far) (cases_eq q e.0))
          (λ q. ⊎_elim (λ same. subst P (sym (gone q same)) tt) (λ ne. subst P (rest q ne) (sized q)) (cases_eq q e.0)),
    )

pub FitStore-draft : (d : Draft) (len : ℕ) → IsDraft d → KeysRise 0 d.written → d.working ≤ len → FitStore len d.size d.written
FitStore-draft d len ok rise le = FitStore-from d.written 0 len d.size rise (λ q far. ok.behind q (omega arith)) ok.sized
