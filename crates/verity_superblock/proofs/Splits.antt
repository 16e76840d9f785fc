-- A text cut at its spaces.
use Rattle.std.proofs.Common.{◌≡◌, ◌≢◌, ℕ, ◌+◌, ◌<◌, ◌≤◌, ◌==◌, Bool, true, false, List, [], ◌∷◌, ◌++◌, length, slice_index_or}
use Rattle.std.proofs.Common.{Option, Some, None, refl, sym, ap, ◌∙◌, arith, lit<, Bor, ◌⊎◌, inl, inr, nat_lt}
use Rattle.std.specs.Prelude.{IsSome, not}
use Rattle.std.specs.List.{All, slice_split, onto_first, list_all, join_with_byte}
use Rattle.std.proofs.lemmas.Bool.{ne_eqb, cases_Bool, and_from, and_parts, not_from_false, not-true, eqb-true}
use Rattle.std.proofs.lemmas.List.Elements.{All-nil, All-cons, All-head, All-tail, All-get_or, All-from_get_or}
use Rattle.std.proofs.lemmas.List.Sums.{AllPass-from_list_all}
use Rattle.std.proofs.lemmas.List.Splits.{slice_split_none, slice_split_at, slice_split-cons_yes, slice_split-cons_no}
use Rattle.std.proofs.lemmas.List.Splits.{join_with_byte-slice_split}
use Rattle.std.proofs.lemmas.Str.Pattern.{IsSplitOnceResult, split_parts}
use Rattle.verity_superblock.specs.Line.{fields_of, field, has_ten_fields, is_path}

-- no space stands in the text
abbrev pub HasNoSpace : List ℕ → Type 0
HasNoSpace text = All (λ b. (b == 32) ≡ false) text

no_space-by_index : (text : List ℕ) → ((i : ℕ) → i < length text → slice_index_or text i 0 ≢ 32) → HasNoSpace text
no_space-by_index text h = All-from_get_or (λ b. (b == 32) ≡ false) text 0 (λ i below. ne_eqb (slice_index_or text i 0) 32 (h i below))

pub fields_of-one : (text : List ℕ) → ((i : ℕ) → i < length text → slice_index_or text i 0 ≢ 32) → fields_of text ≡ text ∷ []
fields_of-one text h = slice_split_none (λ b. b == 32) text (no_space-by_index text h)

pub fields_of-next : (text first rest : List ℕ) → text ≡ first ++ (32 ∷ rest) →
    ((i : ℕ) → i < length first → slice_index_or first i 0 ≢ 32) → fields_of text ≡ first ∷ fields_of rest
fields_of-next text first rest e h = ap fields_of e ∙ slice_split_at (λ b. b == 32) first 32 rest (no_space-by_index first h) refl

pub cuts : (text : List ℕ) (r : Option (Bor (List ℕ) × Bor (List ℕ))) → IsSplitOnceResult 32 text r → 1 < length (fields_of text) → IsSome r
cuts text (Some x) h more = refl
cuts text None h more =
    let one = fields_of-one text (split_parts 32 text None h (lit< tt)) in
    absurd (omega (arith, ap length one))

pub cut-fields : (text : List ℕ) (r : Option (Bor (List ℕ) × Bor (List ℕ))) (x : Bor (List ℕ) × Bor (List ℕ)) →
    IsSplitOnceResult 32 text r → r ≡ Some x → fields_of text ≡ x.0.now ∷ fields_of x.1.now
cut-fields text r x h e =
    let parts = split_parts 32 text (Some x) (rw e at h) (lit< tt) in
    fields_of-next text x.0.now x.1.now parts.0 parts.1

-- what the fields are joined from is the text
joined-parts : (text f : List ℕ) (fs : List (List ℕ)) → fs ≡ f ∷ [] → join_with_byte 32 fs ≡ text → fs ≡ text ∷ []
joined-parts text f fs e h = e ∙ ap (λ g. g ∷ []) (ap (λ gs. join_with_byte 32 gs) (sym e) ∙ h)

single : {X : Type 0} (xs : List X) → length xs ≡ 1 → (x : X) × (xs ≡ x ∷ [])
single [] h = absurd (omega arith)
single (x ∷ []) h = (x, refl)
single (x ∷ y ∷ xs) h = absurd (omega arith)

-- a text of one field is that field
pub fields_of-last : (text : List ℕ) → length (fields_of text) ≡ 1 → fields_of text ≡ text ∷ []
fields_of-last text h =
    let one = single (fields_of text) h in
    joined-parts text one.0 (fields_of text) one.1 (join_with_byte-slice_split 32 text)

-- ---- fields have no space, and are cut where they were joined

parts_onto : (x : ℕ) (fs : List (List ℕ)) → (x == 32) ≡ false → All HasNoSpace fs → All HasNoSpace (onto_first x fs)
parts_onto x [] h all = All-cons HasNoSpace (x ∷ []) []
    (All-cons (λ b. (b == 32) ≡ false) x [] h (All-nil (λ b. (b == 32) ≡ false))) (All-nil HasNoSpace)
parts_onto x (f ∷ fs) h all =
    All-cons HasNoSpace (x ∷ f) fs (All-cons (λ b. (b == 32) ≡ false) x f h (All-head HasNoSpace f fs all)) (All-tail HasNoSpace f fs all)

pub fields_of-no_space : (text : List ℕ) → All HasNoSpace (fields_of text)
fields_of-no_space [] = All-cons HasNoSpace [] [] (All-nil (λ b. (b == 32) ≡ false)) (All-nil HasNoSpace)
fields_of-no_space (x ∷ text) = elim (cases_Bool (x == 32)) [
  | inl space ↦ rw (slice_split-cons_yes (λ b. b == 32) x text space)
      (All-cons HasNoSpace [] (fields_of text) (All-nil (λ b. (b == 32) ≡ false)) (fields_of-no_space text))
  | inr other ↦ rw (slice_split-cons_no (λ b. b == 32) x text other) (parts_onto x (fields_of text) other (fields_of-no_space text))
]

pub fields_of-joined : (f : List ℕ) (fs : List (List ℕ)) → All HasNoSpace (f ∷ fs) → fields_of (join_with_byte 32 (f ∷ fs)) ≡ f ∷ fs
fields_of-joined f [] all = slice_split_none (λ b. b == 32) f (All-head HasNoSpace f [] all)
fields_of-joined f (g ∷ fs) all =
    slice_split_at (λ b. b == 32) f 32 (join_with_byte 32 (g ∷ fs)) (All-head HasNoSpace f (g ∷ fs) all) refl
    ∙ ap (λ gs. f ∷ gs) (fields_of-joined g fs (All-tail HasNoSpace f (g ∷ fs) all))

-- ---- paths

pub no_space-list_all : (text : List ℕ) → HasNoSpace text → list_all (λ b. not (b == 32)) text ≡ true
no_space-list_all [] all = refl
no_space-list_all (x ∷ text) all =
    and_from (not (x == 32)) (list_all (λ b. not (b == 32)) text) (not_from_false (x == 32) (All-head (λ b. (b == 32) ≡ false) x text all))
    (no_space-list_all text (All-tail (λ b. (b == 32) ≡ false) x text all))

pub list_all-no_space : (text : List ℕ) → list_all (λ b. not (b == 32)) text ≡ true → HasNoSpace text
list_all-no_space [] h = All-nil (λ b. (b == 32) ≡ false)
list_all-no_space (x ∷ text) h =
    let both = and_parts (not (x == 32)) (list_all (λ b. not (b == 32)) text) h in
    All-cons (λ b. (b == 32) ≡ false) x text (not-true (x == 32) both.0) (list_all-no_space text both.1)

-- a field of a text of ten is a path
pub field-is_path : (text : List ℕ) (i : ℕ) → has_ten_fields text ≡ true → i < 10 → is_path (field text i) ≡ true
field-is_path text i ten below =
    let both = and_parts (length (fields_of text) == 10) (list_all (λ f. nat_lt 0 (length f)) (fields_of text)) ten in
    let whole : length (fields_of text) ≡ 10 = eqb-true (length (fields_of text)) 10 both.0 in
    let within : i < length (fields_of text) = omega arith in
    let some = AllPass-from_list_all (λ f. nat_lt 0 (length f)) (fields_of text) both.1 in
    and_from (nat_lt 0 (length (field text i))) (list_all (λ b. not (b == 32)) (field text i))
    (All-get_or (λ f. nat_lt 0 (length f) ≡ true) (fields_of text) i [] within some)
    (no_space-list_all (field text i) (All-get_or HasNoSpace (fields_of text) i [] within (fields_of-no_space text)))
