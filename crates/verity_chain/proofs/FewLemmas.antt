-- How many blocks are noted: none twice, and none outside a set of places.
use Rattle.std.proofs.Common.{ℕ, suc, ◌+◌, ◌/◌, ◌<◌, ◌≤◌, ◌≡◌, ◌≢◌, Bool, true, List, [], ◌∷◌, ◌++◌, length}
use Rattle.std.proofs.Common.{ltb, Contains, sym, ap, ◌∙◌, subst, inl, inr, ⊎_elim, arith}
use Rattle.std.specs.List.{AllPairs}
use Rattle.std.specs.Cmp.{nat_eq_equiv}
use Rattle.std.proofs.lemmas.Bool.{eqb-true, ltb-true, lt-ltb}
use Rattle.std.proofs.lemmas.Bool.Decides.{Decides-eqb}
use Rattle.std.proofs.lemmas.List.{length-map, get_or-map, get_or_default, map-append}
use Rattle.std.proofs.lemmas.List.Elements.{Contains-push_cases}
use Rattle.std.proofs.lemmas.List.Quantifiers.{all_pairs_push}
use Rattle.std.proofs.lemmas.Map.Made.{length-le_from_is_member, IsDistinct-from_AllPairs}
use Rattle.std.proofs.lemmas.Map.Views.{list_any-from_Contains, Contains-from_any}
use Rattle.verity_chain.specs.Table.{Table, branching, height, row_len, hash_place}
use Rattle.verity_chain.specs.Notes.{Note, note_at, numbers, AreApart, IsUpward, NotesWithin}
use Rattle.verity_chain.proofs.NoteLaws.{same_level}

-- numbers that differ and are all in a list are no more than are in it
pub at_most : (ns ms : List ℕ) → AllPairs (λ n m. n ≢ m) ns → ((n : ℕ) → Contains ns n → Contains ms n) → length ns ≤ length ms
at_most ns ms apart within =
    length-le_from_is_member nat_eq_equiv ns ms (IsDistinct-from_AllPairs Decides-eqb ns apart)
    (λ q has. list_any-from_Contains nat_eq_equiv q ms (within q (Contains-from_any (λ x y e. eqb-true x y e) q ns has)))

pub few_notes : (notes : List Note) (places : List ℕ) → AreApart notes → ((n : ℕ) → Contains (numbers notes) n → Contains places n)
    → length notes ≤ length places
few_notes notes places apart within =
    let most = at_most (numbers notes) places apart within in
    let len = length-map notes (λ note. note.number) in
    omega arith

-- a number that is that of no note isn't noted
pub unnoted_from : (notes : List Note) (n : ℕ) → ((c : ℕ) → c < length notes → (note_at notes c).number ≢ n) →
    ¬ (Contains (numbers notes) n)
unnoted_from notes n none has =
    let c : ℕ = has.0 in
    let len = length-map notes (λ note. note.number) in
    let below : c < length notes = omega (arith, has.1) in
    none c below (sym (get_or-map (λ note. note.number) notes c (record { number = 0; block = [] }) n below) ∙ has.2)

pushed : (notes more : List Note) (x : Note) → more ≡ notes ++ x ∷ [] → numbers more ≡ numbers notes ++ x.number ∷ []
pushed notes more x is = ap numbers is ∙ map-append (λ note. note.number) notes (x ∷ [])

-- one note more, of a block that wasn't noted
pub apart_push : (notes more : List Note) (x : Note) (n : ℕ) → more ≡ notes ++ x ∷ [] → x.number ≡ n → AreApart notes →
    ¬ (Contains (numbers notes) n) → AreApart more
apart_push notes more x n is number apart unnoted =
    subst (AllPairs (λ a b. a ≢ b)) (sym (pushed notes more x is))
    (all_pairs_push (λ a b. a ≢ b) (numbers notes) x.number apart (λ k d below same. unnoted (
      k,
      below,
      get_or_default (numbers notes) k n d below ∙ same ∙ number,
    )))

pub within_push : (t : Table) (set : ℕ → ℕ → Bool) (notes more : List Note) (x : Note) (l i : ℕ) → more ≡ notes ++ x ∷ [] →
    l < height t → i < row_len t (suc l) → x.number ≡ hash_place t l i → set l i ≡ true → NotesWithin t set notes more
within_push t set notes more x l i is level index number among n has =
    ⊎_elim inl
    (λ same. inr (record {
      level = l;
      index = i;
      is_level = level;
      is_index = index;
      place = sym number ∙ same;
      among = among;
    }))
    (Contains-push_cases (numbers notes) x.number n (subst (λ ns. Contains ns n) (pushed notes more x is) has))

-- no note more
pub within_same : (t : Table) (set : ℕ → ℕ → Bool) (notes more : List Note) → more ≡ notes → NotesWithin t set notes more
within_same t set notes more is n has = inl (subst (λ ns. Contains (numbers ns) n) is has)

-- some, and then more
pub within_then : (t : Table) (set : ℕ → ℕ → Bool) (a b c : List Note) → NotesWithin t set a b → NotesWithin t set b c →
    NotesWithin t set a c
within_then t set a b c first next n has = ⊎_elim (first n) inr (next n has)

-- what is noted on the way above a place isn't the block there
pub unnoted_above : (t : Table) (old new : List Note) (l i : ℕ) → l < height t → i < row_len t (suc l) →
    ¬ (Contains (numbers old) (hash_place t l i))
    → ((set : ℕ → ℕ → Bool) → IsUpward t set → set (l + 1) (i / branching t) ≡ true → NotesWithin t set old new)
    → ¬ (Contains (numbers new) (hash_place t l i))
unnoted_above t old new l i level index unnoted within has =
    let set : ℕ → ℕ → Bool = λ m j. ltb l m in
    let upward : IsUpward t set = λ m j less. let low = ltb-true l m less in lt-ltb l (suc m) (omega arith) in
    ⊎_elim unnoted
    (λ high.
    let same : l ≡ high.level = same_level t l high.level i high.index level high.is_level index high.is_index (sym high.place) in
    let less = ltb-true l high.level high.among in
    absurd (omega arith))
    (within set upward (lt-ltb l (l + 1) (omega arith)) (hash_place t l i) has)

pub within_next : (t u : Table) (set : ℕ → ℕ → Bool) (a b : List Note) → u ≡ t → NotesWithin u set a b → NotesWithin t set a b
within_next t u set a b same within = subst (λ v. NotesWithin v set a b) same within
