-- What a portion is bound to says which runs are shown, and what was true of the store below when it was made.
use Rattle.std.proofs.Common.{ℕ, ◌≤◌, ◌≡◌, ◌++◌, subst, Bool, true, false, List, [], ◌∷◌, length, take, drop, refl, sym, ap, ◌∙◌, arith}
use Rattle.std.specs.Prelude.{if◌then◌else◌}
use Rattle.std.proofs.Math.Seq.{take-append_seam, drop-append_seam}
use Rattle.verity_slice.specs.declared.run.Run.{Run}
use Rattle.verity_store.specs.Stores.{IsOnlyRead}
use Rattle.verity_store.specs.declared.store.BlockStore as store
use Rattle.verity_portion.specs.Portion.{Facts, facts_of, rows_of, ends_of, bound_to, Portioned, IsPortionSince, IsPortion}

abbrev head : List (ℕ × List ℕ) → ℕ × List ℕ
head [] = (0, [])
head (x ∷ xs) = x

abbrev tail : List (ℕ × List ℕ) → List (ℕ × List ℕ)
tail [] = []
tail (x ∷ xs) = xs

abbrev bit : Bool → ℕ
bit b = if b then 1 else 0

bit_same : (a b : Bool) → bit a ≡ bit b → a ≡ b
bit_same true true e = refl
bit_same true false e = absurd (omega (arith, e))
bit_same false true e = absurd (omega (arith, e))
bit_same false false e = refl

-- the rows of what was true of a store say what was true of it
pub rows_same : (a b : Facts) → rows_of a ≡ rows_of b → a ≡ b
rows_same a b e =
    let end : Facts → List (ℕ × List ℕ) = λ s. s.given ++ s.fixed in
    let few : length a.given ≡ length b.given = ap (λ xs. (head (tail (tail (tail xs)))).0) e in
    let ends : end a ≡ end b = ap (λ xs. tail (tail (tail (tail xs)))) e in
    let given : a.given ≡ b.given = sym (take-append_seam a.given a.fixed) ∙ (λ i. take (few i) (ends i))
    ∙ take-append_seam b.given b.fixed in
    let fixed : a.fixed ≡ b.fixed = sym (drop-append_seam a.given a.fixed) ∙ (λ i. drop (few i) (ends i))
    ∙ drop-append_seam b.given b.fixed in
    let tells : a.tells ≡ b.tells = bit_same a.tells b.tells (ap (λ xs. (head xs).0) e) in
    λ i. record {
      tells = tells i;
      given = given i;
      fixed = fixed i;
      reads = (head (tail (e i))).0;
      changes = (head (tail (tail (e i)))).0;
    }

abbrev runs_of : List ℕ → List Run
runs_of [] = []
runs_of (first ∷ []) = []
runs_of (first ∷ end ∷ ends) = record { first = first; end = end } ∷ runs_of ends

runs_back : (runs : List Run) → runs_of (ends_of runs) ≡ runs
runs_back [] = refl
runs_back (run ∷ runs) = ap (λ rest. run ∷ rest) (runs_back runs)

-- portions that are bound alike show the same runs, of a store of which the same was true
pub bound_same : (runs others : List Run) (a b : List (ℕ × List ℕ)) → bound_to runs a ≡ bound_to others b → (runs ≡ others) × (a ≡ b)
bound_same runs others a b e = (
  sym (runs_back runs) ∙ ap (λ xs. runs_of (head xs).1) e ∙ runs_back others,
  ap (λ xs. tail xs) e,
)

-- a portion that is bound as one that was just made of a store shows the same runs, and what is true of it is so since then
pub portion_since : {S : Type 0} (facts : store.Ghosts S) (s : S) (runs : List Run) (p : Portioned S) → IsPortion facts p
    → bound_to p.runs p.past ≡ bound_to runs (rows_of (facts_of facts s)) → (p.runs ≡ runs) × IsPortionSince facts (facts_of facts s) p
portion_since facts s runs p is e =
    let same = bound_same p.runs runs p.past (rows_of (facts_of facts s)) e in (
      same.0,
      subst (λ was. IsPortionSince facts was p) (rows_same is.0 (facts_of facts s) (sym is.1.past ∙ same.1)) is.1,
    )

-- the store below was then only read
pub below_read : {S : Type 0} (facts : store.Ghosts S) (s : S) (p : Portioned S) → IsPortionSince facts (facts_of facts s) p
    → facts.content p.store ≡ facts.content s → facts.changes p.store ≡ facts.changes s → facts.room p.store ≡ facts.room s
    → facts.size p.store ≡ facts.size s → facts.failures s ≤ facts.failures p.store → IsOnlyRead facts s p.store
below_read facts s p is content changes room size failures = record {
  content = content;
  changes = changes;
  room = room;
  later = record {
    tells = is.tells;
    size = size;
    fixed = is.fixed;
    gave = is.gave;
    failures = failures;
    reads = is.reads;
    changes = omega (arith, changes);
    room = omega (arith, room);
  };
}
