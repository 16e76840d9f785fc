-- What a store of checked blocks is bound to says which table line it is under, and which store it was made over.
use Rattle.std.proofs.Common.{ℕ, ◌≡◌, ◌++◌, Bool, true, false, List, [], ◌∷◌, length, map, take, drop, refl, sym, ap, ◌∙◌, arith}
use Rattle.std.specs.Prelude.{if◌then◌else◌}
use Rattle.std.proofs.Math.Seq.{take-append_seam, drop-append_seam}
use Rattle.std.proofs.lemmas.List.{length-map}
use Rattle.verity_digest.specs.Hash.{size_of}
use Rattle.verity_digest.specs.declared.algorithm.Algorithm.{Algorithm}
use Rattle.verity_digest.specs.declared.algorithm.Algorithm.TheVariants.{Sha256, Sha512}
use Rattle.verity_chain.specs.Table.{Table}
use Rattle.verity_chain.specs.Origin.{StoreFacts, rows_of}
use Rattle.verity_chain.specs.Checked.{bound_to}

abbrev head : List (ℕ × List ℕ) → ℕ × List ℕ
head [] = (0, [])
head (x ∷ xs) = x

abbrev tail : List (ℕ × List ℕ) → List (ℕ × List ℕ)
tail [] = []
tail (x ∷ xs) = xs

abbrev bit : Bool → ℕ
bit b = if b then 1 else 0

bit_same : (a b : Bool) → bit a ≡ bit b → a ≡ b
bit_same true true e = refl
bit_same true false e = absurd (omega (arith, e))
bit_same false true e = absurd (omega (arith, e))
bit_same false false e = refl

algorithm_same : (a b : Algorithm) → size_of a ≡ size_of b → a ≡ b
algorithm_same Sha256 Sha256 e = refl
algorithm_same Sha256 Sha512 e = absurd (omega (arith, e))
algorithm_same Sha512 Sha256 e = absurd (omega (arith, e))
algorithm_same Sha512 Sha512 e = refl

rows_back : (blocks : List (List ℕ)) → map (λ (r : ℕ × List ℕ). r.1) (map (λ (block : List ℕ). (0, block)) blocks) ≡ blocks
rows_back [] = refl
rows_back (block ∷ blocks) = ap (λ rest. block ∷ rest) (rows_back blocks)

-- the rows of what was true of a store say what was true of it
pub rows_same : (a b : StoreFacts) → rows_of a ≡ rows_of b → a ≡ b
rows_same a b e =
    let end : StoreFacts → List (ℕ × List ℕ) = λ s. s.given ++ s.fixed in
    let front : StoreFacts → List (ℕ × List ℕ) = λ s. map (λ (block : List ℕ). (0, block)) s.content in
    let many : length a.content ≡ length b.content = ap (λ xs. (head (tail (tail (tail (tail (tail (tail xs))))))).0) e in
    let few : length a.given ≡ length b.given = ap (λ xs. (head (tail (tail (tail (tail (tail (tail (tail xs)))))))).0) e in
    let rest : front a ++ end a ≡ front b ++ end b = ap (λ xs. tail (tail (tail (tail (tail (tail (tail (tail xs)))))))) e in
    let long : length (front a) ≡ length (front b) = length-map a.content (λ (block : List ℕ). (0, block)) ∙ many
    ∙ sym (length-map b.content (λ (block : List ℕ). (0, block))) in
    let fronts : front a ≡ front b = sym (take-append_seam (front a) (end a)) ∙ (λ i. take (long i) (rest i))
    ∙ take-append_seam (front b) (end b) in
    let ends : end a ≡ end b = sym (drop-append_seam (front a) (end a)) ∙ (λ i. drop (long i) (rest i))
    ∙ drop-append_seam (front b) (end b) in
    let content : a.content ≡ b.content = sym (rows_back a.content) ∙ ap (λ rows. map (λ (r : ℕ × List ℕ). r.1) rows) fronts
    ∙ rows_back b.content in
    let given : a.given ≡ b.given = sym (take-append_seam a.given a.fixed) ∙ (λ i. take (few i) (ends i))
    ∙ take-append_seam b.given b.fixed in
    let fixed : a.fixed ≡ b.fixed = sym (drop-append_seam a.given a.fixed) ∙ (λ i. drop (few i) (ends i))
    ∙ drop-append_seam b.given b.fixed in
    let tells : a.tells ≡ b.tells = bit_same a.tells b.tells (ap (λ xs. (head (tail xs)).0) e) in
    λ i. record {
      content = content i;
      given = given i;
      fixed = fixed i;
      tells = tells i;
      size = (head (e i)).0;
      failures = (head (tail (tail (e i)))).0;
      reads = (head (tail (tail (tail (e i))))).0;
      room = (head (tail (tail (tail (tail (e i)))))).0;
      changes = (head (tail (tail (tail (tail (tail (e i))))))).0;
    }

-- they are bound alike to one table line and to one store
pub bound_same : (t u : Table) (a b : List (ℕ × List ℕ)) → bound_to t a ≡ bound_to u b → (t ≡ u) × (a ≡ b)
bound_same t u a b e = (
  λ i. record {
    dev = (head (tail (tail (e i)))).1;
    hash_dev = (head (tail (tail (tail (e i))))).1;
    data_block_size = (head (tail (e i))).0;
    hash_block_size = (head (tail (tail (e i)))).0;
    data_blocks = (head (tail (tail (tail (e i))))).0;
    hash_start_block = (head (tail (tail (tail (tail (e i)))))).0;
    algorithm = algorithm_same t.algorithm u.algorithm (ap (λ xs. (head xs).0) e) i;
    root = (head (tail (e i))).1;
    salt = (head (e i)).1;
  },
  ap (λ xs. tail (tail (tail (tail (tail xs))))) e,
)
