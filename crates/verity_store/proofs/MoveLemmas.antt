-- Lemmas on runs that are moved block by block.
use Rattle.std.proofs.Common.{◌≡◌, ℕ, ◌+◌, ◌-◌, ◌<◌, ◌≤◌, List, [], get_or, ⊎_elim, inl, inr, sym, ap, ◌∙◌, arith}
use Rattle.std.proofs.lemmas.Bool.{cases_lt}
use Rattle.verity_store.specs.Moves.{IsMoved, ChangesWithin}

-- what lies outside a run lies outside each of its parts
pub ChangesWithin-part : (a m b n : ℕ) (old new : List (List ℕ)) → a ≤ b → b + n ≤ a + m → ChangesWithin b n old new →
    ChangesWithin a m old new
ChangesWithin-part a m b n old new low high c = (
  c.0,
  λ k outside. c.1 k (⊎_elim (λ before. let h : k < b = omega arith in inl h) (λ behind. let h : b + n ≤ k = omega arith in
      inr h) outside),
)

pub ChangesWithin-then : (a m : ℕ) (old now new : List (List ℕ)) → ChangesWithin a m old now → ChangesWithin a m now new →
    ChangesWithin a m old new
ChangesWithin-then a m old now new c d = (d.0 ∙ c.0, λ k outside. d.1 k outside ∙ c.1 k outside)

pub moved_down_more : (from to n : ℕ) (old now new : List (List ℕ)) → to < from → IsMoved from to n old now → ChangesWithin to n old now
    → IsMoved (from + n) (to + n) 1 now new → ChangesWithin (to + n) 1 now new → IsMoved from to (n + 1) old new
moved_down_more from to n old now new down moved others one other = λ i below.
    ⊎_elim
    (λ before. let out : to + i < to + n = omega arith in other.1 (to + i) (inl out) ∙ moved i before)
    (λ here.
    let is : i ≡ n = omega arith in
    let t : to + n + 0 ≡ to + i = omega arith in
    let f : from + n + 0 ≡ from + i = omega arith in
    let out : to + n ≤ from + i = omega arith in
    ap (λ k. get_or new k []) (sym t) ∙ one 0 (omega arith) ∙ ap (λ k. get_or now k []) f ∙ others.1 (from + i) (inr out))
    (cases_lt i n)

-- left is one more than rest: block rest is moved, when those behind it are
pub moved_up_more : (from to count left rest : ℕ) (old now new : List (List ℕ)) → from ≤ to → left ≡ rest + 1 → left ≤ count
    → IsMoved (from + left) (to + left) (count - left) old now → ChangesWithin (to + left) (count - left) old now
    → IsMoved (from + rest) (to + rest) 1 now new → ChangesWithin (to + rest) 1 now new →
    IsMoved (from + rest) (to + rest) (count - rest) old new
moved_up_more from to count left rest old now new up is low moved others one other = λ i below.
    ⊎_elim
    (λ behind.
    let t : to + left + (i - 1) ≡ to + rest + i = omega arith in
    let f : from + left + (i - 1) ≡ from + rest + i = omega arith in
    let out : to + rest + 1 ≤ to + rest + i = omega arith in
    other.1 (to + rest + i) (inr out) ∙ ap (λ k. get_or now k []) (sym t) ∙ moved (i - 1) (omega arith) ∙ ap (λ k. get_or old k []) f)
    (λ first.
    let z : to + rest + 0 ≡ to + rest + i = omega arith in
    let f : from + rest + 0 ≡ from + rest + i = omega arith in
    let out : from + rest + i < to + left = omega arith in
    ap (λ k. get_or new k []) (sym z) ∙ one 0 (omega arith) ∙ ap (λ k. get_or now k []) f ∙ others.1 (from + rest + i) (inl out))
    (cases_lt 0 i)
