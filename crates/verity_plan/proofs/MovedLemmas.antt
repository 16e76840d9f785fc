-- How many blocks are read to move the levels of a tree.
use Rattle.std.proofs.Common.{◌≡◌, ℕ, suc, ◌+◌, ◌≤◌, min, eqb, ⊎_elim, ap, ◌∙◌, arith}
use Rattle.std.proofs.lemmas.Bool.{cases_eq, cond-false, ne_eqb}
use Rattle.verity_geometry.specs.Geometry.{Shape, IsShape, levels_of, len_of, start_of}
use Rattle.verity_geometry.specs.Laws.{Grows}
use Rattle.verity_geometry.proofs.OfShape.{starts_rise}
use Rattle.verity_plan.specs.Levels.{moved_at, moved_below, moved_blocks}
use Rattle.verity_plan.proofs.Sums.{sum_more, sum_most}

pub moved_below-more : (from to : Shape) (l next : ℕ) → next ≡ l + 1 → moved_below from to next ≡ moved_below from to l + moved_at from to l
moved_below-more from to l next is =
    let at : next ≡ suc l = omega arith in
    ap (moved_below from to) at ∙ sum_more (moved_at from to) l

pub moved_below-most : (from to : Shape) (a b : ℕ) → a ≤ b → moved_below from to a ≤ moved_below from to b
moved_below-most from to a b low = sum_most (moved_at from to) a b low

-- what is read of one level: nothing where it stays, and its blocks where it is moved
pub reads_level : (from to : Shape) (l count old new : ℕ) → count ≤ min (len_of from l) (len_of to l)
    → (start_of from l ≡ start_of to l → new ≡ old) → new ≤ old + count → new ≤ old + moved_at from to l
reads_level from to l count old new few stays most =
    ⊎_elim
    (λ same. let is = stays same in omega arith)
    (λ apart.
    let is : moved_at from to l ≡ min (len_of from l) (len_of to l) =
    cond-false (eqb (start_of from l) (start_of to l)) 0 (min (len_of from l) (len_of to l)) (ne_eqb (start_of from l) (start_of to l)
    apart) in omega arith)
    (cases_eq (start_of from l) (start_of to l))

-- the levels that both trees have are those of the smaller one
pub moved_apart_all : (small large : Shape) → IsShape small → Grows small large → moved_below small large (levels_of small)
    ≡ moved_blocks small large
moved_apart_all small large ok grown =
    let more = (starts_rise small large ok grown).levels in
    let at : levels_of small ≡ min (levels_of small) (levels_of large) = omega arith in
    ap (moved_below small large) at

pub moved_together_all : (small large : Shape) → IsShape small → Grows small large → moved_below large small (levels_of small)
    ≡ moved_blocks large small
moved_together_all small large ok grown =
    let more = (starts_rise small large ok grown).levels in
    let at : levels_of small ≡ min (levels_of large) (levels_of small) = omega arith in
    ap (moved_below large small) at
