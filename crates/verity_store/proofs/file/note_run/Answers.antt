use Rattle.std.proofs.Common.{◌≡◌, ℕ, ◌+◌, ◌-◌, ◌*◌, List, [], ◌∷◌, ◌++◌, take, drop, refl, sym, ap, ◌∙◌, arith}
use Rattle.verity_store.proofs.RunLemmas.{run_step}
use Rattle.verity_store.proofs.file.note_run.Goals as goal

pub each-preserved : goal.each-preserved
each-preserved c =
    let j : ℕ = c.each.j in
    let first : ℕ = c.args.first in
    let size : ℕ = c.args.size in
    let out : List ℕ = c.args.out.now in
    let behind : List ℕ = drop (j * size) out in
    let width : j * size + size - j * size ≡ size = omega arith in
    c.note.ensures
    ∙ ap (λ rows. rows ++ (first + j, take (j * size + size - j * size) behind) ∷ []) c.each.invariant
    ∙ run_step c.args.given.now.blocks first size j out out (take (j * size + size - j * size) behind) (λ k lt. refl)
    (ap (λ n. take n behind) (sym width))
