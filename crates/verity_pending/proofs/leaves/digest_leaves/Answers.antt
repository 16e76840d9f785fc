use Rattle.std.proofs.Common.{◌≡◌, ℕ, ◌+◌, ◌-◌, ◌≤◌, List, length, take, drop, map, ap, ◌∙◌, arith}
use Rattle.std.proofs.lemmas.List.{length-take-le, length-drop}
use Rattle.verity_digest.specs.Hash.{Salted}
use Rattle.verity_pending.specs.declared.child.Child.{Child}
use Rattle.verity_pending.specs.Leaves.{hashed_leaf}
use Rattle.verity_pending.proofs.LeafLemmas.{run_made}
use Rattle.verity_pending.proofs.leaves.digest_leaves.Goals as goal

pub runs-preserved : goal.runs-preserved
runs-preserved g c =
    let kept = c.runs.invariant in
    let ran = c.digest_run.ensures in
    let xs : List Child = c.args.leaves.now in
    let ys : List Child = c.runs.leaves in
    let done : ℕ = c.runs.done in
    let count : ℕ = c.min-count.result in
    let make : Salted → Child → Child = λ salted child. hashed_leaf salted c.args.written.now.entries c.args.zero.now child.number in
    let fits : done + count ≤ length xs = omega (arith, c.min-count.ensures, c.runs.auto.leaves) in
    let part : length (take (done + count - done) (drop done ys)) ≡ count =
    length-take-le (done + count - done) (drop done ys) (omega (arith, length-drop done ys, c.runs.auto.leaves)) ∙ (omega arith) in
    record {
      within = fits;
      made = run_made (make c.args.hasher.now.salted) xs ys c.digest_run.new.leaves done count (done + count - done) fits
          kept.made (omega arith)
          (ran.made ∙ ap (λ s. map (make s) (take (done + count - done) (drop done ys))) kept.salted);
      salted = ran.salted ∙ kept.salted;
      hashed = omega (arith, ran.hashed, kept.hashed, part);
    }
