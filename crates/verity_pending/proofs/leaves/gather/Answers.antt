use Rattle.std.proofs.Common.{◌≡◌, ℕ, ◌+◌, ◌-◌, ◌*◌, ◌≤◌, List, inl, inr, length, ap, ◌∙◌, subst, arith}
use Rattle.std.proofs.lemmas.Bool.{cases_lt}
use Rattle.std.proofs.lemmas.List.{get_or_default}
use Rattle.std.proofs.Math.Nat.{mul-le-mul_left}
use Rattle.std.specs.Fork.{slice_chunk}
use borrow.Rule.Slice.PartMut.{put_mid}
use Rattle.verity_store.proofs.RunLemmas.{chunk_below, chunk_here}
use Rattle.verity_pending.specs.Leaves.{written_or}
use Rattle.verity_pending.specs.Slots.{nobody, child_at}
use Rattle.verity_pending.proofs.leaves.gather.Goals as goal

pub loop-j-preserved : goal.loop-j-preserved
loop-j-preserved g c = λ k upto.
    let size : ℕ = length c.args.zero.now in
    let j : ℕ = c.loop-j.j in
    let leaves = c.args.leaves.now in
    let old : List ℕ = c.loop-j.run in
    let ys : List ℕ = c.copy_from_slice.new.self in
    let width : ℕ = j * size + size - j * size in
    let block : ℕ → List ℕ = λ n. written_or c.args.written.now.entries c.args.zero.now n in
    let next : j + 1 ≤ length leaves = omega arith in
    let all : length old ≡ length leaves * size = c.loop-j.auto.run ∙ c.requires.room in
    let fits : j * size + size ≤ length old = omega (arith, all, mul-le-mul_left size next) in
    let named : ys ≡ block (child_at leaves j).number =
    c.copy_from_slice.ensures.after ∙ c.written_or.ensures
    ∙ ap (λ child. block child.number) (get_or_default leaves j c.index-leaves-j.result nobody (omega arith)) in
    let len : length ys ≡ size = ap length named ∙ c.requires.sized (child_at leaves j).number in
    elim (cases_lt k j) [
      | inl lt ↦ chunk_below old ys size k j width lt (omega arith) ∙ c.loop-j.invariant k lt
      | inr ge ↦
          let e : j ≡ k = omega arith in
          subst (λ m. slice_chunk (put_mid (j * size) width old ys) size m ≡ block (child_at leaves m).number) e
          (chunk_here old ys size j width len (omega arith) ∙ named)
    ]
