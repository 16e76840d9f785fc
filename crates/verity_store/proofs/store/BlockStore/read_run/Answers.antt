use Rattle.std.proofs.Common.{◌≡◌, ℕ, ◌+◌, ◌-◌, ◌*◌, ◌<◌, ◌≤◌, List, [], inl, inr, ◌∷◌, ◌++◌, length, drop, slice_index_or, sym, ap}
use Rattle.std.proofs.Common.{◌∙◌, subst, arith}
use Rattle.std.proofs.lemmas.Bool.{cases_lt}
use Rattle.std.proofs.lemmas.List.{length-take-le, length-drop}
use Rattle.std.proofs.Math.Nat.{mul-le-mul_left}
use Rattle.std.specs.Fork.{slice_chunk}
use borrow.Rule.Slice.PartMut.{put_mid}
use Rattle.verity_store.specs.Stores.{IsLater}
use Rattle.verity_store.proofs.StoreLemmas.{only_read_then, on_err_always}
use Rattle.verity_store.proofs.RunLemmas.{chunk_below, chunk_here, run_part, run_step}
use Rattle.verity_store.proofs.store.BlockStore.read_run.Goals as goal
use Rattle.verity_store.proofs.store.BlockStore.read_run.Goals.{After-read}
use Rattle.verity_store.proofs.store.BlockStore.read_run.Given.{Over}

-- the blocks that were read before stay where a read writes behind them
before : (g : Over) (c : After-read g) → (k : ℕ) → k < c.each.j
    → let size = c.block_size-size.result in
    let z = g.Self.BlockStore.size c.args.self.now in
    slice_chunk (put_mid (c.each.j * size) (c.each.j * size + size - c.each.j * size) c.each.out c.read.new.out) z k ≡ slice_chunk
    c.each.out z k
before g c k lt =
    let size : ℕ = c.block_size-size.result in
    let same : size ≡ g.Self.BlockStore.size c.args.self.now = c.block_size-size.ensures.value in
    let j : ℕ = c.each.j in
    let old : List ℕ = c.each.out in
    let ys : List ℕ = c.read.new.out in
    let new : List ℕ = put_mid (j * size) (j * size + size - j * size) old ys in
    let whole : j ≤ c.args.count = omega arith in
    let all : length old ≡ c.args.count * size = c.each.auto.out ∙ c.requires.sized ∙ ap (λ m. c.args.count * m) (sym same) in
    subst (λ m. slice_chunk new m k ≡ slice_chunk old m k) same (chunk_below old ys size k j (j * size + size - j * size) lt
    (omega (arith, all, mul-le-mul_left size whole)))

pub each-preserved : goal.each-preserved
each-preserved g c =
    let S = g.Self.BlockStore in
    let size : ℕ = c.block_size-size.result in
    let same : size ≡ S.size c.args.self.now = c.block_size-size.ensures.value in
    let z : ℕ = S.size c.args.self.now in
    let j : ℕ = c.each.j in
    let first : ℕ = c.args.first in
    let kept = c.each.invariant in
    let read = c.in_ok-read.ensures in
    let old : List ℕ = c.each.out in
    let ys : List ℕ = c.read.new.out in
    let new : List ℕ = put_mid (j * size) (j * size + size - j * size) old ys in
    let whole : j + 1 ≤ c.args.count = omega arith in
    let all : length old ≡ c.args.count * size = c.each.auto.out ∙ c.requires.sized ∙ ap (λ m. c.args.count * m) (sym same) in
    let fits : j * size + size ≤ length old = omega (arith, all, mul-le-mul_left size whole) in
    let width : j * size + size - j * size ≡ size = omega arith in
    let len : length ys ≡ size = c.read.auto.out ∙ length-take-le (j * size + size - j * size) (drop (j * size) old)
    (omega (arith, length-drop (j * size) old)) ∙ width in
    let below : (k : ℕ) → k < j → slice_chunk new z k ≡ slice_chunk old z k = before g (goal.at.each-preserved g c).After-read in
    let here : slice_chunk new z j ≡ ys = subst (λ m. slice_chunk new m j ≡ ys) same
    (chunk_here old ys size j (j * size + size - j * size) len (omega arith)) in
    let later : IsLater S c.each.self c.read.new.self =
    record {
      tells = read.tells;
      size = read.size;
      fixed = read.fixed;
      gave = read.gave;
      failures = read.failures;
      reads = omega (arith, read.counted);
      changes = omega (arith, read.changes);
      room = omega (arith, read.room);
    } in
    record {
      given = read.given ∙ ap (λ rows. rows ++ (first + j, ys) ∷ []) kept.given ∙ run_step (S.given c.args.self.now) first z j old
          new ys below here;
      right = λ tells k upto. elim (cases_lt k j) [
        | inl lt ↦ kept.right tells k lt ∙ sym (below k lt)
        | inr ge ↦
            let e : j ≡ k = omega arith in
            subst (λ i. slice_index_or (S.content c.args.self.now) (first + i) [] ≡ slice_chunk new z i) e
            (ap (λ blocks. slice_index_or blocks (first + j) []) (sym kept.read.content)
            ∙ read.right (kept.read.later.tells ∙ tells) ∙ sym here)
      ];
      unfailed = read.unfailed ∙ kept.unfailed;
      counted = omega (arith, read.counted, kept.counted);
      read = only_read_then S c.args.self.now c.each.self c.read.new.self kept.read
          (record { content = read.content; changes = read.changes; room = read.room; later = later });
    }

pub returns-in_err-read-clause-given_most : goal.returns-in_err-read-clause-given_most
returns-in_err-read-clause-given_most g c =
    let S = g.Self.BlockStore in
    on_err_always c.from_residual.result _
    (run_part (S.given c.args.self.now) (S.given c.read.new.self) c.args.first (S.size c.args.self.now) c.args.count c.each.j
    c.each.out _ (omega arith)
    (before g (goal.at.returns-in_err-read-clause-given_most g c).After-read) (c.in_err-read.ensures.ungiven ∙ c.each.invariant.given))
