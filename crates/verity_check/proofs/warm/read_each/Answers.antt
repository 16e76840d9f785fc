use Rattle.std.proofs.Common.{◌≡◌, ℕ, ◌+◌, ◌-◌, ◌*◌, ◌<◌, ◌≤◌, List, [], inl, inr, ◌∷◌, ◌++◌, length, drop, slice_index_or, get_or, sym, ap}
use Rattle.std.proofs.Common.{◌∙◌, subst, arith}
use Rattle.std.proofs.lemmas.Bool.{cases_lt}
use Rattle.std.proofs.lemmas.List.{length-take-le, length-drop}
use Rattle.std.proofs.Math.Nat.{mul-le-mul_right}
use Rattle.std.specs.Fork.{slice_chunk}
use borrow.Rule.Slice.PartMut.{put_mid}
use Rattle.verity_store.specs.Given.{GaveSince}
use Rattle.verity_store.specs.Stores.{IsLater}
use Rattle.verity_store.proofs.GivenLemmas.{goes_on_len, since_on, since_now}
use Rattle.verity_store.proofs.StoreLemmas.{only_read_then}
use Rattle.verity_store.proofs.RunLemmas.{chunk_below, chunk_here}
use Rattle.verity_check.proofs.warm.read_each.Goals as goal
use Rattle.verity_check.proofs.warm.read_each.Goals.{After-read}
use Rattle.verity_check.proofs.warm.read_each.Given.{Over}

-- what there is before the next block fits in front of it
before_it : (g : Over) (c : After-read g) → c.each.j * c.args.size ≤ length c.each.out
before_it g c = omega (
  arith,
  c.each.auto.out,
  c.requires.sized,
  mul-le-mul_right c.args.size (let le : c.each.j ≤ length c.args.numbers.now = omega arith in le),
)

-- the blocks that were read before stay where a read writes behind them
before : (g : Over) (c : After-read g) → (k : ℕ) → k < c.each.j
    → slice_chunk
    (put_mid (c.each.j * c.args.size) (c.each.j * c.args.size + c.args.size - c.each.j * c.args.size) c.each.out c.read.new.out)
    c.args.size k ≡ slice_chunk c.each.out c.args.size k
before g c k lt = chunk_below c.each.out c.read.new.out c.args.size k c.each.j
    (c.each.j * c.args.size + c.args.size - c.each.j * c.args.size) lt (before_it g c)

pub returns-in-Err-clause-given : goal.returns-in-Err-clause-given
returns-in-Err-clause-given g c = λ mark inside k lt.
    let S = g.S.BlockStore in
    subst (λ b. GaveSince (S.given c.read.new.self) mark (get_or c.args.numbers.now k 0) b)
    (sym (before g (goal.at.returns-in-Err-clause-given g c).After-read k lt))
    (since_on (S.given c.each.store) (S.given c.read.new.self) c.in-Err.ensures.gave mark (get_or c.args.numbers.now k 0)
    (slice_chunk c.each.out c.args.size k) (c.each.invariant.given mark inside k lt))

pub returns-in-Err-clause-right : goal.returns-in-Err-clause-right
returns-in-Err-clause-right g c = λ tells k lt.
    c.each.invariant.right tells k lt ∙ sym (before g (goal.at.returns-in-Err-clause-right g c).After-read k lt)

pub each-preserved : goal.each-preserved
each-preserved g c =
    let S = g.S.BlockStore in
    let size : ℕ = c.args.size in
    let j : ℕ = c.each.j in
    let inv = c.each.invariant in
    let read = c.in-Ok.ensures in
    let old : List ℕ = c.each.out in
    let ys : List ℕ = c.read.new.out in
    let new : List ℕ = put_mid (j * size) (j * size + size - j * size) old ys in
    let after = (goal.at.each-preserved g c).After-read in
    let n : ℕ = get_or c.args.numbers.now j 0 in
    let next : (j + 1) * size ≤ length c.args.numbers.now * size = mul-le-mul_right size (omega arith) in
    let width : j * size + size - j * size ≡ size = omega arith in
    let len : length ys ≡ size = c.read.auto.out ∙ length-take-le (j * size + size - j * size) (drop (j * size) old)
    (omega (arith, length-drop (j * size) old, c.each.auto.out, c.requires.sized, next)) ∙ width in
    let below : (k : ℕ) → k < j → slice_chunk new size k ≡ slice_chunk old size k = before g after in
    let here : slice_chunk new size j ≡ ys = chunk_here old ys size j (j * size + size - j * size) len (before_it g after) in
    let later : IsLater S c.each.store c.read.new.self =
    record {
      tells = read.tells;
      size = read.size;
      fixed = read.fixed;
      gave = read.gave;
      failures = read.failures;
      reads = omega (arith, read.counted);
      changes = omega (arith, read.changes);
      room = omega (arith, read.room);
    } in
    let given : S.given c.read.new.self ≡ S.given c.each.store ++ (n, ys) ∷ [] = read.given in
    record {
      given = λ mark inside k upto. elim (cases_lt k j) [
        | inl lt ↦
            subst (λ b. GaveSince (S.given c.read.new.self) mark (get_or c.args.numbers.now k 0) b) (sym (below k lt))
            (since_on (S.given c.each.store) (S.given c.read.new.self) read.gave mark (get_or c.args.numbers.now k 0)
            (slice_chunk old size k) (inv.given mark inside k lt))
        | inr ge ↦
            let e : j ≡ k = omega arith in
            subst (λ i. GaveSince (S.given c.read.new.self) mark (get_or c.args.numbers.now i 0) (slice_chunk new size i)) e
            (subst (λ b. GaveSince (S.given c.read.new.self) mark n b) (sym here)
            (subst (λ rows. GaveSince rows mark n ys) (sym given)
            (since_now (S.given c.each.store) mark n ys (omega (arith, inside, goes_on_len _ _ inv.read.later.gave)))))
      ];
      right = λ tells k upto. elim (cases_lt k j) [
        | inl lt ↦ inv.right tells k lt ∙ sym (below k lt)
        | inr ge ↦
            let e : j ≡ k = omega arith in
            subst (λ i. slice_index_or (S.content c.args.store.now) (get_or c.args.numbers.now i 0) [] ≡ slice_chunk new size i) e
            (ap (λ blocks. slice_index_or blocks n []) (sym inv.read.content) ∙ read.right (inv.read.later.tells ∙ tells) ∙ sym here)
      ];
      counted = omega (arith, read.counted, inv.counted);
      read = only_read_then S c.args.store.now c.each.store c.read.new.self inv.read
          (record { content = read.content; changes = read.changes; room = read.room; later = later });
    }
