use Rattle.std.proofs.Common.{rules, ◌≡◌, ℕ, ◌+◌, ◌-◌, ◌*◌, ◌<◌, ◌≤◌, List, [], inl, inr, length, drop, slice_index_or, sym, ap, ◌∙◌}
use Rattle.std.proofs.Common.{subst, arith}
use Rattle.std.proofs.lemmas.Bool.{cases_lt}
use Rattle.std.proofs.lemmas.List.{length-take-le, length-drop}
use Rattle.std.proofs.Math.Nat.{mul-le-mul_left}
use Rattle.std.specs.Fork.{slice_chunk}
use borrow.Rule.Slice.PartMut.{put_mid}
use Rattle.verity_store.specs.Given.{GaveSince}
use Rattle.verity_store.proofs.GivenLemmas.{goes_on_len, since_on, since_now}
use Rattle.verity_store.specs.Stores.{IsLater}
use Rattle.verity_store.proofs.StoreLemmas.{only_read_then}
use Rattle.verity_chain.proofs.ChainLemmas.{ok_here}
use Rattle.verity_store.proofs.RunLemmas.{chunk_below, chunk_here}
use Rattle.verity_report.proofs.OwnLemmas.{own_then, own_one}
use Rattle.verity_report.proofs.ahead.read_ahead.Goals as goal

pub each-preserved : goal.each-preserved
each-preserved g c =
    let S = g.S.BlockStore in
    let size : ℕ = c.block_size-size.result in
    let same : size ≡ S.size c.args.store.now = c.block_size-size.ensures.value in
    let z : ℕ = S.size c.args.store.now in
    let j : ℕ = c.each.j in
    let first : ℕ = c.args.first in
    let kept = c.each.invariant in
    let read = c.read.ensures in
    let old : List ℕ = c.each.out in
    let ys : List ℕ = c.read.new.out in
    let new : List ℕ = put_mid (j * size) (j * size + size - j * size) old ys in
    let whole : j + 1 ≤ c.args.count = omega arith in
    let all : length old ≡ c.args.count * size = c.each.auto.out ∙ c.requires.sized ∙ ap (λ m. c.args.count * m) (sym same) in
    let fits : j * size + size ≤ length old = omega (arith, all, mul-le-mul_left size whole) in
    let width : j * size + size - j * size ≡ size = omega arith in
    let len : length ys ≡ size = c.read.auto.out
    ∙ length-take-le (j * size + size - j * size) (drop (j * size) old) (omega (arith, length-drop (j * size) old)) ∙ width in
    let below : (k : ℕ) → k < j → slice_chunk new z k ≡ slice_chunk old z k = λ k lt.
    subst (λ m. slice_chunk new m k ≡ slice_chunk old m k) same
    (chunk_below old ys size k j (j * size + size - j * size) lt (omega arith)) in
    let here : slice_chunk new z j ≡ ys =
    subst (λ m. slice_chunk new m j ≡ ys) same (chunk_here old ys size j (j * size + size - j * size) len (omega arith)) in
    let later : IsLater S c.each.store c.read.new.self =
    record {
      tells = read.tells;
      size = read.size;
      fixed = read.fixed;
      gave = read.gave;
      failures = read.failures;
      reads =
          omega (arith, read.counted);
      changes = omega (arith, read.changes);
      room = omega (arith, read.room);
    } in
    let log : List (ℕ × List ℕ) = S.given c.read.new.self in
    let now : (mark : ℕ) → mark ≤ length (S.given c.args.store.now) → GaveSince log mark (first + j) ys = λ mark marked.
    subst (λ rows. GaveSince rows mark (first + j) ys) (sym (ok_here c.read.result _ read.given c.if-is_err.ensures.value))
    (since_now (S.given c.each.store) mark (first + j) ys (omega (arith, marked, goes_on_len _ _ kept.read.later.gave))) in
    record {
      given = λ mark marked k upto. elim (cases_lt k j) [
        | inl lt ↦ subst (λ b. GaveSince log mark (first + k) b) (sym (below k lt))
            (since_on (S.given c.each.store) log read.gave mark (first + k) _ (kept.given mark marked k lt))
        | inr ge ↦
            let e : j ≡ k = omega arith in
            subst (λ i. GaveSince log mark (first + i) (slice_chunk new z i)) e
            (subst (λ b. GaveSince log mark (first + j) b) (sym here) (now mark marked))
      ];
      right = λ tells k upto. elim (cases_lt k j) [
        | inl lt ↦ kept.right tells k lt ∙ sym (below k lt)
        | inr ge ↦
            let e : j ≡ k = omega arith in
            subst (λ i. slice_index_or (S.content c.args.store.now) (first + i) [] ≡ slice_chunk new z i) e
            (ap (λ blocks. slice_index_or blocks (first + j) []) (sym kept.read.content)
            ∙ ok_here c.read.result _ read.right c.if-is_err.ensures.value (kept.read.later.tells ∙ tells) ∙ sym here)
      ];
      own = own_then S c.args.store.now c.each.store c.read.new.self kept.read read.gave kept.own
          (own_one S c.each.store c.read.new.self (first + j) ys (ok_here c.read.result _ read.given c.if-is_err.ensures.value)
          (len ∙ same ∙ sym kept.read.later.size) (ok_here c.read.result _ read.right c.if-is_err.ensures.value));
      counted = omega (arith, read.counted, kept.counted);
      read = only_read_then S c.args.store.now c.each.store c.read.new.self kept.read
          (record { content = read.content; changes = read.changes; room = read.room; later = later });
    }

pub returns-then-is_err-clause-given : goal.returns-then-is_err-clause-given
returns-then-is_err-clause-given g c = λ mark marked k upto.
    let S = g.S.BlockStore in
    let size : ℕ = c.block_size-size.result in
    let same : size ≡ S.size c.args.store.now = c.block_size-size.ensures.value in
    let z : ℕ = S.size c.args.store.now in
    let j : ℕ = c.each.j in
    let old : List ℕ = c.each.out in
    let ys : List ℕ = c.read.new.out in
    let new : List ℕ = put_mid (j * size) (j * size + size - j * size) old ys in
    let whole : j + 1 ≤ c.args.count = omega arith in
    let all : length old ≡ c.args.count * size = c.each.auto.out ∙ c.requires.sized ∙ ap (λ m. c.args.count * m) (sym same) in
    let fits : j * size + size ≤ length old = omega (arith, all, mul-le-mul_left size whole) in
    let below : slice_chunk new z k ≡ slice_chunk old z k =
    subst (λ m. slice_chunk new m k ≡ slice_chunk old m k) same
    (chunk_below old ys size k j (j * size + size - j * size) upto (omega arith)) in
    subst (λ b. GaveSince (S.given c.read.new.self) mark (c.args.first + k) b) (sym below)
    (since_on (S.given c.each.store) (S.given c.read.new.self) c.read.ensures.gave mark (c.args.first + k) _
    (c.each.invariant.given mark marked k upto))

pub returns-then-is_err-clause-right : goal.returns-then-is_err-clause-right
returns-then-is_err-clause-right g c = λ tells k upto.
    let S = g.S.BlockStore in
    let size : ℕ = c.block_size-size.result in
    let same : size ≡ S.size c.args.store.now = c.block_size-size.ensures.value in
    let z : ℕ = S.size c.args.store.now in
    let j : ℕ = c.each.j in
    let old : List ℕ = c.each.out in
    let ys : List ℕ = c.read.new.out in
    let new : List ℕ = put_mid (j * size) (j * size + size - j * size) old ys in
    let whole : j + 1 ≤ c.args.count = omega arith in
    let all : length old ≡ c.args.count * size = c.each.auto.out ∙ c.requires.sized ∙ ap (λ m. c.args.count * m) (sym same) in
    let fits : j * size + size ≤ length old = omega (arith, all, mul-le-mul_left size whole) in
    let below : slice_chunk new z k ≡ slice_chunk old z k =
    subst (λ m. slice_chunk new m k ≡ slice_chunk old m k) same
    (chunk_below old ys size k j (j * size + size - j * size) upto (omega arith)) in
    c.each.invariant.right tells k upto ∙ sym below

pub returns-then-is_err-clause-counted : goal.returns-then-is_err-clause-counted
returns-then-is_err-clause-counted g c = search rules depth 0
