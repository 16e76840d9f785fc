use Rattle.std.proofs.Common.{◌≡◌, ℕ, ◌+◌, ◌-◌, length, arith, sym, ap, ◌∙◌}
use Rattle.std.proofs.lemmas.List.{get_or_default}
use Rattle.verity_pending.specs.Children.{Listed, digest_among}
use Rattle.verity_pending.specs.Slots.{nobody, child_at}
use Rattle.verity_pending.proofs.ChildLemmas.{length_all, at_run, at_behind}
use Rattle.verity_pending.proofs.children.Children.at.Goals as goal

pub overflow_add-number : goal.overflow_add-number
overflow_add-number g c =
    let inside = c.if-place-run.true in let few = c.self.invariant.few in omega arith

pub returns-then-place-run : goal.returns-then-place-run
returns-then-place-run g c =
    let s = c.self.inside in
    let n : ℕ = s.from + (c.args.c - s.before) in
    let digest : c.digest_among.result ≡ digest_among s.named.items s.common n =
    c.digest_among.ensures ∙ ap (λ named. digest_among named s.common n) c.deref.ensures.value in
    (λ i. record { number = n; digest = digest i })
    ∙ sym (at_run s.named.items s.common s.before s.from s.to s.behind.items c.args.c n c.self.invariant.before (omega arith) (omega arith)
    (omega arith))
    ∙ ap (λ (x : Listed). child_at x.items c.args.c) c.self.view_is

pub index-requires-2 : goal.index-requires-2
index-requires-2 g c =
    let s = c.self.inside in
    let all = length_all s.named.items s.common s.before s.from s.to s.behind.items c.self.invariant.before in
    let same = ap (λ (x : Listed). length x.items) c.self.view_is in
    let inside = c.requires in
    let past = c.if-place-run.false in
    let low = c.if-c-self.false in
    omega arith

pub returns : goal.returns
returns g c =
    let s = c.self.inside in
    let low = c.if-c-self.false in
    let past = c.if-place-run.false in
    let k = c.self.invariant in
    c.index-2.ensures
    ∙ get_or_default s.behind.items (c.args.c - s.before - (s.to - s.from)) c.index-2.result.now nobody
    (let all = length_all s.named.items s.common s.before s.from s.to s.behind.items c.self.invariant.before in
    let same = ap (λ (x : Listed). length x.items) c.self.view_is in let inside = c.requires in omega arith)
    ∙ sym (at_behind s.named.items s.common s.before s.from s.to s.behind.items c.args.c k.before (omega arith) (omega arith))
    ∙ ap (λ (x : Listed). child_at x.items c.args.c) c.self.view_is
