use Rattle.std.proofs.Common.{◌≡◌, ◌≢◌, ◌+◌, ◌<◌, ◌≤◌, ◌⊎◌, suc, ℕ, inl, inr, ⊎_elim, [], length, get_or, refl, sym, ap, subst, ◌∙◌, arith}
use Rattle.verity_pull.specs.Walk.{IsTaken}
use Rattle.verity_pull.specs.Over.{IsKeptData}
use Rattle.verity_pull.proofs.StepLemmas.{err_back, err_here, wrong_weaker}
use Rattle.verity_pull.proofs.SettleLemmas.{parent_one, kept_one, ok_weaker, wrong_one}
use Rattle.verity_pull.proofs.settling.settle.Goals as goal

pub returns-in-Some-clause-parent : goal.returns-in-Some-clause-parent
returns-in-Some-clause-parent g c = λ j from upto some.
    parent_one c.args.tree.now c.args.n j c.args.rows.now c.requires.path from (omega (arith, upto, c.in_ok-done-in-Some.ensures.one)) some

pub returns-in-Some-clause-taken : goal.returns-in-Some-clause-taken
returns-in-Some-clause-taken g c = λ local_mark source_mark local_marked marked j from upto.
    let L = g.L.BlockStore in
    let S = g.S.BlockStore in
    let t = c.args.tree.now in
    let e = c.in_ok-done-in-Some.ensures in
    let below : j < c.args.n + 1 = omega (arith, upto, e.one) in
    let same : c.args.n ≡ j = omega (arith, from, below) in
    ⊎_elim
    (λ taken. inl (subst (λ m. IsTaken L S t local_mark source_mark c.settle_named.new.local c.settle_named.new.source
    c.args.rows.now m) same
    taken))
    (λ kept. inr (kept_one t c.args.old.now.root c.args.rows.now c.args.old.now.rows (L.content c.args.local.now)
    (L.content c.settle_named.new.local) c.args.n j c.in-Some.was c.in-Some.was from below kept.0 c.in-Some.ensures refl
    (ap (λ blocks. get_or blocks c.args.n []) kept.1)))
    (e.taken local_mark source_mark marked)

pub returns-in-Some-clause-behind : goal.returns-in-Some-clause-behind
returns-in-Some-clause-behind g c = λ q from.
    c.in_ok-done-in-Some.ensures.others.1 q (λ z. omega (arith, z, from, c.in_ok-done-in-Some.ensures.one))

pub returns-in-Some-clause-front : goal.returns-in-Some-clause-front
returns-in-Some-clause-front g c =
    let e = c.in_ok-done-in-Some.ensures in
    (e.others.0, λ q lt. e.others.1 q (λ z. omega (arith, z, lt)))

pub returns-in_err-done-in-Some-clause-front : goal.returns-in_err-done-in-Some-clause-front
returns-in_err-done-in-Some-clause-front g c =
    let e = c.in_err-done-in-Some.ensures in
    (e.others.0, λ q lt. e.others.1 q (λ z. omega (arith, z, lt)))

pub returns-in_err-done-in-Some-clause-mixed : goal.returns-in_err-done-in-Some-clause-mixed
returns-in_err-done-in-Some-clause-mixed g c =
    let e = c.in_err-done-in-Some.ensures in
    let back = err_back c.from_residual.result c.in_err-done-in-Some.field-0.0 c.from_residual.ensures.1 in
    err_here c.from_residual.result c.in_err-done-in-Some.field-0.0 _ back (λ isnt local_mark source_mark local_marked marked q.
    inl (ap (λ blocks. get_or blocks q []) (e.untouched isnt)))

pub returns-in_err-done-in-Some-clause-wrong : goal.returns-in_err-done-in-Some-clause-wrong
returns-in_err-done-in-Some-clause-wrong g c =
    let back = err_back c.from_residual.result c.in_err-done-in-Some.field-0.0 c.from_residual.ensures.1 in
    err_here c.from_residual.result c.in_err-done-in-Some.field-0.0 _ back
    (wrong_weaker c.in_err-done-in-Some.field-0.0 _ _ (λ here w mark marked.
    wrong_one g.S.BlockStore c.args.tree.now mark c.settle_named.new.source c.args.rows.now c.args.n here c.requires.within c.requires.path
    (w mark marked)) c.in_err-done-in-Some.ensures.wrong)

pub returns-clause-taken : goal.returns-clause-taken
returns-clause-taken g c =
    ok_weaker c.settle_run.result _ _ (λ done taken local_mark source_mark local_marked marked j from upto.
    inl (taken local_mark source_mark local_marked marked j from upto)) c.settle_run.ensures.taken
