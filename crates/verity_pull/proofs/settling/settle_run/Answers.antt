use Rattle.std.proofs.Common.{◌≡◌, ◌+◌, ◌<◌, ◌≤◌, suc, ℕ, inl, inr, [], length, get_or, refl, sym, ap, subst, ◌∙◌, arith}
use Rattle.verity_chain.specs.Table.{Table}
use Rattle.verity_chain.proofs.ChainLemmas.{same_here}
use Rattle.verity_profile.proofs.Bounds.{block_count_high}
use Rattle.verity_pull.specs.Walk.{IsTaken}
use Rattle.verity_pull.specs.Over.{rooted, IsOldName}
use Rattle.verity_pull.proofs.StepLemmas.{err_back, err_here, wrong_weaker}
use Rattle.verity_pull.proofs.TakeLemmas.{taken_fetched}
use Rattle.verity_pull.proofs.SettleLemmas.{parent_one, above_same, stood_rows, stood_path, taken_by, mixed_by, wrong_by, kept_one}
use Rattle.verity_pull.proofs.settling.settle_run.Goals as goal

pub pull_run-requires-clause-rows : goal.pull_run-requires-clause-rows
pull_run-requires-clause-rows g c =
    let e = c.stand.ensures in
    stood_rows c.args.tree.now c.args.n c.args.rows.now c.stand.new.rows e.len e.first e.others c.requires.rows

pub pull_run-requires-clause-path : goal.pull_run-requires-clause-path
pull_run-requires-clause-path g c =
    let e = c.stand.ensures in
    stood_path c.args.tree.now c.args.n c.args.rows.now c.stand.new.rows e.len e.first e.others c.requires.path

pub pull_run-requires-clause-blank : goal.pull_run-requires-clause-blank
pull_run-requires-clause-blank g c = λ q from behind low. absurd (omega (arith, behind, low, c.requires.held))

pub returns-clause-hash_rows : goal.returns-clause-hash_rows
returns-clause-hash_rows g c = λ v.
    let e = c.stand.ensures in
    c.in_ok-next.ensures.hash_rows v ∙ above_same c.args.tree.now c.args.n c.args.rows.now c.stand.new.rows e.len e.first e.others v

pub returns-clause-parent : goal.returns-clause-parent
returns-clause-parent g c = λ j from upto some.
    let e = c.stand.ensures in
    ap (λ (k : Rattle.verity_report.specs.Descent.Known). k.seen)
    (sym (above_same c.args.tree.now c.args.n c.args.rows.now c.stand.new.rows e.len e.first e.others 0))
    ∙ c.in_ok-next.ensures.parent j from upto some

pub returns-clause-taken : goal.returns-clause-taken
returns-clause-taken g c = λ local_mark source_mark local_marked marked j from upto.
    let e = c.stand.ensures in
    (taken_by g.L.BlockStore g.S.BlockStore c.args.tree.now local_mark source_mark c.pull_run.new.local c.pull_run.new.source
    c.args.rows.now c.stand.new.rows
    (above_same c.args.tree.now c.args.n c.args.rows.now c.stand.new.rows e.len e.first e.others) j
    (c.in_ok-next.ensures.taken local_mark source_mark local_marked marked j from upto))

pub returns-in_err-next-clause-mixed : goal.returns-in_err-next-clause-mixed
returns-in_err-next-clause-mixed g c =
    let e = c.stand.ensures in
    let back = err_back c.from_residual.result c.in_err-next.field-0.0 c.from_residual.ensures.1 in
    err_here c.from_residual.result c.in_err-next.field-0.0 _ back (λ isnt local_mark source_mark local_marked marked q.
    mixed_by g.L.BlockStore g.S.BlockStore c.args.tree.now local_mark source_mark c.args.local.now c.pull_run.new.local
    c.pull_run.new.source c.args.rows.now c.stand.new.rows
    (above_same c.args.tree.now c.args.n c.args.rows.now c.stand.new.rows e.len e.first e.others) q
    (c.in_err-next.ensures.mixed isnt local_mark source_mark local_marked marked q))

pub returns-in_err-next-clause-wrong : goal.returns-in_err-next-clause-wrong
returns-in_err-next-clause-wrong g c =
    let e = c.stand.ensures in
    let back = err_back c.from_residual.result c.in_err-next.field-0.0 c.from_residual.ensures.1 in
    err_here c.from_residual.result c.in_err-next.field-0.0 _ back
    (wrong_weaker c.in_err-next.field-0.0 _ _ (λ here w mark marked.
    wrong_by g.S.BlockStore c.args.tree.now mark c.pull_run.new.source c.args.rows.now c.stand.new.rows
    (above_same c.args.tree.now c.args.n c.args.rows.now c.stand.new.rows e.len e.first e.others) here (w mark marked))
    c.in_err-next.ensures.wrong)
