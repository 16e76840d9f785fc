use Rattle.std.proofs.Common.{◌+◌, drop, arith}
use Rattle.verity_store.proofs.StoreLemmas.{only_read_same}
use Rattle.verity_report.proofs.DescentLemmas.{down_under, run_seen, run_rows, run_places}
use Rattle.verity_report.proofs.OwnLemmas.{own_same}
use Rattle.verity_report.proofs.siblings.look_at_run.Goals as goal

pub pass_over-requires-clause-under : goal.pass_over-requires-clause-under
pass_over-requires-clause-under g c =
    down_under c.args.tree.now c.requires.allowed c.args.n c.run_len-count.result c.args.rows.now c.requires.path
    (omega (arith, c.run_len-count.ensures.most, c.min.ensures, c.siblings-siblings.ensures.value))

pub look_ahead-requires-clause-under : goal.look_ahead-requires-clause-under
look_ahead-requires-clause-under g c =
    down_under c.args.tree.now c.requires.allowed c.args.n c.run_len-count.result c.args.rows.now c.requires.path
    (omega (arith, c.run_len-count.ensures.most, c.min.ensures, c.siblings-siblings.ensures.value))

pub returns-then-is_lost-clause-rows : goal.returns-then-is_lost-clause-rows
returns-then-is_lost-clause-rows g c =
    run_rows c.args.tree.now c.run_len-count.result c.args.rows.now c.pass_over.new.rows c.in_ok-pass_over.ensures.run c.requires.rows

pub returns-then-is_lost-clause-before : goal.returns-then-is_lost-clause-before
returns-then-is_lost-clause-before g c =
    run_seen c.args.tree.now c.requires.allowed c.args.n c.run_len-count.result c.args.rows.now c.pass_over.new.rows c.requires.path
    c.run_len-count.ensures.some (omega (arith, c.run_len-count.ensures.most, c.min.ensures, c.siblings-siblings.ensures.value))
    c.in_ok-pass_over.ensures.run

pub returns-then-is_lost-clause-found : goal.returns-then-is_lost-clause-found
returns-then-is_lost-clause-found g c = λ mark marked gave base other d.
    c.in_ok-pass_over.ensures.found (drop mark (g.D.BlockStore.given c.args.data_store.now)) gave base
    (g.D.BlockStore.failures c.args.data_store.now + other) d

pub returns-in_err-pass_over-clause-own : goal.returns-in_err-pass_over-clause-own
returns-in_err-pass_over-clause-own g c = own_same g.D.BlockStore c.args.data_store.now

pub returns-then-is_lost-clause-own : goal.returns-then-is_lost-clause-own
returns-then-is_lost-clause-own g c = own_same g.D.BlockStore c.args.data_store.now

pub returns-then-is_lost-clause-counted : goal.returns-then-is_lost-clause-counted
returns-then-is_lost-clause-counted g c =
    omega (
      arith,
      c.in_ok-pass_over.ensures.counted,
      run_places c.args.tree.now c.run_len-count.result c.args.rows.now c.pass_over.new.rows c.in_ok-pass_over.ensures.run,
    )

pub returns-clause-rows : goal.returns-clause-rows
returns-clause-rows g c =
    run_rows c.args.tree.now c.in_ok-looked.looked c.args.rows.now c.look_ahead.new.rows c.in_ok-looked.ensures.run c.requires.rows

pub returns-clause-before : goal.returns-clause-before
returns-clause-before g c =
    run_seen c.args.tree.now c.requires.allowed c.args.n c.in_ok-looked.looked c.args.rows.now c.look_ahead.new.rows c.requires.path
    c.in_ok-looked.ensures.some
    (omega (arith, c.in_ok-looked.ensures.most, c.run_len-count.ensures.most, c.min.ensures, c.siblings-siblings.ensures.value))
    c.in_ok-looked.ensures.run

pub returns-clause-counted : goal.returns-clause-counted
returns-clause-counted g c =
    omega (
      arith,
      c.in_ok-looked.ensures.counted,
      c.in_ok-looked.ensures.unchecked,
      run_places c.args.tree.now c.in_ok-looked.looked c.args.rows.now c.look_ahead.new.rows c.in_ok-looked.ensures.run,
    )

pub returns-in_err-pass_over-clause-keeps : goal.returns-in_err-pass_over-clause-keeps
returns-in_err-pass_over-clause-keeps g c = only_read_same g.D.BlockStore c.args.data_store.now

pub returns-then-is_lost-clause-keeps : goal.returns-then-is_lost-clause-keeps
returns-then-is_lost-clause-keeps g c = only_read_same g.D.BlockStore c.args.data_store.now

pub returns-clause-found : goal.returns-clause-found
returns-clause-found g c = c.in_ok-looked.ensures.found
