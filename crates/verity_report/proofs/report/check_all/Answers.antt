use Rattle.std.proofs.Common.{◌≡◌, rules, ◌+◌, ap, ◌∙◌, arith}
use Rattle.verity_report.specs.Stores.{held_in, gave_between, given_between, listed_in}
use Rattle.verity_report.proofs.OwnLemmas.{listed_given, listed_held}
use Rattle.verity_report.specs.Descent.{faults_below, known, seen_in}
use Rattle.verity_report.proofs.DescentLemmas.{report_given, report_told, so_far_later}
use Rattle.verity_store.proofs.StoreLemmas.{only_read_same}
use Rattle.verity_report.proofs.report.check_all.Goals as goal

pub returns-clause-given : goal.returns-clause-given
returns-clause-given g c =
    let D = g.D.BlockStore in
    let H = g.H.BlockStore in
    let t = c.args.tree.now in
    let d = c.args.data_store.now in
    let h = c.args.hash_store.now in
    let d' = c.go_through.new.data_store in
    let h' = c.go_through.new.hash_store in
    let e = c.in_ok-unchecked.ensures in
    let rows = c.go_through.new.rows in
    let base = D.failures c.args.data_store.now + H.failures c.args.hash_store.now in
    let now = D.failures c.go_through.new.data_store + H.failures c.go_through.new.hash_store in
    let given = given_between D H t d h d' h' in
    report_given t given rows c.in_ok-unchecked.unchecked base now c.new.result
    (so_far_later t (listed_in t (gave_between D d d') (gave_between H h h')) given
    (listed_given D H t d d' h h' e.data_keeps e.hash_keeps e.data_own e.hash_own) rows c.in_ok-unchecked.unchecked base now now
    (omega arith) e.found) e.seen (c.new.ensures ∙ c.in_ok-faults.ensures ∙ ap (faults_below rows) e.rows.len)

pub returns-clause-told : goal.returns-clause-told
returns-clause-told g c = λ both.
    let D = g.D.BlockStore in
    let H = g.H.BlockStore in
    let t = c.args.tree.now in
    let d = c.args.data_store.now in
    let h = c.args.hash_store.now in
    let d' = c.go_through.new.data_store in
    let h' = c.go_through.new.hash_store in
    let e = c.in_ok-unchecked.ensures in
    let rows = c.go_through.new.rows in
    let base = D.failures c.args.data_store.now + H.failures c.args.hash_store.now in
    let now = D.failures c.go_through.new.data_store + H.failures c.go_through.new.hash_store in
    report_told t (listed_in t (gave_between D d d') (gave_between H h h')) rows c.in_ok-unchecked.unchecked base now c.new.result
    e.found e.seen (c.new.ensures ∙ c.in_ok-faults.ensures ∙ ap (faults_below rows) e.rows.len) (held_in D H t d h)
    (listed_held D H t d d' h h' e.data_keeps e.hash_keeps e.data_own e.hash_own both)

pub returns-in_err-blank-clause-data_keeps : goal.returns-in_err-blank-clause-data_keeps
returns-in_err-blank-clause-data_keeps g c = only_read_same g.D.BlockStore c.args.data_store.now

pub returns-in_err-blank-clause-hash_keeps : goal.returns-in_err-blank-clause-hash_keeps
returns-in_err-blank-clause-hash_keeps g c = only_read_same g.H.BlockStore c.args.hash_store.now

pub go_through-requires-clause-unseen : goal.go_through-requires-clause-unseen
go_through-requires-clause-unseen g c = λ r low.
    let is : c.as_mut_slice-rows.result.now ≡ c.in_ok-blank.blank.items = search rules depth 1 in
    ap (λ rows. seen_in rows r) is ∙ c.in_ok-blank.ensures.seen r low

pub go_through-requires-clause-unlisted : goal.go_through-requires-clause-unlisted
go_through-requires-clause-unlisted g c = λ r low.
    let is : c.as_mut_slice-rows.result.now ≡ c.in_ok-blank.blank.items = search rules depth 1 in
    ap (λ rows. (known rows r).faults) is ∙ c.in_ok-blank.ensures.faults r low
