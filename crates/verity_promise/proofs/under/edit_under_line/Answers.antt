use Rattle.std.proofs.Common.{◌≡◌, ◌<◌, ◌+◌, ◌-◌, length, vec_len, ap, ◌∙◌, length-append, refl, arith, rules}
use Rattle.verity_trusted.specs.Line.{LineEditing, IsOpenedUnder}
use Rattle.verity_promise.specs.OnTheWay.{AreAnsweredUnder, IsClosedUnder}
use Rattle.verity_promise.proofs.Closed.{on_ok, on_err}
use Rattle.verity_promise.proofs.UnderLemmas.{edited_under}
use Rattle.verity_promise.proofs.under.edit_under_line.Goals as goal

pub returns-clause-edited : goal.returns-clause-edited
returns-clause-edited g c =
    let D = g.D.BlockStore in
    let H = g.H.BlockStore in
    let d = c.args.data_store in
    let h = c.args.hash_store in
    let commands = c.args.commands.now in
    let old = c.args.replies.now in
    let new = c.run_under-editor.new.replies in
    let opened : LineEditing g.row.D.Denot g.row.H.Denot = c.in-Ok.editor in
    let closed : LineEditing g.row.D.Denot g.row.H.Denot = c.run_under-editor.result.0 in
    let opens : IsOpenedUnder D H d h c.args.table opened = c.in-Ok.ensures.opened in
    let runs : AreAnsweredUnder D H commands (vec_len new - vec_len old) opened closed old.items new.items =
    c.run_under-editor.ensures.answered in
    let was : vec_len old ≡ length old.items = search rules in
    let is : vec_len new ≡ length new.items = search rules in
    let grown : length new.items ≡ length old.items + length runs.added = ap length runs.replies ∙ length-append old.items runs.added in
    let done = c.run_under-editor.result.1 in
    let shut : IsClosedUnder D H closed done c.close_under.result = c.close_under.ensures in
    edited_under D H d h c.args.table commands (vec_len new - vec_len old) old.items new.items opened closed opens runs done
    c.close_under.result shut
    (on_ok done done (vec_len new ≡ vec_len old + length commands) (vec_len new - vec_len old ≡ length commands) refl
    (λ e. omega (arith, e)) c.run_under-editor.ensures.all)
    (on_err done done (vec_len new < vec_len old + length commands) (vec_len new - vec_len old < length commands) refl
    (λ e. omega (arith, e, runs.each, grown, was, is)) c.run_under-editor.ensures.short)
