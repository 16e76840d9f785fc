use Rattle.std.proofs.Common.{◌≡◌, ◌+◌, length, vec_len, ap, ◌∙◌, length-append, subst, arith, rules}
use Rattle.verity_superblock.specs.Image.{CanBegin, start_behind}
use Rattle.verity_edit.specs.Editing.{Editing}
use Rattle.verity_edit.specs.Opening.{IsOpened}
use Rattle.verity_edit.specs.Running.{AreAnswered}
use Rattle.verity_promise.specs.Closing.{IsClosed}
use Rattle.verity_promise.proofs.Closed.{on_ok, on_err, refused_unfailed, edited_by}
use Rattle.verity_promise.proofs.scratch.edit_from_scratch.Goals as goal

pub returns-clause-edited : goal.returns-clause-edited
returns-clause-edited g c =
    let D = g.D.BlockStore in
    let H = g.H.BlockStore in
    let d = c.args.data_store in
    let h = c.args.hash_store in
    let commands = c.args.commands.now in
    let opened : Editing g.row.D.Denot g.row.H.Denot = c.in-Ok.editor in
    let closed : Editing g.row.D.Denot g.row.H.Denot = c.run-done.new.self in
    let opens : IsOpened D H d h c.args.offset opened = c.in-Ok.ensures.opened in
    let runs : AreAnswered D H commands _ opened closed c.args.replies.now.items c.run-done.new.replies.items =
    c.run-done.ensures.answered in
    let was : vec_len c.args.replies.now ≡ length c.args.replies.now.items = search rules in
    let is : vec_len c.run-done.new.replies ≡ length c.run-done.new.replies.items = search rules in
    let grown : length c.run-done.new.replies.items ≡ length c.args.replies.now.items + length runs.added =
    ap length runs.replies ∙ length-append c.args.replies.now.items runs.added in
    let shut : IsClosed D H closed c.start_of-start.result c.run-done.result c.close-edited.result = c.close-edited.ensures in
    let size : c.block_size.result ≡ H.size h = c.block_size.ensures.value in
    let begins : c.start_of-start.result ≡ start_behind c.args.offset (H.size h) =
    subst (λ n. CanBegin c.args.offset n → c.start_of-start.result ≡ start_behind c.args.offset n) size c.start_of-start.ensures
    opens.can_begin in
    edited_by D H d h c.args.offset commands _ c.start_of-start.result _ _ opened closed opens c.in-Ok.ensures.reads runs
    c.close-edited.result shut.data_store shut.hash_store shut.root shut.fits shut.stands begins shut.table
    (on_ok c.run-done.result c.close-edited.result.done _ _ shut.done_is (λ e. omega (arith, e, runs.each)) c.run-done.ensures.all)
    (on_err c.run-done.result c.close-edited.result.done _ _ shut.done_is (λ e. omega (arith, e, runs.each, grown, was, is))
    c.run-done.ensures.short)

pub returns-in-Err-clause-refused : goal.returns-in-Err-clause-refused
returns-in-Err-clause-refused g c = record {
  fault = c.in-Err.ensures.refused;
  unfailed = refused_unfailed _ _ _ _ c.in-Err.refused.fault c.in-Err.ensures.fails;
  data_store = c.in-Err.ensures.data_store;
  hash_store = c.in-Err.ensures.hash_store;
}
