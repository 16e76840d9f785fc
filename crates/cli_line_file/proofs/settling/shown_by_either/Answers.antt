use Rattle.std.proofs.Common.{◌≡◌, false, true, inr}
use Rattle.std.proofs.lemmas.Result.{IfOk-weaker, IfErr-weaker}
use Rattle.cli_line_file.specs.Looking.{IsOf}
use Rattle.cli_line_file.proofs.Seeing.{another, shows_second, absent_by_second}
use Rattle.cli_line_file.proofs.settling.shown_by_either.Goals as goal

pub returns-clause-shown : goal.returns-clause-shown
returns-clause-shown g c =
    let a = c.args in
    let other = another g.S.System g.S.Store.BlockStore a.system.now a.data_path.now a.hash_path.now a.image.now a.device.now a.first.now
    c.in_ok-look.look c.in_ok-look.ensures.found
    (λ (of : IsOf c.in_ok-look.look a.first.now). let is : false ≡ true = c.if-is_of.ensures.1 of in cc) in
    IfOk-weaker c.seen_in-2.result _ _
    (λ seen is. shows_second g.S.System g.S.Store.BlockStore a.system.now a.data_path.now a.hash_path.now a.image.now a.device.now
    a.first.now a.second c.in-Some.second c.in_ok-look_by.field-0 seen.0 seen.1 c.in-Some.is other c.in_ok-look_by.ensures.found is)
    c.seen_in-2.ensures.seen

pub returns-clause-refused : goal.returns-clause-refused
returns-clause-refused g c =
    let a = c.args in
    let other = another g.S.System g.S.Store.BlockStore a.system.now a.data_path.now a.hash_path.now a.image.now a.device.now a.first.now
    c.in_ok-look.look c.in_ok-look.ensures.found
    (λ (of : IsOf c.in_ok-look.look a.first.now). let is : false ≡ true = c.if-is_of.ensures.1 of in cc) in
    IfErr-weaker c.seen_in-2.result _ _
    (λ e absent. inr (
      absent.0,
      absent.2,
      absent_by_second g.S.System g.S.Store.BlockStore a.system.now a.data_path.now a.hash_path.now
          a.image.now a.device.now a.first.now a.second c.in-Some.second c.in_ok-look_by.field-0 absent.0 c.in-Some.is other
          c.in_ok-look_by.ensures.found absent.1,
    )) c.seen_in-2.ensures.absent
