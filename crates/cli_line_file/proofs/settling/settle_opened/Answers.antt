use Rattle.std.proofs.Common.{◌≡◌, ◌⊎◌, ◌<◌, ap, sym, subst, inl, inr, true, Ok, Option}
use Rattle.std.proofs.lemmas.Result.{err_from_is_err_and}
use Rattle.verity_superblock.specs.Line.{TableLine}
use Rattle.cli_faults.specs.Errors.{IsS1For}
use Rattle.cli_faults.specs.declared.failure.Failure.{Failure}
use Rattle.cli_line_file.specs.Settling.{IsUnsettled, SettlesBy, StaysUnlessFailed}
use Rattle.verity_line_file.specs.Standing.{Settles}
use Rattle.cli_line_file.proofs.Asking.{AreRead, refused, seen, unseen}
use Rattle.cli_line_file.proofs.Moments.{wider}
use Rattle.cli_line_file.proofs.Outcomes.{does, stays, system}
use Rattle.cli_line_file.proofs.settling.settle_opened.Goals as goal

pub returns-in_err-shown-clause-refused : goal.returns-in_err-shown-clause-refused
returns-in_err-shown-clause-refused g c =
    let a = c.args in
    let texts = g.F.LineFolder.seen a.file.now.folder in
    let read : AreRead texts c.in_ok-next.next c.in_ok-line.line = record {
      of_next = c.in_ok-next.ensures.held;
      of_line = c.in_ok-line.ensures.held;
      none = λ is. c.in_ok-line.ensures.none (ap (λ (o : Option TableLine). Ok o) is);
    } in
    let p = err_from_is_err_and c.from_residual-in_err-shown.result c.from_residual-in_err-shown.ensures.1 in
    rw (p.1, p.2) (unseen g.S.System g.S.Store.BlockStore a.system.now a.data_path.now a.hash_path.now a.image.now a.device.now
    c.determines_line.ensures texts c.in_ok-next.next c.in_ok-line.line c.in-Some.first.now c.in-Some.second _ read c.in-Some.ensures
    c.in_err-shown.ensures.refused)

pub returns-in_err-shown-clause-system : goal.returns-in_err-shown-clause-system
returns-in_err-shown-clause-system g c =
    let p = err_from_is_err_and c.from_residual-in_err-shown.result c.from_residual-in_err-shown.ensures.1 in
    rw (p.1, p.2) (λ is. inl (c.in_err-shown.ensures.system is))

pub returns-in-Ok-clause-settled : goal.returns-in-Ok-clause-settled
returns-in-Ok-clause-settled g c =
    let a = c.args in
    let texts = g.F.LineFolder.seen a.file.now.folder in
    let read : AreRead texts c.in_ok-next.next c.in_ok-line.line = record {
      of_next = c.in_ok-next.ensures.held;
      of_line = c.in_ok-line.ensures.held;
      none = λ is. c.in_ok-line.ensures.none (ap (λ (o : Option TableLine). Ok o) is);
    } in
    let by = seen g.S.System g.S.Store.BlockStore a.system.now a.data_path.now a.hash_path.now a.image.now a.device.now texts
    c.in_ok-next.next c.in_ok-line.line c.in-Some.first.now c.in-Some.second c.in_ok-shown.shown read c.in-Some.ensures
    c.in_ok-shown.ensures.shown in
    λ some. inr (c.in_ok-shown.shown, by, (c.in-Ok.field-0, c.in-Ok.ensures.settled))

pub returns-in-Ok-clause-durable : goal.returns-in-Ok-clause-durable
returns-in-Ok-clause-durable g c =
    let texts = g.F.LineFolder.seen c.args.file.now.folder in
    λ some. c.in-Ok.ensures.durable (does c.in_ok-shown.shown texts (g.F.LineFolder.seen c.settle.new.self.folder) c.in-Ok.field-0 some
    c.in-Ok.ensures.settled)

pub returns-in-Ok-clause-any_moment : goal.returns-in-Ok-clause-any_moment
returns-in-Ok-clause-any_moment g c =
    let a = c.args in
    let old = a.file.now.folder in
    let texts = g.F.LineFolder.seen old in
    let leaves = g.F.LineFolder.may_leave old in
    let read : AreRead texts c.in_ok-next.next c.in_ok-line.line = record {
      of_next = c.in_ok-next.ensures.held;
      of_line = c.in_ok-line.ensures.held;
      none = λ is. c.in_ok-line.ensures.none (ap (λ (o : Option TableLine). Ok o) is);
    } in
    let by = seen g.S.System g.S.Store.BlockStore a.system.now a.data_path.now a.hash_path.now a.image.now a.device.now texts
    c.in_ok-next.next c.in_ok-line.line c.in-Some.first.now c.in-Some.second c.in_ok-shown.shown read c.in-Some.ensures
    c.in_ok-shown.ensures.shown in
    wider g.F.LineFolder.moment g.F.LineFolder.left_since old c.settle.new.self.folder (Settles c.in_ok-shown.shown texts leaves)
    (SettlesBy g.S.System g.S.Store.BlockStore a.system.now a.data_path.now a.hash_path.now a.image.now a.device.now texts leaves)
    c.settle.ensures.any_moment (λ d settles. inr (inr (c.in_ok-shown.shown, by, settles)))

pub returns-clause-any_moment : goal.returns-clause-any_moment
returns-clause-any_moment g c =
    let a = c.args in
    let old = a.file.now.folder in
    let texts = g.F.LineFolder.seen old in
    let leaves = g.F.LineFolder.may_leave old in
    let read : AreRead texts c.in_ok-next.next c.in_ok-line.line = record {
      of_next = c.in_ok-next.ensures.held;
      of_line = c.in_ok-line.ensures.held;
      none = λ is. c.in_ok-line.ensures.none (ap (λ (o : Option TableLine). Ok o) is);
    } in
    let by = seen g.S.System g.S.Store.BlockStore a.system.now a.data_path.now a.hash_path.now a.image.now a.device.now texts
    c.in_ok-next.next c.in_ok-line.line c.in-Some.first.now c.in-Some.second c.in_ok-shown.shown read c.in-Some.ensures
    c.in_ok-shown.ensures.shown in
    wider g.F.LineFolder.moment g.F.LineFolder.left_since old c.settle.new.self.folder (Settles c.in_ok-shown.shown texts leaves)
    (SettlesBy g.S.System g.S.Store.BlockStore a.system.now a.data_path.now a.hash_path.now a.image.now a.device.now texts leaves)
    c.settle.ensures.any_moment (λ d settles. inr (inr (c.in_ok-shown.shown, by, settles)))

pub returns-clause-stays : goal.returns-clause-stays
returns-clause-stays g c =
    let old = c.args.file.now.folder in
    let new = c.settle.new.self.folder in
    subst (λ (e : Failure). StaysUnlessFailed g.F.LineFolder old new e) (sym c.failure_of_line.ensures)
    (stays g.F.LineFolder old new c.in-Err.fault c.in_ok-shown.top c.in-Err.ensures.stays c.in-Err.ensures.failed)

pub returns-clause-refused : goal.returns-clause-refused
returns-clause-refused g c =
    let a = c.args in
    let texts = g.F.LineFolder.seen a.file.now.folder in
    let read : AreRead texts c.in_ok-next.next c.in_ok-line.line = record {
      of_next = c.in_ok-next.ensures.held;
      of_line = c.in_ok-line.ensures.held;
      none = λ is. c.in_ok-line.ensures.none (ap (λ (o : Option TableLine). Ok o) is);
    } in
    subst (λ (e : Failure). IsUnsettled g.S.System g.S.Store.BlockStore a.system.now a.data_path.now a.hash_path.now a.image.now
    a.device.now texts e) (sym c.failure_of_line.ensures)
    (refused g.S.System g.S.Store.BlockStore a.system.now a.data_path.now a.hash_path.now a.image.now a.device.now
    c.determines_line.ensures texts c.in_ok-next.next c.in_ok-line.line c.in-Some.first.now c.in-Some.second c.in_ok-shown.shown
    c.in_ok-shown.top c.in-Err.fault read c.in-Some.ensures c.in_ok-shown.ensures.shown c.in_ok-shown.ensures.top
    c.in-Err.ensures.refused)

pub returns-clause-system : goal.returns-clause-system
returns-clause-system g c =
    let old = c.args.file.now.folder in
    let new = c.settle.new.self.folder in
    let reason = g.S.System.refuses c.args.system.now ≡ true in
    subst (λ (e : Failure). IsS1For (reason ⊎ (g.F.LineFolder.failures old < g.F.LineFolder.failures new)) e)
    (sym c.failure_of_line.ensures) (system g.F.LineFolder old new reason c.in-Err.fault c.in_ok-shown.top c.in-Err.ensures.failed)
