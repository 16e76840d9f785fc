use Rattle.std.proofs.Common.{inr, refl}
use Rattle.os_line_file.specs.Folder.{KeepsLine}
use Rattle.verity_line_file.specs.Standing.{Replaces}
use Rattle.cli_line_file.specs.Keeping.{KeepsOldOr}
use Rattle.cli_line_file.proofs.Moments.{chained, during, replaces, wider}
use Rattle.cli_line_file.proofs.keeping.keep_printed.Goals as goal

pub returns-clause-any_moment : goal.returns-clause-any_moment
returns-clause-any_moment g c =
    let old = c.args.file.now.folder in
    let mid = c.write_next.new.self in
    let new = c.finish_line.new.file.folder in
    let moment = g.F.LineFolder.moment in
    let left_since = g.F.LineFolder.left_since in
    let seen = g.F.LineFolder.seen in
    let leaves = g.F.LineFolder.may_leave in
    let P = KeepsOldOr c.args.printed.now (seen old) (leaves old) in
    chained moment left_since old mid new P
    (during moment left_since old mid P (KeepsLine (leaves old)) (λ d left. inr (inr (d, g.met.F.LineFolder.only_now old d left, refl)))
    c.write_next.ensures.time (λ d keeps. inr (inr keeps)))
    (wider moment left_since mid new (Replaces (seen mid) (leaves mid)) P c.finish_line.ensures.any_moment
    (replaces c.args.printed.now (seen old) (seen mid) (leaves old) (leaves mid) c.in-Ok.ensures.written c.in-Ok.ensures.durable))
