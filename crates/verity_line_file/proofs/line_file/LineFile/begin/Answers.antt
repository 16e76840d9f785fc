use Rattle.std.proofs.Common.{refl}
use Rattle.os_line_file.specs.Folder.{Texts, KeepsLine}
use Rattle.verity_line_file.proofs.Moments.{once}
use Rattle.verity_line_file.proofs.line_file.LineFile.begin.Goals as goal

pub returns-in-Ok-write_next-clause-any_moment : goal.returns-in-Ok-write_next-clause-any_moment
returns-in-Ok-write_next-clause-any_moment g c =
    let old = c.args.self.now.folder in
    let P : Texts → Type 0 = KeepsLine (g.F.LineFolder.may_leave old) in
    once g.F.LineFolder.moment g.F.LineFolder.left_since old c.write_next.new.self P P
    (λ d left. (d, g.met.F.LineFolder.only_now old d left, refl)) c.write_next.ensures.time (λ d kept. kept)

pub returns-clause-any_moment : goal.returns-clause-any_moment
returns-clause-any_moment g c =
    let old = c.args.self.now.folder in
    let P : Texts → Type 0 = KeepsLine (g.F.LineFolder.may_leave old) in
    once g.F.LineFolder.moment g.F.LineFolder.left_since old c.write_next.new.self P P
    (λ d left. (d, g.met.F.LineFolder.only_now old d left, refl)) c.write_next.ensures.time (λ d kept. kept)
