use Rattle.std.proofs.Common.{subst}
use Rattle.verity_check.specs.Verifier.{Verifying, IsOnlyReading}
use Rattle.verity_hub.proofs.VerdictLaws.{facts_keep}
use Rattle.verity_hub.proofs.checked_image.CheckedImageExport.warm.Goals as goal

pub returns-clause-keeps : goal.returns-clause-keeps
returns-clause-keeps g c =
    let D = g.D.BlockStore in
    let H = g.H.BlockStore in
    let v : Verifying g.row.D.Denot g.row.H.Denot = c.args.self.now in
    let w : Verifying g.row.D.Denot g.row.H.Denot = c.warm.new.self.verifier in
    facts_keep D H v w (subst (λ x. IsOnlyReading D H x w) c.self.view_is c.warm.ensures.keeps)
