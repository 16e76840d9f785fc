use Rattle.verity_slice_report.proofs.VerifiedLaws.{verified_is_chained}
use Rattle.verity_slice_report.proofs.laws.slice_is_chained.Goals as goal

pub returns : goal.returns
returns g c = λ t run image device unchecked ok within report.
    verified_is_chained g.D.BlockStore g.H.BlockStore t ok run image device unchecked within report
