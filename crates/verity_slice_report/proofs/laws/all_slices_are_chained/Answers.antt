use Rattle.verity_slice_report.proofs.VerifiedLaws.{all_verified}
use Rattle.verity_slice_report.proofs.laws.all_slices_are_chained.Goals as goal

pub returns : goal.returns
returns g c = λ t count ok some each.
    all_verified g.D.BlockStore g.H.BlockStore t ok count (c.cuts_evenly.ensures t.data_blocks count some) each
