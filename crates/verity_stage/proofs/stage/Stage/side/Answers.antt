use Rattle.verity_profile.proofs.Bounds.{block_size_high}
use Rattle.verity_stage.specs.Inside.{stage_of}
use Rattle.verity_stage.proofs.PlaceLemmas.{places_fit}
use Rattle.verity_stage.proofs.stage.Stage.side.Goals as goal

pub changes_of-requires : goal.changes_of-requires
changes_of-requires g c = places_fit (stage_of c.self.inside) c.self.invariant.is_stage c.len-ordered.ensures.ordered
    c.self.invariant.few (block_size_high c.self.inside.size c.self.invariant.profile)
