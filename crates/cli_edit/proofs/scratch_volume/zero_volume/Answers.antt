use Rattle.std.proofs.Common.{refl, ◌∙◌}
use Rattle.cli_edit.proofs.Zeros.{opened_zeros}
use Rattle.cli_edit.proofs.scratch_volume.zero_volume.Goals as goal

pub returns-in-Ok-clause-zeros : goal.returns-in-Ok-clause-zeros
returns-in-Ok-clause-zeros c =
    let built = c.in_ok-build.ensures in
    opened_zeros _ _ _ _ _ c.in-Ok.ensures.opened refl refl (built.data_store.content ∙ c.in_ok-data_store.ensures.content)
    (built.data_store.later.size ∙ c.in_ok-data_store.ensures.size) (built.hash_store.size ∙ c.in_ok-hash_store.ensures.size)
