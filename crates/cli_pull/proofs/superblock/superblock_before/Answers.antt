use Rattle.std.proofs.Common.{subst}
use Rattle.verity_superblock.specs.Reading.{Reads}
use Rattle.cli_pull.proofs.superblock.superblock_before.Goals as goal

pub returns-clause-found : goal.returns-clause-found
returns-clause-found g c = (
  c.in_ok-block.block.items,
  c.in_ok-block.ensures.given,
  subst (λ bytes. Reads bytes c.in_ok-decode.field-0.params c.in_ok-decode.field-0.data_blocks) c.deref.ensures.value
      c.in_ok-decode.ensures.reads,
)
