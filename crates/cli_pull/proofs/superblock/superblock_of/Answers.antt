use Rattle.std.proofs.Common.{◌≡◌, ◌∙◌, ap, inr, subst}
use Rattle.verity_superblock.specs.Image.{superblock_block}
use Rattle.verity_superblock.specs.Line.{TableLine}
use Rattle.cli_pull.specs.Superblocks.{params_of, IsUuid}
use Rattle.cli_pull.proofs.Results.{if_ok}
use Rattle.cli_pull.proofs.superblock.superblock_of.Goals as goal

pub returns-clause-made : goal.returns-clause-made
returns-clause-made g c =
    let uuid = c.in_ok-uuid.uuid in
    let start : c.hash_start_block-start.result ≡ c.args.tree.now.hash_start_block = c.hash_start_block-start.ensures.value
    ∙ ap (λ (t : TableLine). t.hash_start_block) c.table-table.ensures.value in
    if_ok _ _ c.block_of.result (λ block made. inr (
      uuid,
      subst (λ at. IsUuid g.K.BlockStore g.H.BlockStore c.args.hash_store.now c.uuid_of.new.hash_store c.args.source_hash.now
          c.uuid_of.new.source_hash c.args.asked.now.uuid c.args.asked.now.to at uuid) start c.in_ok-uuid.ensures.found,
      made ∙ ap (λ (t : TableLine). superblock_block (params_of t uuid) t.data_blocks) (c.table-table.ensures.value ∙ c.requires),
    ))
    c.block_of.ensures.block
