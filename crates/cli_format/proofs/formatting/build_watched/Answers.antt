use Rattle.std.proofs.Common.{refl, length, sym, subst, ap, ◌∙◌}
use Rattle.verity_profile.specs.Profile.{AllSized}
use Rattle.verity_superblock.specs.Image.{hash_blocks}
use Rattle.verity_build.specs.Parameters.{front, volume}
use Rattle.cli_format.proofs.formatting.build_watched.Goals as goal

pub returns : goal.returns
returns g c =
    let watched = c.new-data_store.ensures in
    let stores = g.D.BlockStore in
    let target = c.args.hash_store.now in
    let size = stores.size target in
    record {
      source = c.new-data_store.result;
      source' = c.build_at-built.new.data_store;
      target = target;
      target' = c.build_at-built.new.hash_store;
      there = watched;
      left = (refl, refl);
      block_size = ap stores.size watched;
      sized = subst (λ s. AllSized (stores.size c.args.data_store) (stores.content s)) (sym watched)
          (subst (λ n. AllSized n (stores.content c.args.data_store)) c.block_size-each_has_the_size.ensures.value
          c.block_size-each_has_the_size.ensures.blocks);
      read = c.build_at-built.ensures.data_store;
      count = c.len.ensures ∙ ap length c.build_at-built.ensures.data_store.content;
      root = c.in_ok-built.ensures.given;
      told = c.in_ok-built.ensures.root;
      later = c.build_at-built.ensures.hash_store;
      written = λ tells keeps. c.in_ok-built.ensures.built tells keeps
          ∙ ap (λ n. hash_blocks (volume c.args.params.now n size) (stores.content c.new-data_store.result)
          (front c.args.offset size (stores.content target))) (ap stores.size watched);
      synced = c.in_ok-built.ensures.hash_synced;
    }
