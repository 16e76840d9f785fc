use Rattle.std.proofs.Common.{◌+◌, subst}
use Rattle.verity_chain.specs.Table.{tree_len}
use Rattle.os_files.specs.declared.part.Part.TheVariants.{AtMost}
use Rattle.cli_pull.specs.Opening.{IsOpened}
use Rattle.cli_pull.proofs.Results.{done_by}
use Rattle.cli_pull.proofs.pulling.pull_files.Goals as goal

pub returns-in_ok-close-in-Ok-2-clause-filled : goal.returns-in_ok-close-in-Ok-2-clause-filled
returns-in_ok-close-in-Ok-2-clause-filled g c =
    let source = c.in_ok-source.source in
    let local = c.in_ok-local.local in
    let opened = c.in_ok-local.ensures.opened in
    let words = c.args.words.now in
    record {
      source_data = source.data_store;
      source_hash = source.hash_store;
      image = local.data_store;
      image' = c.pull_watched.new.data_store;
      device = local.hash_store;
      device' = c.pull_watched.new.hash_store;
      source_data_file = source.data_file;
      source_hash_file = source.hash_file;
      data_file = opened.0;
      hash_file = opened.1;
      data_there = c.in_ok-source.ensures.data;
      hash_there = c.in_ok-source.ensures.hash;
      shut = c.in_ok-check_gate.ensures.shut;
      apart = opened.3;
      left = record {
        both = c.open_local.new.system;
        between = c.close.new.self;
        opened = subst (λ t. IsOpened g.S.System c.args.system.now c.open_local.new.system words.data_path.now words.hash_path.now
            (AtMost t.data_blocks) (AtMost (t.hash_start_block + tree_len t)) local.data_store local.hash_store opened.0 opened.1)
            c.requires.line opened.2;
        data_closed = c.in_ok-close-in-Ok.ensures.closed;
        hash_closed = c.in_ok-close-in-Ok-2.ensures.closed;
      };
      done = done_by _ _ _ _ _ _ _ _ _ _ _ _ c.requires.line c.in-Ok.ensures.done;
    }
