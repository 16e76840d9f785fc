use Rattle.std.proofs.Common.{◌≡◌, ◌∙◌, ◌-◌, ap, arith}
use Rattle.verity_chain.specs.Table.{Table, tree_len}
use Rattle.verity_moved.specs.Moved.{moved_from}
use Rattle.verity_pull.proofs.LayLemmas.{end_few}
use Rattle.cli_pull.proofs.Results.{done_from}
use Rattle.cli_pull.proofs.pulling.pull_watched.Goals as goal

pub new-requires-clause-few : goal.new-requires-clause-few
new-requires-clause-few g c = omega (arith, end_few c.args.tree.now c.table.ensures.allowed, c.end.ensures)

pub returns-in-Ok-clause-done : goal.returns-in-Ok-clause-done
returns-in-Ok-clause-done g c =
    let t : Table = c.args.tree.now in
    let to : Table = c.args.asked.now.to in
    let here : c.hash_start_block-here.result ≡ t.hash_start_block = c.hash_start_block-here.ensures.value
    ∙ ap (λ (u : Table). u.hash_start_block) c.table.ensures.value in
    let there : c.hash_start_block-there.result ≡ to.hash_start_block = c.hash_start_block-there.ensures.value in
    let count : c.end.result - c.hash_start_block-here.result ≡ tree_len t = omega (arith, c.end.ensures, here) in
    let seen : c.new-source_hash.result ≡ moved_from c.superblock_of.new.source_hash t.hash_start_block to.hash_start_block (tree_len t)
    = c.new-source_hash.ensures ∙ (c.new.ensures ∙ (λ i. moved_from c.superblock_of.new.source_hash (here i) (there i) (count i))) in
    record {
      root = c.old_root-old.result;
      superblock = c.in_ok-superblock.superblock.items;
      k_read = c.superblock_of.new.hash_store;
      h_read = c.superblock_of.new.source_hash;
      s' = c.pull_either-pulled.new.source_data;
      h' = c.pull_either-pulled.new.source_hash;
      old_root = c.old_root-old.ensures;
      looked = c.superblock_of.ensures.read;
      source_looked = c.superblock_of.ensures.source_read;
      laid = c.in_ok-superblock.ensures.made;
      done = done_from _ _ _ _ _ _ _ _ _ _ _ _ _ _ _ _ _ _ c.deref.ensures.value seen c.in-Ok.ensures.done;
    }
