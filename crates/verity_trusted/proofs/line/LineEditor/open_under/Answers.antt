use Rattle.std.proofs.Common.{◌≡◌, length, arith, refl, sym, ap, ◌∙◌}
use Rattle.verity_digest.specs.Hash.{size_of}
use Rattle.verity_geometry.specs.Geometry.{total_of}
use Rattle.verity_superblock.specs.Superblock.{Volume}
use Rattle.verity_chain.specs.Table.{Table, tree_len}
use Rattle.verity_pending.specs.Draft.{edits_of}
use Rattle.verity_plan.specs.Planning.{volume_shape}
use Rattle.verity_edit.specs.Editing.{fresh}
use Rattle.verity_trusted.specs.Line.{IsLineOf}
use Rattle.verity_pending.proofs.Drafts.{edits_fresh}
use Rattle.verity_trusted.proofs.line.LineEditor.open_under.Goals as goal

pub returns-in-Ok-clause-opened : goal.returns-in-Ok-clause-opened
returns-in-Ok-clause-opened g c =
    let t : Table = c.args.table in
    let v : Volume = c.in-Ok.found.superblock in
    let found = c.in-Ok.ensures in
    let line : IsLineOf t v = found.line in
    let same : c.in-Ok.found.tree ≡ t = found.tree in
    let draft : c.new.result ≡ fresh v.params.data_block_size v.data_blocks =
    c.new.ensures ∙ (λ i. fresh (c.data_block_size.ensures.value i) (c.data_blocks.ensures.value i)) in
    let draft_is : c.new.result ≡ fresh t.data_block_size t.data_blocks =
    draft ∙ (λ i. fresh (sym line.data_block_size i) (sym line.data_blocks i)) in
    let total : tree_len t ≡ total_of (volume_shape v.params v.data_blocks) =
    (λ i. total_of (record {
      data_size = line.data_block_size i;
      hash_size = line.hash_block_size i;
      digest_size = size_of (line.algorithm i);
      blocks = line.data_blocks i;
    })) in
    let read = found.hash_store in
    record {
      table = same;
      volume = found.volume;
      line = line;
      behind = found.behind;
      fits = record {
        committed = found.fits.count ∙ ap (λ x. x.committed) (sym draft);
        blocks = ap (λ x. x.committed) (sym draft);
        data_size = found.fits.data_size ∙ ap (λ x. x.size) (sym draft);
        block_size = ap (λ x. x.size) (sym draft);
        hash_size = read.later.size ∙ found.fits.hash_size;
        within = (let w = found.within in let l = ap length read.content in let s = ap (λ u. u.hash_start_block) same in omega arith);
        root_size = ap (λ u. length u.root) same ∙ c.facts.ensures.digest ∙ ap size_of line.algorithm;
      };
      draft = draft_is;
      edits = λ image len. ap (edits_of image) draft_is ∙ edits_fresh image t.data_block_size t.data_blocks len;
      broken = refl;
      data_store = refl;
      hash_store = read;
      reads = found.reads;
      unfailed = found.fails;
    }
