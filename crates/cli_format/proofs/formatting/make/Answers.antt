use Rattle.std.proofs.Common.{◌≡◌, ap, sym, subst, ◌∙◌}
use Rattle.verity_digest.specs.Hash.{hashing}
use Rattle.verity_superblock.specs.Image.{hash_blocks}
use Rattle.verity_build.specs.Parameters.{Parameters, front, salted_by, volume}
use Rattle.cli_format.specs.Made.{hash_part, LiesAsked}
use Rattle.cli_format.proofs.Formatted.{moved}
use Rattle.cli_format.proofs.formatting.make.Goals as goal

pub returns-in-Ok-clause-built : goal.returns-in-Ok-clause-built
returns-in-Ok-clause-built g c =
    let shape = c.args.shape.now in
    let asked : Parameters = record { algorithm = shape.algorithm; salt = c.args.salt_bytes.now; uuid = shape.uuid } in
    let params : c.new-params.result ≡ asked = c.new-params.ensures
    ∙ ap (λ x. let p : Parameters = record { algorithm = shape.algorithm; salt = x; uuid = shape.uuid } in p)
    c.in_ok-salt.ensures.value in
    let data_size = c.in_ok-data_store.ensures.size in
    let hash_size = c.in_ok-hash_store.ensures.size in
    let opened = c.in_ok-hash_store.ensures.opened in
    moved g.S.Store.BlockStore _ _ _ _ _ _ _ _ _ _ _ _
    (λ s is. subst (LiesAsked g.S.System g.S.Store.BlockStore c.args.system.now c.args.words.now.data_path.now shape) (sym is)
    c.in_ok-data_store.ensures.lies)
    (λ s s' both. record {
      between = c.open_hash.new.system;
      opened = opened.opened;
      is_opened = opened.is_opened;
      locked = opened.locked;
      there = subst (g.S.System.lies c.open_hash.new.system opened.opened (hash_part shape.hash_offset)) (sym both.0) opened.there;
      closed = subst (λ t. g.S.System.closes c.open_hash.new.system c.args.words.now.hash_path.now t c.close.new.self) (sym both.1)
          c.in_ok-close-in-Ok.ensures.closed;
    })
    (λ i. hashing (salted_by (params i)) (hash_size i))
    (λ i image there. hash_blocks (volume (params i) (data_size i) (hash_size i)) image (front shape.hash_offset (hash_size i) there))
    data_size c.in-Ok.ensures
