use Rattle.std.proofs.Common.{◌+◌, ◌≤◌, ◌∙◌, ap, subst, arith}
use Rattle.verity_superblock.specs.Superblock.{superblock}
use Rattle.verity_build.specs.Parameters.{volume}
use Rattle.verity_build.proofs.prepare.prepare_build.Goals as goal

pub returns-clause-ready : goal.returns-clause-ready
returns-clause-ready g c =
    let begun = c.in_ok-start.ensures.begun in
    record {
      begun = begun;
      superblock = c.in_ok-superblock.ensures.value ∙ (λ i. superblock (volume c.args.params.now (begun.geometry i).data_size
          (begun.geometry i).hash_size) (ap (λ t. t.blocks) begun.geometry i));
      data_buffer = omega (arith, c.in_ok-buffer.ensures.len);
      hash_buffer = omega (arith, c.in_ok-buffer.ensures.len);
      reserved = subst (λ n. c.in_ok-start.start + n ≤ g.H.BlockStore.room c.reserve.new.self)
          c.total.ensures.value c.in-Ok.ensures.reserved;
    }
