use Rattle.std.proofs.Common.{length, sym, ap, ◌∙◌}
use Rattle.verity_disks.specs.Tearing.{read_of, resized}
use Rattle.verity_disks.proofs.FileLemmas.{none_set}
use Rattle.verity_disks.proofs.Parts.{length-with_length}
use Rattle.verity_disks.proofs.Tears.{read_stepped}
use Rattle.verity_disks.proofs.file_device.FileDevice.resize.Goals as goal

pub invariant_of-self : goal.invariant_of-self
invariant_of-self g c =
    let old = c.self.inside.log.kept in (
      none_set c.set_byte_len.result _ _ c.args.len c.self.invariant.0 c.set_byte_len.ensures.set c.set_byte_len.ensures.failed,
      sym (ap (λ k. length (read_of k)) c.resize.ensures ∙ ap length (read_stepped (resized c.args.len) old)
          ∙ length-with_length c.args.len (read_of old)),
    )
