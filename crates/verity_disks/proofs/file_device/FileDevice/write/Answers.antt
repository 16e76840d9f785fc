use Rattle.std.proofs.Common.{◌≡◌, ◌≤◌, ◌+◌, max, length, sym, ap, subst, ◌∙◌, arith}
use Rattle.verity_disks.specs.Tearing.{Kept, read_of, written}
use Rattle.verity_disks.proofs.FileLemmas.{none_written, length-over}
use Rattle.verity_disks.proofs.Tears.{read_stepped}
use Rattle.verity_disks.proofs.file_device.FileDevice.write.Goals as goal

pub invariant_of-self : goal.invariant_of-self
invariant_of-self g c =
    let old = c.self.inside.log.kept in let at = c.args.at in let bytes = c.args.bytes.now in
    let below : at ≤ length (read_of old) = subst (λ (k : Kept). at ≤ length (read_of k)) (sym c.self.view_is) c.requires.below in
    let len : length (read_of c.write.new.self.kept) ≡ max (length (read_of old)) (at + length bytes) =
    ap (λ k. length (read_of k)) c.write.ensures ∙ ap length (read_stepped (written at bytes) old)
    ∙ length-over at bytes (read_of old) below in
    let was = c.self.invariant.1 in (
      none_written c.write_all_at.result _ _ at (length bytes) bytes c.self.invariant.0 c.write_all_at.ensures.written
          c.write_all_at.ensures.failed,
      omega (arith, len, was, c.max-self-inside.ensures),
    )
