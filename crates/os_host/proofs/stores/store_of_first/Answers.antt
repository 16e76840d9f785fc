use Rattle.std.proofs.Common.{rules, ◌≡◌, ◌*◌, ◌<◌, ℕ, length, min, ap, ◌∙◌, arith}
use Rattle.std.proofs.Math.Nat.{min-eq_left}
use Rattle.verity_profile.specs.Profile.{IsBlockSize}
use Rattle.verity_profile.proofs.Bounds.{block_size_low}
use Rattle.verity_store.specs.RawFile.{file_blocks}
use Rattle.os_files.specs.VolumeFiles.{volume_bytes}
use Rattle.os_host.proofs.Counts.{counted}
use Rattle.os_host.proofs.stores.store_of_first.Goals as goal

pub returns-clause-count : goal.returns-clause-count
returns-clause-count c =
    let is_size : IsBlockSize c.args.size = search rules in
    let low = block_size_low c.args.size is_size in
    counted c.of_len.result (λ s. length (file_blocks s.size s.blocks (volume_bytes s.file))) c.args.size c.args.blocks
    c.whole_blocks-len.result (omega (arith, low))
    (c.whole_blocks-len.ensures.blocks ∙ ap (λ (n : ℕ). n * c.args.size) (min-eq_left c.if-blocks-opened.false)) c.of_len.ensures.len
