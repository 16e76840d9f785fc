use Rattle.std.proofs.Common.{rules, ◌≡◌, ◌≢◌, ◌*◌, ◌/◌, ◌%◌, ◌<◌, ℕ, min, sym, subst, arith}
use Rattle.verity_profile.specs.Profile.{IsBlockSize}
use Rattle.verity_profile.proofs.Bounds.{block_size_low}
use Rattle.os_host.specs.Lengths.{IsLenOf}
use Rattle.os_files.specs.Parts.{HasAsked, IsRaggedPart}
use Rattle.os_files.specs.declared.part.Part.{Part}
use Rattle.os_host.proofs.Counts.{ragged}
use Rattle.os_system.proofs.Wholes.{asked}
use Rattle.os_system.proofs.stores.part_here.Goals as goal

pub returns-else-blocks-opened-clause-count : goal.returns-else-blocks-opened-clause-count
returns-else-blocks-opened-clause-count g c =
    let is_size : IsBlockSize c.args.size = search rules in
    let low = block_size_low c.args.size is_size in
    λ blocks is. subst (λ (part : Part). HasAsked part blocks) (sym c.in-First.is)
    (asked c.in-First.blocks c.args.size blocks (omega (arith, low)) is)

pub returns-in_ok-len-in-AtMost-clause-len : goal.returns-in_ok-len-in-AtMost-clause-len
returns-in_ok-len-in-AtMost-clause-len g c =
    let is_size : IsBlockSize c.args.size = search rules in
    let low = block_size_low c.args.size is_size in
    let opened = c.args.opened in
    let paths = c.args.paths.now in
    let size = c.args.size in
    λ more. subst (λ (part : Part). IsRaggedPart part
    ((len : ℕ) × IsLenOf g.P.Paths paths opened.identity opened.file opened.len len × (len % size ≢ 0)))
    (sym c.in-AtMost.is)
    (ragged g.P.Paths paths opened.identity opened.file (min c.in-AtMost.blocks (opened.len / size)) opened.len size
    (omega (arith, low)) (c.in_ok-len-in-AtMost.len, c.in_ok-len-in-AtMost.ensures.len, more))
