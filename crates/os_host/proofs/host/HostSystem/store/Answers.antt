use Rattle.std.proofs.Common.{◌≡◌, ◌≢◌, ◌/◌, ◌%◌, ℕ, min, sym, subst}
use Rattle.os_host.specs.Lengths.{IsLenOf}
use Rattle.os_files.specs.Parts.{IsRaggedPart}
use Rattle.os_host.proofs.Counts.{ragged, sized}
use Rattle.os_host.proofs.host.HostSystem.store.Goals as goal

pub returns-in-AtMost-clause-ragged : goal.returns-in-AtMost-clause-ragged
returns-in-AtMost-clause-ragged g c is =
    let file = c.args.file in
    let paths = c.args.self.now.paths.now in
    let size = c.args.size in
    subst (λ part. IsRaggedPart part ((len : ℕ) × IsLenOf g.P.Paths paths file.identity file.file file.len len × (len % size ≢ 0)))
    (sym c.in-AtMost.is) (ragged g.P.Paths paths file.identity file.file (min c.in-AtMost.blocks (file.len / size)) file.len size
    (sized size c.store_of_most.result c.store_of_most.ensures.wrong_size is) (c.store_of_most.ensures.ragged is))
