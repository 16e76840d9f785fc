use Rattle.std.proofs.Common.{subst}
use Rattle.std.specs.Prelude.{OnOk}
use Rattle.remote_nbd.specs.Opening.{Asks}
use Rattle.remote_file.proofs.nbd_source.NbdSource.greet.Goals as goal

pub returns-clause-asked : goal.returns-clause-asked
returns-clause-asked g c =
    let old = g.D.Wire.Wire.contents c.args.wire.now in
    let new = g.D.Wire.Wire.contents c.open_export.new.wire in
    subst (λ n. OnOk c.open_export.result (Asks old new n)) c.as_bytes.ensures.value c.open_export.ensures.asked
