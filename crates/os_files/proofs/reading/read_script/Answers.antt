use Rattle.std.proofs.Common.{◌≡◌, IfSome, subst, ap, arith}
use Rattle.os_files.proofs.Whole.{read_whole}
use Rattle.os_files.proofs.reading.read_script.Goals as goal

pub returns-clause-read : goal.returns-clause-read
returns-clause-read g c =
    let inner = ap (λ input. g.I.Read.remaining input.now) c.take.ensures.inner in
    subst (λ known. IfSome known (λ bytes. c.read_to_end.new.buf.items ≡ bytes)) inner
    (read_whole 1073741824 c.take.result.limit c.take.ensures.limit (g.I.Read.remaining c.take.result.inner.now) c.new-script.result.items
    c.read_to_end.new.buf.items c.new-script.ensures.items c.in-Ok.ensures.bytes (omega (arith, c.if-len-gt-MOST_BYTES, c.len.ensures)))
