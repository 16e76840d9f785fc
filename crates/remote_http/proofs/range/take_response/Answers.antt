use Rattle.std.proofs.Common.{◌≡◌, ◌+◌, ◌-◌, length, take, arith, sym, subst}
use Rattle.std.specs.Prelude.{codes}
use Rattle.std.proofs.KnownBytes.{Keeps-trans}
use Rattle.remote_http.specs.Fields.{HasValue}
use Rattle.remote_http.specs.Ranges.{content_length}
use Rattle.remote_http.proofs.RangeLemmas.{gives}
use Rattle.remote_http.proofs.range.take_response.Goals as goal

pub returns-clause-given : goal.returns-clause-given
returns-clause-given g c =
    let head = c.in_ok-head.head in
    let said = take head.filled c.read_head.new.buf in
    let body = c.in_ok-read_body.ensures.given in
    let last : c.args.first + (length c.args.out.now - 1) ≡ c.args.first + (length c.read_body.new.out - 1) =
    omega (arith, c.read_body.auto.out) in
    gives _ _ _ said c.read_head.new.fields head.spans c.args.first _ c.in_ok-total.total c.read_body.new.out body.0
    c.in_ok-head.ensures.given
    c.in_ok-head.ensures.head c.in_ok-check_status.ensures.partial
    c.in_ok-total.ensures
    (subst (λ n. HasValue said (take head.spans.headers c.read_head.new.fields) (codes "content-length") (content_length n))
    (sym c.read_body.auto.out) c.in_ok-check_length.ensures)
    c.in_ok-check_whole.ensures.whole c.in_ok-check_plain.ensures.plain
    last body.1 body.2

pub returns-clause-unwritten : goal.returns-clause-unwritten
returns-clause-unwritten g c = Keeps-trans _ _ _ c.in_ok-head.ensures.unwritten c.read_body.ensures.unwritten
