use Rattle.std.proofs.Common.{rules}
use Rattle.std.proofs.KnownBytes.{Keeps-trans}
use Rattle.remote_wire.proofs.Moves.{more_read, none_read}
use Rattle.remote_http.proofs.head.read_head.Goals as goal
use Rattle.remote_http.proofs.head.read_head.Goals.{in-Ok+in-Ok-Partial, in-Err+else-ne}

pub returns-in-Ok-Complete-clause-given : goal.returns-in-Ok-Complete-clause-given
returns-in-Ok-Complete-clause-given g c =
    let i = c.turns.invariant in
    more_read _ _ _ c.turns.filled c.in-Ok.n c.turns.buf c.receive.new.out i.within c.in-Ok.ensures.bound.0 i.given c.in-Ok.ensures.bytes.0

pub turns-preserved : goal.turns-preserved
turns-preserved g c =
    let i = c.turns.invariant in
    elim c.match-receive.branch [
      | in-Ok+in-Ok-Partial w ↦ record {
        same = search rules;
        within = rw w.filled-is (search rules);
        given = rw w.filled-is (more_read _ _ _ c.turns.filled w.in-Ok.n c.turns.buf c.receive.new.out i.within w.in-Ok.ensures.bound.0
            i.given w.in-Ok.ensures.bytes.0);
        unwritten = Keeps-trans _ _ _ i.unwritten c.receive.ensures.written;
      }
      | in-Err+else-ne w ↦ record {
        same = search rules;
        within = rw w.filled-is (search rules);
        given = rw w.filled-is (none_read _ _ _ c.turns.filled c.turns.buf c.receive.new.out i.within i.given w.in-Err.ensures.bytes);
        unwritten = Keeps-trans _ _ _ i.unwritten c.receive.ensures.written;
      }
    ]

pub returns-in-Ok-Complete-clause-unwritten : goal.returns-in-Ok-Complete-clause-unwritten
returns-in-Ok-Complete-clause-unwritten g c = Keeps-trans _ _ _ c.turns.invariant.unwritten c.receive.ensures.written
