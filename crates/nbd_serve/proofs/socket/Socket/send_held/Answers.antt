use Rattle.std.proofs.Common.{ap, ◌∙◌}
use Rattle.nbd_serve.specs.Sockets.{log_of}
use Rattle.nbd_serve.proofs.Holding.{sent_held, sent_nothing}
use Rattle.nbd_serve.proofs.socket.Socket.send_held.Goals as goal

pub returns-in-Ok-eq0-clause-log : goal.returns-in-Ok-eq0-clause-log
returns-in-Ok-eq0-clause-log g c = sent_nothing _ _ _ _ _ c.in-Ok-eq0.field-0-test c.in-Ok-eq0.ensures.log
    ∙ ap (log_of g.C.Connection.log) c.self.view_is

pub returns-in-Ok-clause-log : goal.returns-in-Ok-clause-log
returns-in-Ok-clause-log g c = sent_held (g.C.Connection.log c.self.inside.connection) (g.C.Connection.log c.send_counted.new.connection)
    c.self.inside.held.items c.deref.result.now c.self.inside.sent c.in-Ok.taken c.deref.ensures.value c.in-Ok.ensures.log.0
    c.in-Ok.ensures.log.1 ∙ ap (log_of g.C.Connection.log) c.self.view_is
