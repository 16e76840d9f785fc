use Rattle.std.proofs.Common.{sym, ap, ◌∙◌, arith}
use Rattle.std.proofs.lemmas.List.{drop_all}
use Rattle.nbd_serve.specs.Sockets.{SocketState}
use Rattle.nbd_serve.proofs.socket.Socket.is_empty.Goals as goal

pub returns : goal.returns
returns g c = λ is. let i = c.self.inside in
    sym (ap (λ (s : SocketState g.row.C.Denot). s.held) c.self.view_is) ∙ drop_all i.sent i.held.items (grind arith)
