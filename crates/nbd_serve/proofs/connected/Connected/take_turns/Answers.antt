use Rattle.std.proofs.Common.{◌≡◌, List, None, length, sym, subst, ◌∙◌}
use Rattle.std.proofs.lemmas.List.{with_items_is}
use Rattle.nbd_relay.specs.Client.{ClientState}
use Rattle.nbd_serve.specs.Sockets.{AreServed, SocketState}
use Rattle.nbd_serve.proofs.Keeping.{served_runs}
use Rattle.nbd_serve.proofs.connected.Connected.take_turns.Goals as goal

pub returns-clause-serves : goal.returns-clause-serves
returns-clause-serves g c = λ s.
    let clients = c.args.self.now.clients in
    let whole : length c.go_on.new.clients ≡ clients.len = c.go_on.auto.clients ∙ c.deref_mut.ensures.len in
    subst (λ (cs : List (ClientState × SocketState g.row.C.Denot)). AreServed g.E.Export.facts g.C.Connection.log c.go_on.new.hub cs)
    (sym (with_items_is clients c.go_on.new.clients whole))
    (served_runs g.C.Connection.log g.E.Export.facts (λ s. None) c.args.hub.now c.go_on.new.hub c.deref_mut.result.now c.go_on.new.clients
    (subst (λ (cs : List (ClientState × SocketState g.row.C.Denot)). AreServed g.E.Export.facts g.C.Connection.log c.args.hub.now cs)
    (sym c.deref_mut.ensures.value) s) c.go_on.ensures.serves)
