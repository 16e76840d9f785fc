use Rattle.std.proofs.Common.{length, ap, ◌∙◌, arith}
use Rattle.nbd_serve.specs.Sockets.{SocketState}
use Rattle.nbd_serve.proofs.Lulls.{begins_at, begins_so, is_noted, pends_so}
use Rattle.nbd_serve.proofs.connected.Connected.note.Goals as goal

pub returns-then-note-clause-noted : goal.returns-then-note-clause-noted
returns-then-note-clause-noted g c =
    let client = c.index-client.result.now in
    is_noted _ _ _ _ client _ c.requires (omega (arith, c.args.self.now.placed, c.requires)) c.index-client.ensures
    (c.note.ensures.taken ∙ c.taken-taken.ensures
    ∙ ap (λ (s : SocketState g.row.C.Denot). length (g.C.Connection.log s.connection).wrote) c.stream.ensures)
    (c.note.ensures.pending
    ∙ pends_so c.held-pending.result client.0.unsent c.held-pending.ensures.covers c.held-pending.ensures.given_back)

pub returns-else-note-clause-noted : goal.returns-else-note-clause-noted
returns-else-note-clause-noted g c =
    let client = c.index-client.result.now in
    is_noted _ _ _ _ client _ c.requires (omega (arith, c.args.self.now.placed, c.requires)) c.index-client.ensures
    (c.note.ensures.taken ∙ c.taken-taken.ensures
    ∙ ap (λ (s : SocketState g.row.C.Denot). length (g.C.Connection.log s.connection).wrote) c.stream.ensures)
    (c.note.ensures.pending
    ∙ pends_so c.held-pending.result client.0.unsent c.held-pending.ensures.covers c.held-pending.ensures.given_back)

pub returns-then-note-clause-begins : goal.returns-then-note-clause-begins
returns-then-note-clause-begins g c = λ old new there there'.
    let self = c.args.self.now in
    let seat = c.index_mut-seat.result.now in
    begins_at self.seats.items c.args.at seat _ old new c.args.now (omega (arith, self.placed, c.requires)) c.index_mut-seat.ensures.value
    (begins_so seat.lull c.note.new.self c.args.now _ _ c.note.ensures.taken c.note.ensures.begins) there there'

pub returns-else-note-clause-begins : goal.returns-else-note-clause-begins
returns-else-note-clause-begins g c = λ old new there there'.
    let self = c.args.self.now in
    let seat = c.index_mut-seat.result.now in
    begins_at self.seats.items c.args.at seat _ old new c.args.now (omega (arith, self.placed, c.requires)) c.index_mut-seat.ensures.value
    (begins_so seat.lull c.note.new.self c.args.now _ _ c.note.ensures.taken c.note.ensures.begins) there there'
