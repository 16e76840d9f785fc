use Rattle.std.proofs.Common.{length, refl, sym, ap, ◌∙◌, subst, arith}
use Rattle.std.proofs.lemmas.Option.{slice_get_read}
use Rattle.nbd_relay.specs.Client.{ClientState}
use Rattle.nbd_serve.specs.declared.connected.Seat.{Seat}
use Rattle.nbd_serve.specs.Sockets.{SocketState}
use Rattle.nbd_serve.specs.Stalling.{HasLasted}
use Rattle.nbd_serve.proofs.Lulls.{pends, read_is}
use Rattle.nbd_serve.proofs.connected.Connected.is_lulled.Goals as goal

pub returns-then-held-gt0-clause-lulled : goal.returns-then-held-gt0-clause-lulled
returns-then-held-gt0-clause-lulled g c = λ e.
    let self = c.args.self.now in
    let client = c.index-client.result.now in
    let over = c.is_over.ensures.0 e in (
      client,
      c.index.result.now,
      slice_get_read self.clients.items (length self.clients.items) c.args.at client refl c.requires c.index-client.ensures,
      slice_get_read self.seats.items (length self.clients.items) c.args.at c.index.result.now (sym self.placed) c.requires
          c.index.ensures,
      record {
        pending = pends c.held.result client.0.unsent c.held.ensures.given_back c.if-held-gt0.true;
        took_none = over.0 ∙ c.taken.ensures
            ∙ ap (λ (s : SocketState g.row.C.Denot). length (g.C.Connection.log s.connection).wrote) c.stream.ensures;
        long = over.1;
      },
    )

pub returns-then-held-gt0-clause-all : goal.returns-then-held-gt0-clause-all
returns-then-held-gt0-clause-all g c = λ client seat there sits lulled.
    let self = c.args.self.now in
    let sat = read_is self.seats.items c.args.at c.index.result.now seat c.index.ensures sits in
    let is = read_is self.clients.items c.args.at c.index-client.result.now client c.index-client.ensures there in
    c.is_over.ensures.1 (
      ap (λ (s : Seat). s.lull.taken) sat ∙ lulled.took_none
          ∙ sym (c.taken.ensures
          ∙ ap (λ (s : SocketState g.row.C.Denot). length (g.C.Connection.log s.connection).wrote) c.stream.ensures
          ∙ ap (λ (z : ClientState × SocketState g.row.C.Denot). length (g.C.Connection.log z.1.connection).wrote) is),
      subst (λ (s : Seat). HasLasted s.lull.since c.args.stall c.args.now) (sym sat) lulled.long,
    )

pub returns-else-held-gt0-clause-all : goal.returns-else-held-gt0-clause-all
returns-else-held-gt0-clause-all g c = λ client seat there sits lulled.
    let is = read_is c.args.self.now.clients.items c.args.at c.index-client.result.now client c.index-client.ensures there in
    let same = ap (λ (z : ClientState × SocketState g.row.C.Denot). length z.0.unsent) is in
    absurd (omega (arith, same, lulled.pending, c.held.ensures.covers, c.if-held-gt0.false))
