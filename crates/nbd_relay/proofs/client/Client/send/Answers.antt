use Rattle.std.proofs.Common.{◌+◌, ◌-◌, take, drop, sym, subst}
use Rattle.nbd_relay.specs.Client.{ClientState, Sends}
use Rattle.nbd_relay.specs.declared.client.Turn.TheVariants as turn
use Rattle.nbd_relay.proofs.Sending.{sends_some}
use Rattle.nbd_relay.proofs.client.Client.send.Goals as goal

pub returns-in-Ok-clause-sends : goal.returns-in-Ok-clause-sends
returns-in-Ok-clause-sends g c =
    let i = c.self.inside in
    let new : ClientState = record {
      id = i.session;
      waiting = take (i.end - i.begin) (drop i.begin i.input);
      unsent = drop (i.sent + c.in-Ok.taken) i.pending.items;
      over = i.over;
    } in
    let P : ClientState × g.row.S.Denot → Type 0 =
    λ z. Sends z.0 new (g.S.Stream.contents z.1) (g.S.Stream.contents c.send.new.self) turn.Again in
    let R : ClientState × g.row.S.Denot → Type 0 = λ z. Sends c.args.self.now.0 z.0 (g.S.Stream.contents c.args.self.now.1)
    (g.S.Stream.contents z.1) turn.Again in
    subst R (sym c.free.ensures) (subst P c.self.view_is
    (sends_some (g.S.Stream.contents i.stream) (g.S.Stream.contents c.send.new.self) i.session _ i.over i.pending.items
    c.deref.result.now i.sent c.in-Ok.taken
    c.deref.ensures.value c.in-Ok.taken-test.1 c.in-Ok.ensures.bound c.in-Ok.ensures.bytes))
