use Rattle.std.proofs.Common.{◌≡◌, ◌<◌, length, None, sym, ap, ◌∙◌, subst}
use Rattle.nbd_hub.specs.Sessions.{HubState, lookup}
use Rattle.nbd_hub.specs.After.{IsAfter}
use Rattle.nbd_relay.specs.Client.{ClientState, Feeds}
use Rattle.nbd_relay.proofs.client.Client.feed_ahead.Goals as goal

pub feed-requires : goal.feed-requires
feed-requires g c =
    let same = c.announce.ensures.same in
    let W : ClientState × g.row.S.Denot → Type 0 = λ z. 0 < length z.0.waiting in
    record {
      drained = ap (λ z. z.0.unsent) same ∙ c.requires.drained;
      some = subst W (sym same) c.requires.some;
      goes_on = ap (λ z. z.0.over) same ∙ c.requires.goes_on;
    }

pub returns-clause-stream : goal.returns-clause-stream
returns-clause-stream g c = c.feed.ensures.stream ∙ ap (λ z. z.1) c.announce.ensures.same

pub returns-clause-later : goal.returns-clause-later
returns-clause-later g c = g.met.E.Export.later_on c.args.hub.now.1 c.announce.new.hub.1 c.feed.new.hub.1 c.announce.ensures.later
    c.feed.ensures.later

pub returns-clause-feeds : goal.returns-clause-feeds
returns-clause-feeds g c = λ n.
    let f = g.E.Export.facts in
    let a = c.announce.ensures in
    let hub = c.announce.new.hub in
    let new = c.feed.new in
    let P : HubState → Type 0 = λ z. Feeds (f hub.1) (f new.hub.1) z new.hub.0 c.args.self.now.0 new.self.0 c.feed.result in
    let Q : ClientState × g.row.S.Denot → Type 0 = λ z. Feeds (f hub.1) (f new.hub.1) hub.0 new.hub.0 z.0 new.self.0 c.feed.result in (
      hub.1,
      record { keeps = a.keeps; after = λ h x. let R : HubState → Type 0 = λ z. IsAfter (f hub.1) z h in subst R a.state (a.after h x) },
      subst P a.state (subst Q a.same (c.feed.ensures.feeds n)),
    )

pub returns-clause-gone : goal.returns-clause-gone
returns-clause-gone g c = λ e.
    let a = c.announce.ensures in
    let hub = c.announce.new.hub in
    let k = c.feed.ensures.gone e in
    let none : lookup c.args.self.now.0.id c.args.hub.now.0.sessions ≡ None =
    ap (λ (z : HubState). lookup c.args.self.now.0.id z.sessions) (sym a.state)
    ∙ ap (λ z. lookup z.0.id hub.0.sessions) (sym a.same) ∙ k.0 in
    (none, k.1 ∙ a.unknown none, k.2 ∙ ap (λ z. z.0) a.same)
