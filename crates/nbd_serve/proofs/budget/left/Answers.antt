use Rattle.std.proofs.Common.{◌≡◌, ◌+◌, ◌-◌, ◌<◌, length, take, get_or, ap, arith, add-one}
use Rattle.std.proofs.lemmas.List.{nil_from_length}
use Rattle.nbd_serve.specs.Pending.{beyond}
use Rattle.nbd_serve.proofs.Counting.{one_beyond, one_of_all}
use Rattle.nbd_serve.proofs.budget.left.Goals as goal

pub returns-then-left-more-clause-given_back : goal.returns-then-left-more-clause-given_back
returns-then-left-more-clause-given_back g c = λ p _.
    let i = c.loop-client.client-index in
    let d = c.client-item.result in
    let below : i < length c.args.clients.now = omega (arith, c.loop-client-test.true) in
    let same = ap (λ z. length z.0.unsent) c.client-item.is in
    let none = nil_from_length d.0.unsent (omega (arith, same, one_of_all c.args.clients.now i d below, p)) in
    absurd (omega (arith, c.if-left-more.true, c.saturating_sub-more.ensures, c.held.ensures.given_back none))

pub loop-client-preserved : goal.loop-client-preserved
loop-client-preserved g c =
    let i = c.loop-client.client-index in
    let d = c.client-item.result in
    let share = c.args.budget.share in
    let below : i < length c.args.clients.now = omega (arith, c.loop-client-test.true) in
    let same = ap (λ z. length z.0.unsent) c.client-item.is in
    let more : beyond share (take (i + 1) c.args.clients.now) ≡ beyond share (take i c.args.clients.now) + (length
    (get_or c.args.clients.now i d).0.unsent - share) = rw add-one (one_beyond share c.args.clients.now i d below) in
    record {
      within = omega (
        arith,
        more,
        same,
        c.saturating_sub-more.ensures,
        c.held.ensures.covers,
        c.if-left-more.false,
        c.loop-client.invariant.within,
      );
      back = λ p.
          let none = nil_from_length d.0.unsent (omega (arith, same, one_of_all c.args.clients.now i d below, p)) in
          omega (
            arith,
            c.saturating_sub-more.ensures,
            c.held.ensures.given_back none,
            c.loop-client.invariant.back p,
            c.if-left-more.false,
          );
    }
