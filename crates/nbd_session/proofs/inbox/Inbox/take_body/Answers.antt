use Rattle.std.proofs.Common.{◌≡◌, length, take, ◌-◌, ap, ◌∙◌, arith}
use Rattle.std.proofs.lemmas.Grind.{common_steps}
use Rattle.std.proofs.lemmas.List.{length-take-le}
use Rattle.nbd_session.specs.Inbox.{with_body}
use Rattle.nbd_session.proofs.Waiting.{Comes, comes, front_comes, missing_comes, kept_comes, whole_comes}
use Rattle.nbd_session.proofs.inbox.Inbox.take_body.Goals as goal

pub returns-then-self-gt0-clause-moved : goal.returns-then-self-gt0-clause-moved
returns-then-self-gt0-clause-moved g c = λ u w.
    let k : Comes c.args.self.now.phase u c.args.self.now.missing =
    comes c.args.self.now.phase u c.args.self.now.missing w.missing c.requires.body in
    let t : length (take c.min-taken.result c.args.piece.now) ≡ c.min-taken.result =
    length-take-le c.min-taken.result c.args.piece.now (grind (arith, common_steps)) in
    record {
      partial = front_comes c.args.self.now.phase u (take c.min-taken.result c.args.piece.now) c.args.self.now.missing k
          (omega (arith, t, c.if-self-gt0.true));
      held = c.in_ok-keep.ensures.held ∙ ap (λ x. with_body c.args.self.now.phase x (take c.min-taken.result c.args.piece.now))
          w.held ∙ kept_comes c.args.self.now.phase u (take c.min-taken.result c.args.piece.now) k.header;
      missing = missing_comes c.args.self.now.phase u (take c.min-taken.result c.args.piece.now) c.args.self.now.missing
          (c.args.self.now.missing - c.min-taken.result) k (omega (arith, t, c.if-self-gt0.true));
    }

pub returns-clause-moved : goal.returns-clause-moved
returns-clause-moved g c = λ u w.
    let k : Comes c.args.self.now.phase u c.args.self.now.missing =
    comes c.args.self.now.phase u c.args.self.now.missing w.missing c.requires.body in
    let t : length (take c.min-taken.result c.args.piece.now) ≡ c.min-taken.result =
    length-take-le c.min-taken.result c.args.piece.now (grind (arith, common_steps)) in
    let m : c.min-taken.result ≡ c.args.self.now.missing = grind (arith, common_steps) in
    whole_comes c.args.self.now.phase u (take c.min-taken.result c.args.piece.now) c.keep.new.held.items c.args.self.now.missing k (t ∙ m)
    (c.in_ok-keep.ensures.held ∙ ap (λ x. with_body c.args.self.now.phase x (take c.min-taken.result c.args.piece.now)) w.held
    ∙ kept_comes c.args.self.now.phase u (take c.min-taken.result c.args.piece.now) k.header)
