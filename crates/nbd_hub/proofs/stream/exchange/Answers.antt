use Rattle.std.proofs.Common.{◌++◌, List, ℕ, sym, ◌∙◌, subst, refl}
use Rattle.std.specs.Io.KnownBytes.{Appends}
use Rattle.nbd_hub.proofs.Turns.{failed, feeds_from, turned_fed}
use Rattle.nbd_hub.proofs.stream.exchange.Goals as goal

pub returns-in-Ok-write_out : goal.returns-in-Ok-write_out
returns-in-Ok-write_out g c =
    let f = g.E.Export.facts in
    let a = f c.args.hub.now.1 in
    let b = f c.feed.new.self.1 in
    let o = c.in-Ok.ensures.feeds in
    let out = c.feed.new.out.items in
    let d = feeds_from a b o.before o.after c.args.piece.now c.clear.new.self.items out out c.in-Ok.status c.clear.ensures.items
    refl o.feeds in
    let P : List ℕ → Type 0 = λ x. Appends (g.W.Output.contents c.args.writer.now) (g.W.Output.contents c.write_out.new.writer) x in
    let n = c.in_default.not-Starved in
    let i = d.ended n in
    let k = c.is_over.ensures in
    record {
      offer = o.offer;
      keeps = d.keeps;
      later = c.in-Ok.ensures.later;
      next = o.next;
      count = o.count;
      exchanged = (
        o.before,
        o.after,
        o.found,
        o.offers,
        d.offer ∙ o.offers,
        o.sets,
        (
          out,
          subst P c.deref.ensures.value c.in-Ok-write_out.ensures.ok,
          (λ input at. (d.at n input at, d.talks n input at)),
          ((λ x. i.0 (k.0 x)), λ x. k.1 (i.1 x)),
          d.awake n,
        ),
      );
      write_failed = c.in-Ok-write_out.ensures.failed;
      after = λ history x. turned_fed b c.feed.new.self.0 history c.args.id c.args.piece.now c.clear.new.self.items out
          c.in-Ok.status (c.in-Ok.ensures.after history x);
    }

pub returns-in-Err-write_out : goal.returns-in-Err-write_out
returns-in-Err-write_out g c =
    let f = g.E.Export.facts in
    let a = f c.args.hub.now.1 in
    let b = f c.feed.new.self.1 in
    let o = c.in-Ok.ensures.feeds in
    let out = c.feed.new.out.items in
    let q = c.in-Err-write_out.ensures.err in
    let d = feeds_from a b o.before o.after c.args.piece.now c.clear.new.self.items out (q.0 ++ q.1) c.in-Ok.status
    c.clear.ensures.items (sym c.deref.ensures.value ∙ q.2) o.feeds in
    let n = c.in_default.not-Starved in
    record {
      offer = o.offer;
      keeps = d.keeps;
      later = c.in-Ok.ensures.later;
      next = o.next;
      count = o.count;
      exchanged = (
        o.before,
        o.after,
        o.found,
        o.offers,
        d.offer ∙ o.offers,
        o.sets,
        (q.0, q.1, q.3, (λ input at. (d.at n input at, d.talks n input at))),
      );
      write_failed = failed (Unit {0}) _ _ _ c.in-Err-write_out.ensures.fault c.in-Err-write_out.ensures.failed;
      after = λ history x. turned_fed b c.feed.new.self.0 history c.args.id c.args.piece.now c.clear.new.self.items out
          c.in-Ok.status (c.in-Ok.ensures.after history x);
    }
