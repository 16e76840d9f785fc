use Rattle.nbd_session.proofs.Moving.{Keeps-refl}
use Rattle.nbd_session.proofs.export.Export.warm.Goals as goal

pub returns : goal.returns
returns g c = record {
  keeps = Keeps-refl (g.Self.Export.facts c.args.self.now);
  later = g.met.Self.Export.later_same c.args.self.now;
}
