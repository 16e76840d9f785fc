use Rattle.std.proofs.Common.{ap, length}
use Rattle.nbd_serve.proofs.Keeping.{all_back, told_by, kept_partings}
use Rattle.nbd_serve.proofs.room.Room.give_back.Goals as goal

pub returns-clause-given_back : goal.returns-clause-given_back
returns-clause-given_back g c = λ begun k.
    let kept = c.give_back-2.ensures.kept begun _ (kept_partings g.C.Connection.log g.E.Export.facts g.E.Export.later begun c.args.hub.now
    _ _ _ _ _ (c.give_back.ensures.told begun c.args.hub.now) k) in
    all_back g.C.Connection.log g.E.Export.facts g.E.Export.later begun c.give_back-2.new.hub _
    (told_by g.C.Connection.log g.E.Export.facts g.E.Export.later begun c.give_back-2.new.hub _ _ _
    (ap length c.give_back-2.ensures.none) c.give_back.ensures.none kept.told)
