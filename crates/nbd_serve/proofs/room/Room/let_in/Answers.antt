use Rattle.nbd_serve.proofs.Tellings.{tells_refused, tells_seated, where_ok}
use Rattle.std.proofs.Common.{ap, ◌∙◌}
use Rattle.nbd_serve.proofs.Keeping.{kept_refused, kept_seated}
use Rattle.nbd_serve.proofs.room.Room.let_in.Goals as goal

pub returns-in-Err-clause-told : goal.returns-in-Err-clause-told
returns-in-Err-clause-told g c = where_ok c.tell_end.result (tells_refused _ _ _ _ _ _ c.args.self.now.faulty _ c.in-Err.ensures.numbers)
    c.tell_end.ensures.printed

pub returns-in-Ok-clause-told : goal.returns-in-Ok-clause-told
returns-in-Ok-clause-told g c = tells_seated _ _ _ _ _ _ c.in-Ok.ensures.number

pub returns-in-Ok-clause-kept : goal.returns-in-Ok-clause-kept
returns-in-Ok-clause-kept g c = λ begun before fresh accepted k.
    kept_seated _ _ _ g.met.E.Export.later_on begun _ _ _ _ _ before _ c.seat-seated.ensures.goes_on c.in-Ok.ensures.added accepted
    (c.seat-seated.ensures.serves fresh) k

pub returns-in-Err-clause-kept : goal.returns-in-Err-clause-kept
returns-in-Err-clause-kept g c = λ begun before fresh accepted k.
    kept_refused _ _ _ g.met.E.Export.later_on begun _ _ _ _ _ before _ _ _ c.seat-seated.ensures.goes_on
    (g.met.E.Export.later_same _) c.in-Err.ensures.refused accepted c.close.ensures
    (ap g.C.Connection.log c.in-Err.ensures.handed_back ∙ fresh) (c.seat-seated.ensures.serves fresh) k
