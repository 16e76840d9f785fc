use Rattle.nbd_serve.proofs.Tellings.{tells_same}
use Rattle.nbd_serve.proofs.Keeping.{kept_turned}
use Rattle.nbd_serve.proofs.room.Room.turns_at.Goals as goal

pub returns-in-On-clause-told : goal.returns-in-On-clause-told
returns-in-On-clause-told g c = tells_same _ _ _ _ _ _ c.turns_of.ensures.numbers

pub returns-in-Waits-clause-told : goal.returns-in-Waits-clause-told
returns-in-Waits-clause-told g c = tells_same _ _ _ _ _ _ c.turns_of.ensures.numbers

pub returns-in-On-clause-kept : goal.returns-in-On-clause-kept
returns-in-On-clause-kept g c = λ begun k. let t = c.turns_of.ensures in
    kept_turned _ _ _ g.met.E.Export.later_on begun _ _ _ _ _ _ t.goes_on t.count t.serves k

pub returns-in-Waits-clause-kept : goal.returns-in-Waits-clause-kept
returns-in-Waits-clause-kept g c = λ begun k. let t = c.turns_of.ensures in
    kept_turned _ _ _ g.met.E.Export.later_on begun _ _ _ _ _ _ t.goes_on t.count t.serves k

pub returns-in_err-part-in-Done-clause-kept : goal.returns-in_err-part-in-Done-clause-kept
returns-in_err-part-in-Done-clause-kept g c = λ begun k. let t = c.turns_of.ensures in
    c.part.ensures.kept begun (kept_turned _ _ _ g.met.E.Export.later_on begun _ _ _ _ _ _ t.goes_on t.count t.serves k)

pub returns-in_ok-part-in-Done-clause-kept : goal.returns-in_ok-part-in-Done-clause-kept
returns-in_ok-part-in-Done-clause-kept g c = λ begun k. let t = c.turns_of.ensures in
    c.part.ensures.kept begun (kept_turned _ _ _ g.met.E.Export.later_on begun _ _ _ _ _ _ t.goes_on t.count t.serves k)

pub returns-in_err-leave-in-Failed-clause-kept : goal.returns-in_err-leave-in-Failed-clause-kept
returns-in_err-leave-in-Failed-clause-kept g c = λ begun k. let t = c.turns_of.ensures in
    c.leave.ensures.kept begun (kept_turned _ _ _ g.met.E.Export.later_on begun _ _ _ _ _ _ t.goes_on t.count t.serves k)

pub returns-in_ok-leave-in-Failed-clause-kept : goal.returns-in_ok-leave-in-Failed-clause-kept
returns-in_ok-leave-in-Failed-clause-kept g c = λ begun k. let t = c.turns_of.ensures in
    c.leave.ensures.kept begun (kept_turned _ _ _ g.met.E.Export.later_on begun _ _ _ _ _ _ t.goes_on t.count t.serves k)
