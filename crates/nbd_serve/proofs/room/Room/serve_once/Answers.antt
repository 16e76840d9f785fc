use Rattle.nbd_serve.proofs.Tellings.{tells_from, tells_then}
use Rattle.nbd_serve.proofs.Keeping.{kept_same, kept_partings}
use Rattle.std.proofs.Common.{refl}
use Rattle.nbd_serve.proofs.room.Room.serve_once.Goals as goal

pub returns-then-feeds-clause-told : goal.returns-then-feeds-clause-told
returns-then-feeds-clause-told g c = tells_then _ _ _ _ _ _ c.in_ok-accept_all.ensures.told
    (tells_then _ _ _ _ _ _ c.in_ok-goes_on.ensures.told (tells_from _ _ _ _ _ c.part_all-parts_on.ensures.stands
    c.in_ok-leave_idle.ensures.told))

pub returns-else-feeds-clause-told : goal.returns-else-feeds-clause-told
returns-else-feeds-clause-told g c = tells_then _ _ _ _ _ _ c.in_ok-accept_all.ensures.told
    (tells_then _ _ _ _ _ _ c.in_ok-goes_on.ensures.told (tells_from _ _ _ _ _ c.part_all-parts_on.ensures.stands
    c.in_ok-leave_idle.ensures.told))

pub returns-in_err-goes_on-clause-kept : goal.returns-in_err-goes_on-clause-kept
returns-in_err-goes_on-clause-kept g c = λ begun k. c.round.ensures.kept begun (c.accept_all.ensures.kept begun k)

pub returns-in_err-leave_idle-clause-kept : goal.returns-in_err-leave_idle-clause-kept
returns-in_err-leave_idle-clause-kept g c = λ begun k. c.leave_idle.ensures.kept begun
    (kept_same g.C.Connection.log g.E.Export.facts g.E.Export.later begun _ _ _ _ _ _ _
    c.part_all-parts_on.ensures.clients refl refl
    (kept_partings g.C.Connection.log g.E.Export.facts g.E.Export.later begun _ _ _ _ _ _
    (c.part_all-parts_on.ensures.told begun _) (c.round.ensures.kept begun (c.accept_all.ensures.kept begun k))))

pub returns-then-feeds-clause-kept : goal.returns-then-feeds-clause-kept
returns-then-feeds-clause-kept g c = λ begun k. c.leave_idle.ensures.kept begun
    (kept_same g.C.Connection.log g.E.Export.facts g.E.Export.later begun _ _ _ _ _ _ _
    c.part_all-parts_on.ensures.clients refl refl
    (kept_partings g.C.Connection.log g.E.Export.facts g.E.Export.later begun _ _ _ _ _ _
    (c.part_all-parts_on.ensures.told begun _) (c.round.ensures.kept begun (c.accept_all.ensures.kept begun k))))

pub returns-else-feeds-clause-kept : goal.returns-else-feeds-clause-kept
returns-else-feeds-clause-kept g c = λ begun k. c.leave_idle.ensures.kept begun
    (kept_same g.C.Connection.log g.E.Export.facts g.E.Export.later begun _ _ _ _ _ _ _
    c.part_all-parts_on.ensures.clients refl refl
    (kept_partings g.C.Connection.log g.E.Export.facts g.E.Export.later begun _ _ _ _ _ _
    (c.part_all-parts_on.ensures.told begun _) (c.round.ensures.kept begun (c.accept_all.ensures.kept begun k))))
