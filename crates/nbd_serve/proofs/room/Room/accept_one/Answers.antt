use Rattle.nbd_serve.proofs.Tellings.{tells_none}
use Rattle.nbd_serve.proofs.Keeping.{kept_same}
use Rattle.std.proofs.Common.{refl}
use Rattle.nbd_serve.proofs.room.Room.accept_one.Goals as goal

pub returns-then-eq-2-clause-told : goal.returns-then-eq-2-clause-told
returns-then-eq-2-clause-told g c = tells_none _ _

pub returns-then-eq-clause-told : goal.returns-then-eq-clause-told
returns-then-eq-clause-told g c = tells_none _ _

pub returns-then-passes-clause-told : goal.returns-then-passes-clause-told
returns-then-passes-clause-told g c = tells_none _ _

pub returns-then-eq-clause-kept : goal.returns-then-eq-clause-kept
returns-then-eq-clause-kept g c = λ begun k. kept_same _ _ _ begun _ _ _ _ _ _ _ refl refl c.in-Err.ensures.refused k

pub returns-then-passes-clause-kept : goal.returns-then-passes-clause-kept
returns-then-passes-clause-kept g c = λ begun k. kept_same _ _ _ begun _ _ _ _ _ _ _ refl refl c.in-Err.ensures.refused k

pub returns-then-eq-2-clause-kept : goal.returns-then-eq-2-clause-kept
returns-then-eq-2-clause-kept g c = λ begun k. kept_same _ _ _ begun _ _ _ _ _ _ _ refl refl c.in-Err.ensures.refused k

pub returns-else-eq-2-clause-kept : goal.returns-else-eq-2-clause-kept
returns-else-eq-2-clause-kept g c = λ begun k. kept_same _ _ _ begun _ _ _ _ _ _ _ refl refl c.in-Err.ensures.refused k

pub returns-in_err-let_in-in-Ok-clause-kept : goal.returns-in_err-let_in-in-Ok-clause-kept
returns-in_err-let_in-in-Ok-clause-kept g c = λ begun k. c.let_in.ensures.kept begun (g.L.Door.visits c.args.door.now) c.in-Ok.ensures.empty
    c.in-Ok.ensures.accepted k

pub returns-in_ok-let_in-in-Ok-clause-kept : goal.returns-in_ok-let_in-in-Ok-clause-kept
returns-in_ok-let_in-in-Ok-clause-kept g c = λ begun k. c.let_in.ensures.kept begun (g.L.Door.visits c.args.door.now) c.in-Ok.ensures.empty
    c.in-Ok.ensures.accepted k
