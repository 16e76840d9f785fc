use Rattle.std.proofs.Common.{arith}
use Rattle.std.proofs.lemmas.List.{length-set}
use Rattle.nbd_serve.proofs.Keeping.{drained_one, gone_one}
use Rattle.nbd_serve.proofs.partings.Partings.hear_at.Goals as goal

pub returns-then-hear-clause-told : goal.returns-then-hear-clause-told
returns-then-hear-clause-told g c = λ begun hub n k. drained_one g.C.Connection.log g.E.Export.facts g.E.Export.later begun hub n
    c.args.self.now.leaving.items c.args.at c.index_mut-parting.result.now c.hear.new.self _ c.requires
    c.index_mut-parting.ensures.value c.hear.ensures k

pub returns-clause-told : goal.returns-clause-told
returns-clause-told g c = λ begun hub n k. gone_one g.C.Connection.log g.E.Export.facts g.E.Export.later begun hub n _ _ c.args.at
    c.remove-parting.result _ _ _
    (omega (arith, c.requires, length-set c.args.self.now.leaving.items c.args.at c.hear.new.self)) c.remove-parting.ensures.value
    c.into_connection.ensures c.remove-parting.ensures.items c.close.ensures
    (drained_one g.C.Connection.log g.E.Export.facts g.E.Export.later begun hub n c.args.self.now.leaving.items c.args.at
    c.index_mut-parting.result.now c.hear.new.self _ c.requires c.index_mut-parting.ensures.value c.hear.ensures k)
