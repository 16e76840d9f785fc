use Rattle.std.proofs.Common.{rules, Some}
use Rattle.cli_edit.proofs.Doing.{own_for}
use Rattle.cli_edit.proofs.over.begin.Goals as goal

pub returns-in-Ok-clause-blames : goal.returns-in-Ok-clause-blames
returns-in-Ok-clause-blames g c =
    own_for g.T.Work.blamed _ _ (λ because. (Some c.in-Ok.image, c.args.hash.now, search rules, c.requires.hash, because))
    c.begin.result c.begin.ensures.blames
