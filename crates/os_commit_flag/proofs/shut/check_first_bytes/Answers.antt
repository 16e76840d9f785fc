use Rattle.std.proofs.Common.{inr, rules, subst}
use Rattle.os_commit_flag.specs.Shut.{HasGateNow}
use Rattle.os_commit_flag.proofs.Unshut.{no_journal, under_way}
use Rattle.os_commit_flag.proofs.shut.check_first_bytes.Goals as goal

pub returns-in-Open-clause-refused : goal.returns-in-Open-clause-refused
returns-in-Open-clause-refused g c = under_way _ _ c.into.result (search rules)
    (subst (HasGateNow g.S.System c.args.system.now c.args.journal) c.in-Open.is c.in_ok-gate_in.ensures.gate)

pub returns-in-Foreign-clause-refused : goal.returns-in-Foreign-clause-refused
returns-in-Foreign-clause-refused g c = no_journal _ _ c.into-in-Foreign.result (search rules)
    (inr (subst (HasGateNow g.S.System c.args.system.now c.args.journal) c.in-Foreign.is c.in_ok-gate_in.ensures.gate))
