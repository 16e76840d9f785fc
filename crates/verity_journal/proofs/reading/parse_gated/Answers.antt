use Rattle.std.proofs.Common.{◌≡◌, ◌-◌, rules, length, take, drop, Some, subst}
use Rattle.std.specs.Prelude.{IfSome}
use Rattle.verity_journal.specs.Journal.{read_plan}
use Rattle.verity_journal.proofs.Gates.{opened_is}
use Rattle.verity_journal.proofs.reading.parse_gated.Goals as goal

pub returns-in-Some-clause-some : goal.returns-in-Some-clause-some
returns-in-Some-clause-some g c =
    opened_is c.args.gated.now _ (search rules) (search rules)
    (subst (λ r. IfSome r (λ plan. read_plan (take (length c.args.gated.now - 1) (drop 1 c.args.gated.now)) ≡ Some plan))
    c.in-Some.is c.in_ok-plan.ensures.some)
