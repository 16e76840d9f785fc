use Rattle.std.proofs.Common.{refl}
use Rattle.cli_edit.specs.Printed.{Done, Committed, Refused}
use Rattle.cli_edit.proofs.Answering.{answered_as, one_answer}
use Rattle.cli_edit.proofs.script.print_answer.Goals as goal

pub returns-in_ok-writeln-in-Done-clause-answered : goal.returns-in_ok-writeln-in-Done-clause-answered
returns-in_ok-writeln-in-Done-clause-answered g c = one_answer c.args.devices _ _ Done c.in_ok-writeln-in-Done.ensures.bytes

pub returns-in_ok-writeln-in-Committed-clause-answered : goal.returns-in_ok-writeln-in-Committed-clause-answered
returns-in_ok-writeln-in-Committed-clause-answered g c =
    one_answer c.args.devices _ _ (Committed c.superblock.result.now c.in-Committed.committed.root)
    (rw c.in_ok-line-in-Committed.ensures.text at c.in_ok-writeln-in-Committed.ensures.bytes)

pub returns-in_ok-writeln-in-Refused-clause-answered : goal.returns-in_ok-writeln-in-Refused-clause-answered
returns-in_ok-writeln-in-Refused-clause-answered g c =
    one_answer c.args.devices _ _ (Refused c.in-Refused.fault) c.in_ok-writeln-in-Refused.ensures.bytes

pub returns-in_ok-writeln-in-Done-clause-printed : goal.returns-in_ok-writeln-in-Done-clause-printed
returns-in_ok-writeln-in-Done-clause-printed g c =
    answered_as c.args.devices _ _ _ c.args.answer _ _ c.in-Done.is
    (record { printed = c.in_ok-writeln-in-Done.ensures.bytes; status = refl })

pub returns-in_ok-writeln-in-Committed-clause-printed : goal.returns-in_ok-writeln-in-Committed-clause-printed
returns-in_ok-writeln-in-Committed-clause-printed g c =
    answered_as c.args.devices _ _ _ c.args.answer _ _ c.in-Committed.is (record {
      printed = rw c.superblock.ensures at (rw c.in_ok-line-in-Committed.ensures.text at c.in_ok-writeln-in-Committed.ensures.bytes);
      status = refl;
    })

pub returns-in_ok-writeln-in-Refused-clause-printed : goal.returns-in_ok-writeln-in-Refused-clause-printed
returns-in_ok-writeln-in-Refused-clause-printed g c =
    answered_as c.args.devices _ _ _ c.args.answer _ _ c.in-Refused.is
    (record { printed = c.in_ok-writeln-in-Refused.ensures.bytes; status = refl })
