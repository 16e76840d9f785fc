use Rattle.std.proofs.Common.{rules}
use Rattle.verity_report.proofs.row.Row.note.Goals as goal

pub returns-in_ok-push-in-Unread-clause-noted : goal.returns-in_ok-push-in-Unread-clause-noted
returns-in_ok-push-in-Unread-clause-noted g c = search rules depth 0

pub returns-in_ok-push-in-Bad-clause-noted : goal.returns-in_ok-push-in-Bad-clause-noted
returns-in_ok-push-in-Bad-clause-noted g c = search rules depth 0

pub returns-in-Unchecked-clause-noted : goal.returns-in-Unchecked-clause-noted
returns-in-Unchecked-clause-noted g c = search rules depth 1

pub returns-in-Unchecked-clause-counted : goal.returns-in-Unchecked-clause-counted
returns-in-Unchecked-clause-counted g c = search rules depth 0
