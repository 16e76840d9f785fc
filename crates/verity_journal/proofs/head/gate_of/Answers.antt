use Rattle.std.proofs.Common.{rules}
use Rattle.verity_journal.proofs.Heads.{says_closed, says_opened}
use Rattle.verity_journal.proofs.head.gate_of.Goals as goal

pub returns-in-Some-eq0 : goal.returns-in-Some-eq0
returns-in-Some-eq0 c = says_closed c.args.bytes.now c.in-Some-eq0.field-0.now c.in-Some-eq0.ensures.some (search rules) (search rules)

pub returns-in-Some-len1-up : goal.returns-in-Some-len1-up
returns-in-Some-len1-up c =
    says_opened c.args.bytes.now c.in-Some-len1-up.field-0.now c.in-Some-len1-up.ensures.some (search rules) (search rules)
