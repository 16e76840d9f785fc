use Rattle.std.proofs.Common.{sym, ◌∙◌}
use Rattle.cli_faults.proofs.Decimals.{not_digits, read, unread}
use Rattle.cli_faults.proofs.values.number.Goals as goal

pub returns-then-not-are_digits : goal.returns-then-not-are_digits
returns-then-not-are_digits c = not_digits c.args.word c.args.text.now (sym c.are_digits.ensures ∙ c.if-not-are_digits.true)

pub returns-in-Ok : goal.returns-in-Ok
returns-in-Ok c = read c.args.word c.args.text.now c.parse.result c.in-Ok.number c.parse.ensures.value.0 (sym c.are_digits.ensures
    ∙ c.if-not-are_digits.false) c.in-Ok.is

pub returns-in-Err : goal.returns-in-Err
returns-in-Err c = unread c.args.word c.args.text.now c.parse.result c.in-Err.field-0 c.parse.ensures.value.0
    (sym c.are_digits.ensures ∙ c.if-not-are_digits.false) c.in-Err.is
