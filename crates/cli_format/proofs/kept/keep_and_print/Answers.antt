use Rattle.cli_format.proofs.Keeping.{at_rest}
use Rattle.cli_format.proofs.kept.keep_and_print.Goals as goal

pub returns-in_err-check_clear-clause-any_moment : goal.returns-in_err-check_clear-clause-any_moment
returns-in_err-check_clear-clause-any_moment g c =
    let old = c.args.file.now.folder in
    at_rest g.F.LineFolder c.args.line.now old (g.met.F.LineFolder.only_now old)
