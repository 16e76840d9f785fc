use Rattle.std.proofs.Common.{rules}
use Rattle.cli_edit.proofs.Apart.{not_apart}
use Rattle.cli_edit.proofs.line_files.check_apart.Goals as goal

pub returns-clause-word : goal.returns-clause-word
returns-clause-word g c = search (rules, not_apart)
