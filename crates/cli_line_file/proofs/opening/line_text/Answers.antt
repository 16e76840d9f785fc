use Rattle.std.proofs.Common.{inr}
use Rattle.cli_line_file.proofs.Outcomes.{map_err, map_ok}
use Rattle.cli_line_file.proofs.opening.line_text.Goals as goal

pub returns-clause-line : goal.returns-clause-line
returns-clause-line g c =
    map_ok c.line_of_file-line.result _ _
    (λ text is. (
      c.in_ok-file.file.folder,
      record {
        during = c.open_line_file.new.folders;
        opened = c.in_ok-file.ensures.opened;
        closed = c.close_line_file.ensures.closed;
      },
      is,
    )) c.line_of_file-line.ensures.line

pub returns-clause-refused : goal.returns-clause-refused
returns-clause-refused g c =
    map_err c.line_of_file-line.result _ _
    (λ e is. inr (
      c.in_ok-file.file.folder,
      record {
        during = c.open_line_file.new.folders;
        opened = c.in_ok-file.ensures.opened;
        closed = c.close_line_file.ensures.closed;
      },
      is,
    )) c.line_of_file-line.ensures.refused
