use Rattle.std.proofs.Common.{◌≡◌, true}
use Rattle.std.specs.String.{string_bytes}
use Rattle.cli_faults.specs.Errors.{IsS1For}
use Rattle.os_commit_flag.specs.Refusals.{BlamesNone}
use Rattle.cli_serve.proofs.Keeping.{done_under, fails_under}
use Rattle.cli_serve.proofs.kept.verify_kept.Goals as goal

pub returns-clause-reported : goal.returns-clause-reported
returns-clause-reported g c = done_under g.L.LineFolders g.L.Folder.LineFolder c.args.folders.now c.line_text.new.folders
    c.verify-2.result _ c.args.words.now.table.now c.args.words.now.table_file c.in-Some.path c.as_str.result.now
    (string_bytes c.in_ok-line.line) c.in-Some.is c.as_str.ensures.value c.in_ok-line.ensures.line c.verify-2.ensures.reported

pub returns-clause-refused : goal.returns-clause-refused
returns-clause-refused g c = fails_under g.L.LineFolders g.L.Folder.LineFolder c.args.folders.now c.line_text.new.folders
    c.verify-2.result BlamesNone (IsS1For (g.S.System.refuses c.args.system.now ≡ true)) c.args.words.now.table_file c.in-Some.path
    (string_bytes c.in_ok-line.line) c.in-Some.is c.in_ok-line.ensures.line c.verify-2.ensures.blames c.verify-2.ensures.system
