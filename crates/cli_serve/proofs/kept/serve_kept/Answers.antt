use Rattle.std.proofs.Common.{◌≡◌, true}
use Rattle.std.specs.String.{string_bytes}
use Rattle.cli_faults.specs.Errors.{IsS1For}
use Rattle.cli_serve.specs.Blamed.{ServeBlames}
use Rattle.cli_serve.proofs.Keeping.{fails_under}
use Rattle.cli_serve.proofs.kept.serve_kept.Goals as goal

pub returns-clause-refused : goal.returns-clause-refused
returns-clause-refused g c =
    let a = c.args in
    fails_under g.L.LineFolders g.L.Folder.LineFolder a.folders.now c.line_text.new.folders c.serve-2.result (ServeBlames a.words.now)
    (IsS1For (g.S.System.refuses a.system.now ≡ true)) a.words.now.table_file c.in-Some.path (string_bytes c.in_ok-line.line)
    c.in-Some.is c.in_ok-line.ensures.line c.serve-2.ensures.blames c.serve-2.ensures.system
