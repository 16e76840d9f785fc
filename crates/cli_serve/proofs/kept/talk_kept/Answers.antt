use Rattle.std.proofs.Common.{◌≡◌, true}
use Rattle.std.specs.String.{string_bytes}
use Rattle.cli_faults.specs.Errors.{IsS1For}
use Rattle.cli_serve.specs.Blamed.{TalkBlames}
use Rattle.cli_serve.proofs.Keeping.{done_with, fails_under}
use Rattle.cli_serve.proofs.kept.talk_kept.Goals as goal

pub returns-clause-ended : goal.returns-clause-ended
returns-clause-ended g c = done_with g.L.LineFolders g.L.Folder.LineFolder c.args.folders.now c.line_text.new.folders
    c.talk-2.result _ c.args.words.now.table c.args.words.now.table_file c.in-Some.path c.as_str.result
    (string_bytes c.in_ok-line.line) c.in-Some.is c.as_str.ensures.value c.in_ok-line.ensures.line c.talk-2.ensures.ended

pub returns-clause-refused : goal.returns-clause-refused
returns-clause-refused g c =
    let a = c.args in
    fails_under g.L.LineFolders g.L.Folder.LineFolder a.folders.now c.line_text.new.folders c.talk-2.result (TalkBlames a.words.now)
    (IsS1For (g.S.System.refuses a.system.now ≡ true)) a.words.now.table_file c.in-Some.path (string_bytes c.in_ok-line.line)
    c.in-Some.is c.in_ok-line.ensures.line c.talk-2.ensures.blames c.talk-2.ensures.system
