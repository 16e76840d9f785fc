use Rattle.cli_pull.proofs.KeepingLemmas.{left_by, pulled_by}
use Rattle.cli_pull.proofs.Results.{if_err, on_ok}
use Rattle.cli_pull.proofs.keeping.pull_kept.Goals as goal

pub returns-in_ok-line-in-Some-clause-pulled : goal.returns-in_ok-line-in-Some-clause-pulled
returns-in_ok-line-in-Some-clause-pulled g c = on_ok c.pull_to.result
    (pulled_by g.S.System g.S.Store.BlockStore g.S.Journalled.Disks _ g.L.LineFolders g.L.Folder.LineFolder c.args.system.now
    c.pull_to.new.system c.args.folders.now c.line_text.new.folders c.pull_to.new.folders c.args.words.now c.in-Some.path
    c.as_str.result c.in_ok-line-in-Some.line _ _ c.in-Some.is c.in_ok-line-in-Some.ensures.line c.as_str.ensures.value)
    c.pull_to.ensures.pulled

pub returns-in_ok-line-in-Some-clause-left : goal.returns-in_ok-line-in-Some-clause-left
returns-in_ok-line-in-Some-clause-left g c = if_err _ c.pull_to.result
    (λ e. left_by g.S.System g.S.Store.BlockStore g.S.Journalled.Disks _ g.L.LineFolders g.L.Folder.LineFolder c.args.system.now
    c.pull_to.new.system c.args.folders.now c.line_text.new.folders c.pull_to.new.folders c.args.words.now c.in-Some.path
    c.as_str.result c.in_ok-line-in-Some.line e c.in-Some.is c.in_ok-line-in-Some.ensures.line c.as_str.ensures.value)
    c.pull_to.ensures.left
