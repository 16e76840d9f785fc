use Rattle.std.proofs.Common.{⊎_elim, inl, inr}
use Rattle.cli_volume.proofs.KeptCommits.{after_begun, after_declined, after_finish, after_nothing, failed_of, line_notice, noted_of}
use Rattle.cli_volume.proofs.kept.commit_kept.Goals as goal

pub returns-in-Err-clause-kept : goal.returns-in-Err-clause-kept
returns-in-Err-clause-kept g c =
    let a = c.args.line.now in let b = c.commit_noted-editor.new.notice in
    let counts = g.met.F.LineFolder.counts_now in let only = g.met.F.LineFolder.only_now in
    ⊎_elim (λ same. after_nothing g.F.LineFolder counts only a c.if-line.false b same)
    (λ rest. ⊎_elim
    (λ told. after_declined g.F.LineFolder counts only a c.if-line.false b told.1.0 told.1.1 told.1.2)
    (λ told. after_begun g.F.LineFolder counts only a c.if-line.false told.0 told.1.root b told.2.0 told.2.1) rest)
    (failed_of (line_notice g.F.LineFolder) a b (g.V.Edits.volume c.commit_noted-editor.result.0) _ _ c.in-Err.is
    c.commit_noted-editor.ensures.noted)

pub returns-in-Ok-finish-clause-kept : goal.returns-in-Ok-finish-clause-kept
returns-in-Ok-finish-clause-kept g c =
    let a = c.args.line.now in let mid = c.commit_noted-editor.new.notice in
    let volume = g.V.Edits.volume c.commit_noted-editor.result.0 in
    let told = noted_of (line_notice g.F.LineFolder) a mid volume _ _ c.in-Ok.is c.commit_noted-editor.ensures.noted in
    after_finish g.F.LineFolder g.met.F.LineFolder.counts_now g.met.F.LineFolder.only_now a c.if-line.false volume
    c.in-Ok.committed.root mid
    told.0 told.1 c.finish.new.self c.finish.ensures.devices c.finish.ensures.any_moment (inr c.in-Ok-finish.ensures.finished)

pub returns-in-Err-finish-clause-system : goal.returns-in-Err-finish-clause-system
returns-in-Err-finish-clause-system g c =
    λ same. inr (c.commit_noted-editor.new.notice.file.folder, c.finish.new.self.file.folder, c.in-Err-finish.ensures.failed.2)

pub returns-in-Err-finish-clause-kept : goal.returns-in-Err-finish-clause-kept
returns-in-Err-finish-clause-kept g c =
    let a = c.args.line.now in let mid = c.commit_noted-editor.new.notice in
    let volume = g.V.Edits.volume c.commit_noted-editor.result.0 in
    let told = noted_of (line_notice g.F.LineFolder) a mid volume _ _ c.in-Ok.is c.commit_noted-editor.ensures.noted in
    after_finish g.F.LineFolder g.met.F.LineFolder.counts_now g.met.F.LineFolder.only_now a c.if-line.false volume
    c.in-Ok.committed.root mid
    told.0 told.1 c.finish.new.self c.finish.ensures.devices c.finish.ensures.any_moment (inl c.in-Err-finish.ensures.failed.1)
