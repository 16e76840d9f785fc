use Rattle.std.proofs.Common.{◌≡◌, ◌∙◌, ap}
use Rattle.verity_edit.specs.Draft.{Draft, edits_of}
use Rattle.verity_edit.specs.Editing.{fresh}
use Rattle.verity_update.proofs.DraftLemmas.{working_fresh, ok_weaker}
use Rattle.verity_update.proofs.edited.LineEditorEdited.discard.Goals as goal

pub returns-clause-done : goal.returns-clause-done
returns-clause-done g c =
    let old : Draft = c.args.self.now.draft in
    ok_weaker c.discard.result
    (λ done image len.
    let is : c.discard.new.self.draft ≡ fresh old.size old.committed = ap (λ e. e.draft) done in
    ap (λ d. (edits_of image d).working) is ∙ working_fresh image old.size old.committed (len ∙ ap (λ d. d.working) is))
    c.discard.ensures.done
