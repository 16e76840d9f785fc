use Rattle.std.proofs.Common.{[]}
use Rattle.verity_update.proofs.DraftLemmas.{ok_weaker, changed_less}
use Rattle.verity_update.proofs.edited.LineEditorEdited.shrink.Goals as goal

pub returns-clause-others : goal.returns-clause-others
returns-clause-others g c =
    ok_weaker c.shrink.result
    (λ done i none. changed_less c.args.self.now.draft c.shrink.new.self.draft c.args.wanted i (done []) none) c.shrink.ensures.done
