use Rattle.std.proofs.Common.{[]}
use Rattle.verity_update.proofs.DraftLemmas.{ok_weaker, changed_below}
use Rattle.verity_update.proofs.edited.EditorEdited.grow.Goals as goal

pub returns-clause-others : goal.returns-clause-others
returns-clause-others g c =
    ok_weaker c.grow.result
    (λ done i low. changed_below c.args.self.now.draft c.grow.new.self.draft c.args.wanted i (done []) low) c.grow.ensures.done
