use Rattle.std.proofs.Common.{[]}
use Rattle.verity_update.proofs.DraftLemmas.{ok_weaker, changed_elsewhere, changed_here, count_written}
use Rattle.verity_update.proofs.edited.EditorEdited.write.Goals as goal

pub returns-clause-count : goal.returns-clause-count
returns-clause-count g c =
    count_written c.write.result c.args.self.now c.write.new.self (λ e. e.draft) c.args.n c.args.block.now c.write.ensures.done
    c.write.ensures.unchanged

pub returns-clause-others : goal.returns-clause-others
returns-clause-others g c =
    ok_weaker c.write.result
    (λ done i other. changed_elsewhere c.args.self.now.draft c.write.new.self.draft c.args.n i c.args.block.now (done []) other)
    c.write.ensures.done

pub returns-clause-here : goal.returns-clause-here
returns-clause-here g c =
    ok_weaker c.write.result
    (λ done. changed_here c.args.self.now.draft c.write.new.self.draft c.args.n c.args.block.now (done []))
    c.write.ensures.done
