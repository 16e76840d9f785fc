use Rattle.std.proofs.Common.{◌≡◌, ◌∙◌, Some, None, sym, rules, arith}
use Rattle.verity_profile.specs.Profile.{zero_block}
use Rattle.verity_stage.specs.Stage.{written_at}
use Rattle.verity_stage.proofs.StageLemmas.{at_written, at_added, at_below}
use Rattle.verity_stage.proofs.staged.read_staged.Goals as goal

pub returns-in-Some-clause-right : goal.returns-in-Some-clause-right
returns-in-Some-clause-right g c = λ told.
    let is : written_at c.args.stage.now c.args.n ≡ Some c.in-Some.block.now = search rules in
    let copied : c.copy_from_slice.new.self ≡ c.in-Some.block.now = search rules in
    at_written (g.S.BlockStore.content c.args.store.now) c.args.stage.now c.args.n c.in-Some.block.now c.requires.within is ∙ sym copied

pub returns-then-least-n-clause-right : goal.returns-then-least-n-clause-right
returns-then-least-n-clause-right g c = λ told.
    let is : written_at c.args.stage.now c.args.n ≡ None = search rules in
    let zeros : c.fill.new.self ≡ zero_block c.args.stage.now.size = search rules in
    at_added (g.S.BlockStore.content c.args.store.now) c.args.stage.now c.args.n c.requires.within is (omega arith) ∙ sym zeros

pub returns-in-Ok-clause-right : goal.returns-in-Ok-clause-right
returns-in-Ok-clause-right g c = λ told.
    let is : written_at c.args.stage.now c.args.n ≡ None = search rules in
    at_below (g.S.BlockStore.content c.args.store.now) c.args.stage.now c.args.n c.requires.within is (omega arith)
    ∙ c.in-Ok.ensures.right told
