use Rattle.std.proofs.Common.{ℕ, ◌≡◌, sym, subst, ◌∙◌}
use Rattle.verity_profile.specs.Profile.{AllSized}
use Rattle.verity_stage.specs.Stage.{staged}
use Rattle.verity_stage.proofs.StageLemmas.{AllSized-staged}
use Rattle.verity_stage.proofs.staged.StagedBlockStore.block_size.Goals as goal

pub returns-clause-blocks : goal.returns-clause-blocks
returns-clause-blocks g c =
    let s = c.args.self.now in
    let content = g.S.BlockStore.content s.store in
    let is : c.block_size.result ≡ s.stage.size = c.block_size.ensures.value ∙ s.size in
    subst (λ (n : ℕ). AllSized n (staged content s.stage)) (sym is)
    (AllSized-staged content s.stage c.facts.ensures.stage s.kept (subst (λ (n : ℕ). AllSized n content) is c.block_size.ensures.blocks))
