use Rattle.std.proofs.Common.{ℕ, ◌≡◌, sym, ap, subst, ◌∙◌, arith}
use Rattle.verity_profile.specs.Profile.{AllSized}
use Rattle.verity_store.specs.Blocks.{resized}
use Rattle.verity_stage.specs.Stage.{staged}
use Rattle.verity_stage.proofs.PlaceLemmas.{AllSized-resized}
use Rattle.verity_stage.proofs.staged.StagedBlockStore.set_len.Goals as goal

pub returns-clause-partly : goal.returns-clause-partly
returns-clause-partly g c =
    let s = c.args.self.now in let content = g.S.BlockStore.content s.store in (
      c.args.blocks,
      omega arith,
      omega arith,
      c.resize.ensures.done content ∙ ap (λ (n : ℕ). resized n c.args.blocks (staged content s.stage)) (sym s.size),
    )

pub returns-clause-blocks : goal.returns-clause-blocks
returns-clause-blocks g c =
    let s = c.args.self.now in let content = g.S.BlockStore.content s.store in let size = g.S.BlockStore.size s.store in
    let done : staged content c.resize.new.self ≡ resized size c.args.blocks (staged content s.stage) =
    c.resize.ensures.done content ∙ ap (λ (n : ℕ). resized n c.args.blocks (staged content s.stage)) (sym s.size) in
    λ all. subst (AllSized size) (sym done) (AllSized-resized size c.args.blocks (staged content s.stage) all)
