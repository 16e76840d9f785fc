use Rattle.std.proofs.Common.{ℕ, ◌≡◌, ◌≤◌, ◌*◌, ◌∙◌, ap, sym, subst, length}
use Rattle.verity_journal.specs.Plan.{made}
use Rattle.verity_profile.specs.Profile.{AllSized}
use Rattle.verity_stage.specs.Stage.{below_of, bytes_below, side_of}
use Rattle.verity_stage.proofs.PlaceLemmas.{made-staged, kept_bytes, bytes_below-of}
use Rattle.verity_stage.proofs.staged.StagedStagedStore.side.Goals as goal

pub returns-clause-made : goal.returns-clause-made
returns-clause-made g c =
    let s = c.args.self.now in let content = g.S.BlockStore.content s.store in
    let is : c.block_size-size.result ≡ s.stage.size = c.block_size-size.ensures.value ∙ s.size in
    let all : AllSized s.stage.size content = subst (λ (n : ℕ). AllSized n content) is c.block_size-size.ensures.blocks in
    ap (λ x. made x (bytes_below (below_of content))) c.in_ok-side.ensures.side ∙ ap (made (side_of s.stage)) (bytes_below-of content)
    ∙ made-staged content s.stage c.facts.ensures.stage s.kept all c.facts.ensures.ordered

pub returns-clause-kept : goal.returns-clause-kept
returns-clause-kept g c =
    let s = c.args.self.now in let content = g.S.BlockStore.content s.store in
    let is : c.block_size-size.result ≡ s.stage.size = c.block_size-size.ensures.value ∙ s.size in
    let all : AllSized s.stage.size content = subst (λ (n : ℕ). AllSized n content) is c.block_size-size.ensures.blocks in
    subst (λ (n : ℕ). n ≤ length (bytes_below (below_of content))) (sym (ap (λ x. x.keep) c.in_ok-side.ensures.side))
    (subst (λ bytes. s.stage.least * s.stage.size ≤ length bytes) (sym (bytes_below-of content))
    (kept_bytes content s.stage.size s.stage.least all s.kept))
