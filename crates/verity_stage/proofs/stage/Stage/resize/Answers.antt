use Rattle.std.proofs.Common.{◌≡◌, ltb, arith, rules}
use Rattle.std.specs.List.{filter}
use Rattle.std.proofs.lemmas.Map.Made.{filter_same_pairs}
use Rattle.verity_stage.specs.Inside.{stage_of}
use Rattle.verity_stage.proofs.StageLemmas.{staged_resize, IsStage-resize, found_cut, staged_grow, IsStage-grow}
use Rattle.verity_stage.proofs.stage.Stage.resize.Goals as goal

pub invariant_of-self-2 : goal.invariant_of-self-2
invariant_of-self-2 g c =
    let kept : c.retain.new.self.entries ≡ filter (λ e. ltb e.0 c.args.blocks) c.self.inside.written.entries =
    filter_same_pairs _ (λ e. ltb e.0 c.args.blocks) _ (λ k v b w f' t. search rules) _ _ c.retain.ensures.filtered in
    let d = stage_of c.self.inside in
    rw (c.min-self-inside.ensures) (record {
      is_stage = IsStage-resize d c.args.blocks c.retain.new.self.entries c.self.invariant.is_stage
          (found_cut d c.args.blocks c.retain.new.self.entries kept);
      profile = c.self.invariant.profile;
      few = c.requires;
    })

pub returns-clause-done : goal.returns-clause-done
returns-clause-done g c = λ content.
    let kept : c.retain.new.self.entries ≡ filter (λ e. ltb e.0 c.args.blocks) c.self.inside.written.entries =
    filter_same_pairs _ (λ e. ltb e.0 c.args.blocks) _ (λ k v b w f' t. search rules) _ _ c.retain.ensures.filtered in
    let d = stage_of c.self.inside in
    rw (← c.self.view_is, c.min-self-inside.ensures) (staged_resize content d c.args.blocks c.retain.new.self.entries
    c.self.invariant.is_stage (found_cut d c.args.blocks c.retain.new.self.entries kept))

pub invariant_of-self : goal.invariant_of-self
invariant_of-self g c = record {
  is_stage = IsStage-grow (stage_of c.self.inside) c.args.blocks c.self.invariant.is_stage (omega arith);
  profile = c.self.invariant.profile;
  few = c.requires;
}

pub returns-then-self-blocks-clause-done : goal.returns-then-self-blocks-clause-done
returns-then-self-blocks-clause-done g c =
    λ content. rw (← c.self.view_is) (staged_grow content (stage_of c.self.inside) c.args.blocks c.self.invariant.is_stage (omega arith))
