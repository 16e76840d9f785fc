use Rattle.std.proofs.Common.{◌≡◌, ltb, arith, rules}
use Rattle.std.specs.List.{filter}
use Rattle.std.proofs.lemmas.Map.Made.{filter_same_pairs}
use Rattle.verity_pending.proofs.Drafts.{edits_shrink, IsDraft-shrink}
use Rattle.verity_pending.specs.Pend.{draft}
use Rattle.verity_pending.proofs.pending.Pending.shrink.Goals as goal

pub invariant_of-self : goal.invariant_of-self
invariant_of-self g c =
    let kept : c.retain.new.self.entries ≡ filter (λ e. ltb e.0 c.args.count) c.self.inside.written.entries =
    filter_same_pairs _ (λ e. ltb e.0 c.args.count) _ (λ k v b w f' t. search rules) _ _ c.retain.ensures.filtered in
    rw (c.min-self-inside.ensures) (IsDraft-shrink (draft c.self.inside) c.args.count c.retain.new.self.entries c.self.invariant
    (omega arith) (omega arith) kept)

pub returns-clause-done : goal.returns-clause-done
returns-clause-done g c = λ image.
    let kept : c.retain.new.self.entries ≡ filter (λ e. ltb e.0 c.args.count) c.self.inside.written.entries =
    filter_same_pairs _ (λ e. ltb e.0 c.args.count) _ (λ k v b w f' t. search rules) _ _ c.retain.ensures.filtered in
    rw (← c.self.view_is, c.min-self-inside.ensures) (edits_shrink image (draft c.self.inside) c.args.count
    c.retain.new.self.entries c.self.invariant (omega arith) kept)
