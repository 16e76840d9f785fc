use Rattle.std.proofs.Common.{◌≡◌, ℕ, ◌-◌, min, length, Result, Ok, Err, arith, subst, sym, ap, ◌∙◌}
use Rattle.std.specs.Prelude.{OnOk}
use Rattle.verity_store.specs.Blocks.{resized}
use Rattle.verity_profile.specs.Profile.{zero_block}
use Rattle.verity_store.specs.Moves.{ChangesWithin}
use Rattle.verity_pending.specs.Pend.{draft}
use Rattle.verity_pending.specs.Draft.{edits_of, Draft}
use Rattle.verity_pending.specs.Applied.{FitStore}
use Rattle.verity_pending.proofs.Applied.{applied, KeysRise-ordered, FitStore-draft}
use Rattle.verity_pending.proofs.Drafts.{length-resized}
use Rattle.verity_pending.proofs.pending.Pending.apply.Goals as goal

on_ok : {T E : Type 0} (r : Result T E) (P Q : Type 0) → (P → Q) → OnOk r P → OnOk r Q
on_ok (Ok x) P Q f h = f h
on_ok (Err e) P Q f h = tt

pub write_pending-requires : goal.write_pending-requires
write_pending-requires g c =
    let size : g.D.BlockStore.size c.write_zeros.new.store ≡ c.self.inside.size =
    c.in_ok-write_zeros.ensures.written_only.later.size ∙ c.in_ok-set_len.ensures.size ∙ c.requires.size
    ∙ ap (λ d. d.size) (sym c.self.view_is) in
    let len : length (g.D.BlockStore.content c.write_zeros.new.store) ≡ c.self.inside.working =
    c.in_ok-write_zeros.ensures.others.0 ∙ ap length c.in_ok-set_len.ensures.done
    ∙ length-resized (g.D.BlockStore.size c.args.store.now) c.self.inside.working (g.D.BlockStore.content c.args.store.now) in
    subst (λ (n : ℕ). FitStore (length (g.D.BlockStore.content c.write_zeros.new.store)) n c.self.inside.written.entries) (sym size)
    (FitStore-draft (draft c.self.inside) (length (g.D.BlockStore.content c.write_zeros.new.store)) c.self.invariant
    (KeysRise-ordered c.self.inside.written.entries c.len-ordered.ensures.ordered) (omega arith))

pub returns-clause-applied : goal.returns-clause-applied
returns-clause-applied g c =
    let d : Draft = draft c.self.inside in
    let old = g.D.BlockStore.content c.args.store.now in
    let grown = g.D.BlockStore.content c.set_len.new.self in
    let zeroed = g.D.BlockStore.content c.write_zeros.new.store in
    let zero : c.args.zero.now ≡ zero_block d.size = c.requires.zero ∙ ap (λ x. zero_block x.size) (sym c.self.view_is) in
    let size : g.D.BlockStore.size c.args.store.now ≡ d.size = c.requires.size ∙ ap (λ x. x.size) (sym c.self.view_is) in
    let count : length old ≡ d.committed = c.requires.committed ∙ ap (λ x. x.committed) (sym c.self.view_is) in
    on_ok c.write_pending.result _ _
    (λ written told.
    let told_grown = c.in_ok-set_len.ensures.tells ∙ told in
    let told_zeroed = c.in_ok-write_zeros.ensures.written_only.later.tells ∙ told_grown in
    let kept = c.min-kept.ensures in
    let others : ChangesWithin d.least (min d.committed d.working - d.least) grown zeroed =
    subst (λ (n : ℕ). ChangesWithin d.least (n - d.least) grown zeroed) kept c.in_ok-write_zeros.ensures.others in
    written told_zeroed
    ∙ applied d old grown zeroed c.self.invariant count (KeysRise-ordered d.written c.len-ordered.ensures.ordered)
    (c.in_ok-set_len.ensures.done ∙ ap (λ n. resized n d.working old) size)
    (λ q low high. c.in_ok-write_zeros.ensures.zeroed told_grown q low (omega arith) ∙ zero)
    others
    ∙ ap (λ x. (edits_of old x).working) c.self.view_is)
    c.write_pending.ensures.written
