use Rattle.std.proofs.Common.{ℕ, List, arith, subst, sym, ap, ◌∙◌}
use Rattle.verity_superblock.specs.Superblock.{Volume}
use Rattle.verity_plan.specs.declared.tree.Change.{Change}
use Rattle.verity_pending.specs.Draft.{Draft}
use Rattle.verity_plan.specs.Planning.{IsPlan, IsRight}
use Rattle.verity_edit.specs.Committing.{CanCommit, IsCarriedOut}
use Rattle.verity_edit.proofs.CommitLemmas.{can_after, carried_before}
use Rattle.verity_edit.proofs.committing.commit_edits.Goals as goal

pub carry_out-requires-clause-plan : goal.carry_out-requires-clause-plan
carry_out-requires-clause-plan g c =
    let v : Volume = c.args.superblock.now in
    let d : Draft = c.args.pending.now in
    let plan = c.in_ok-plan.plan in
    subst (λ (x : Change). IsPlan v d x.first x.root plan) (sym c.in_ok-plan.ensures.plan.change) c.in_ok-plan.ensures.plan

pub carry_out-requires-clause-right : goal.carry_out-requires-clause-right
carry_out-requires-clause-right g c = λ told.
    let v : Volume = c.args.superblock.now in
    let d : Draft = c.args.pending.now in
    let plan = c.in_ok-plan.plan in
    let made = c.in_ok-plan.ensures in
    let content = g.H.BlockStore.content in
    subst (λ (x : Change). IsRight v d x.first x.root (content c.prepare.new.hash_store) plan) (sym made.plan.change)
    (subst (λ (blocks : List (List ℕ)). IsRight v d c.args.first c.args.root blocks plan) (sym made.hash_content)
    (made.right (sym made.hash_store.tells ∙ told)))

pub carry_out-requires-clause-can : goal.carry_out-requires-clause-can
carry_out-requires-clause-can g c =
    let D = g.D.BlockStore in
    let H = g.H.BlockStore in
    let v : Volume = c.args.superblock.now in
    let d : Draft = c.args.pending.now in
    let made = c.in_ok-plan.ensures in
    let now = c.prepare.new.data_store in
    let hash_now = c.prepare.new.hash_store in
    subst (λ (x : Change). CanCommit D H v d x.first x.root now hash_now) (sym made.plan.change)
    (can_after D H v d c.args.first c.args.root c.args.data_store.now now c.args.hash_store.now hash_now c.requires.can
    made.data_store.content made.data_store.later.size made.hash_content made.hash_store.size)

pub carry_out-requires-clause-hash_room : goal.carry_out-requires-clause-hash_room
carry_out-requires-clause-hash_room g c = let room = c.in_ok-plan.ensures.hash_room in let first =
    ap (λ x. x.first) c.in_ok-plan.ensures.plan.change in omega arith

pub returns-in-Ok-clause-done : goal.returns-in-Ok-clause-done
returns-in-Ok-clause-done g c =
    let D = g.D.BlockStore in
    let H = g.H.BlockStore in
    let v : Volume = c.args.superblock.now in
    let d : Draft = c.args.pending.now in
    let made = c.in_ok-plan.ensures in
    let now = c.prepare.new.data_store in
    let hash_now = c.prepare.new.hash_store in
    let new_data = c.carry_out.new.data_store in
    let new_hash = c.carry_out.new.hash_store in
    let done = subst (λ (x : Change). IsCarriedOut D H v d x.first x.root now new_data hash_now new_hash) made.plan.change
    c.in-Ok.ensures.done in
    carried_before D H v d c.args.first c.args.root c.args.data_store.now now new_data c.args.hash_store.now hash_now new_hash done
    made.data_store.content made.data_store.later.tells made.hash_content made.hash_store.tells

pub returns-in-Ok-clause-hash_reads : goal.returns-in-Ok-clause-hash_reads
returns-in-Ok-clause-hash_reads g c = λ image count same. let planned = c.in_ok-plan.ensures.hash_reads image count same in
    let later = c.carry_out.ensures.hash_reads same in omega arith

pub returns-clause-hash_reads : goal.returns-clause-hash_reads
returns-clause-hash_reads g c = λ image count same. let planned = c.in_ok-plan.ensures.hash_reads image count same in let later =
    c.carry_out.ensures.hash_reads same in omega arith
