use Rattle.std.proofs.Common.{◌≡◌, Err, inr, rules, ◌∙◌}
use Rattle.verity_disks.specs.declared.disks.DiskFault.TheVariants as DiskFault
use Rattle.verity_journal.specs.Journal.{pair_of, IsOldOrNew}
use Rattle.verity_stage.specs.Stage.{plan_of}
use Rattle.verity_commit.proofs.Commits.{held, makes, suits_here, one_of, weaker}
use Rattle.verity_commit.specs.Committing.{IsOneOf}
use Rattle.verity_commit.proofs.noted.commit_editor_noted.Goals as goal

pub returns-in-Ok-commit_staged-clause-made : goal.returns-in-Ok-commit_staged-clause-made
returns-in-Ok-commit_staged-clause-made g c holds =
    let old = c.args.editor.now in let new = c.commit.new.self in
    let told = c.commit_staged.ensures in let stays = c.commit.ensures.stays in
    c.in-Ok-commit_staged.ensures.made
    ∙ makes g.D.BlockStore g.H.BlockStore g.D.StagedStore.stage g.H.StagedStore.stage c.args.names.now
    (pair_of (g.K.Disks.seen c.args.keeper.now.disks))
    old.data_store new.data_store c.data_store.result.now old.hash_store new.hash_store c.hash_store.result.now
    holds stays.data_store.fixed stays.hash_store.fixed c.data_store.ensures c.hash_store.ensures told.staged

pub returns-in-Ok-commit_staged-clause-any_moment :
    goal.returns-in-Ok-commit_staged-clause-any_moment
returns-in-Ok-commit_staged-clause-any_moment g c = λ holds settled.
    let D = g.D.BlockStore in let H = g.H.BlockStore in let old = c.args.editor.now in let new = c.commit.new.self in
    let told = c.commit_staged.ensures in let stays = c.commit.ensures.stays in
    let first = pair_of (g.K.Disks.seen c.args.keeper.now.disks) in
    inr (weaker g.K.Disks.moment g.K.Disks.left_since c.args.keeper.now.disks c.commit_staged.new.keeper.disks
    (IsOldOrNew (plan_of c.args.names.now (g.D.StagedStore.stage c.data_store.result.now) (g.H.StagedStore.stage c.hash_store.result.now))
    first)
    (IsOneOf c.args.names.now first (held D H new.data_store new.hash_store))
    (one_of D H g.D.StagedStore.stage g.H.StagedStore.stage c.args.names.now first
    old.data_store new.data_store c.data_store.result.now old.hash_store new.hash_store c.hash_store.result.now
    holds stays.data_store.fixed stays.hash_store.fixed c.data_store.ensures c.hash_store.ensures told.staged)
    (told.any_moment settled
    (suits_here D H g.D.StagedStore.stage g.H.StagedStore.stage c.args.names.now first
    old.data_store new.data_store c.data_store.result.now old.hash_store new.hash_store c.hash_store.result.now
    holds stays.data_store.fixed stays.hash_store.fixed c.data_store.ensures c.hash_store.ensures told.staged told.suits)))

pub returns-in-Err-commit_staged-clause-any_moment :
    goal.returns-in-Err-commit_staged-clause-any_moment
returns-in-Err-commit_staged-clause-any_moment g c = λ holds settled.
    let D = g.D.BlockStore in let H = g.H.BlockStore in let old = c.args.editor.now in let new = c.commit.new.self in
    let told = c.commit_staged.ensures in let stays = c.commit.ensures.stays in
    let first = pair_of (g.K.Disks.seen c.args.keeper.now.disks) in
    inr (weaker g.K.Disks.moment g.K.Disks.left_since c.args.keeper.now.disks c.commit_staged.new.keeper.disks
    (IsOldOrNew (plan_of c.args.names.now (g.D.StagedStore.stage c.data_store.result.now) (g.H.StagedStore.stage c.hash_store.result.now))
    first)
    (IsOneOf c.args.names.now first (held D H new.data_store new.hash_store))
    (one_of D H g.D.StagedStore.stage g.H.StagedStore.stage c.args.names.now first
    old.data_store new.data_store c.data_store.result.now old.hash_store new.hash_store c.hash_store.result.now
    holds stays.data_store.fixed stays.hash_store.fixed c.data_store.ensures c.hash_store.ensures told.staged)
    (told.any_moment settled
    (suits_here D H g.D.StagedStore.stage g.H.StagedStore.stage c.args.names.now first
    old.data_store new.data_store c.data_store.result.now old.hash_store new.hash_store c.hash_store.result.now
    holds stays.data_store.fixed stays.hash_store.fixed c.data_store.ensures c.hash_store.ensures told.staged told.suits)))

pub returns-in-Err-commit_staged-clause-own : goal.returns-in-Err-commit_staged-clause-own
returns-in-Err-commit_staged-clause-own g c = λ holds foreign.
    let old = c.args.editor.now in let new = c.commit.new.self in
    let told = c.commit_staged.ensures in let stays = c.commit.ensures.stays in
    let first = pair_of (g.K.Disks.seen c.args.keeper.now.disks) in
    let is_foreign : c.commit_staged.result ≡ Err DiskFault.Foreign = search rules in
    told.unfit is_foreign
    (suits_here g.D.BlockStore g.H.BlockStore g.D.StagedStore.stage g.H.StagedStore.stage c.args.names.now first
    old.data_store new.data_store c.data_store.result.now old.hash_store new.hash_store c.hash_store.result.now
    holds stays.data_store.fixed stays.hash_store.fixed c.data_store.ensures c.hash_store.ensures told.staged told.suits)
