use Rattle.std.proofs.Common.{inl, arith}
use Rattle.verity_stage.specs.Stage.{plan_of}
use Rattle.verity_stage.proofs.Rests.{at_rest}
use Rattle.verity_stage.proofs.committing.commit_staged.Goals as goal

pub returns-in_default-clause-any_moment : goal.returns-in_default-clause-any_moment
returns-in_default-clause-any_moment g c = λ settled suits.
    let old = c.args.keeper.now in
    let plan = plan_of c.args.names.now (g.D.StagedStore.stage c.args.on_data.now) (g.H.StagedStore.stage c.args.on_hash.now) in
    record {
      later = omega arith;
      each = λ f left. at_rest plan (g.K.Disks.seen old.disks) (g.K.Disks.may_leave old.disks) (old.durable settled) (old.closed settled) f
          (g.met.K.Disks.only_now old.disks f left);
      before = λ t f le left. inl left;
    }
