use Rattle.std.proofs.Common.{◌≡◌, ◌∙◌}
use Rattle.verity_disks.specs.Disks.{Contents}
use Rattle.verity_journal.specs.Journal.{recovered_pair}
use Rattle.verity_disks.proofs.Moments.{started, joined}
use Rattle.verity_journal.proofs.Gates.{is_ready, does_suit, is_volume, same_volume}
use Rattle.verity_journal.proofs.recovering.redo.Goals as goal

pub carry_out-requires-clause-ready : goal.carry_out-requires-clause-ready
carry_out-requires-clause-ready g c = is_ready c.args.plan.now _ _ c.requires.durable c.requires.plan c.requires.data_kept
    c.requires.hash_kept

pub carry_out-requires-clause-suits : goal.carry_out-requires-clause-suits
carry_out-requires-clause-suits g c = does_suit c.args.plan.now _ _ c.requires.durable c.requires.plan c.requires.data_kept
    c.requires.hash_kept

pub returns-in_err-carry_out-clause-any_moment : goal.returns-in_err-carry_out-clause-any_moment
returns-in_err-carry_out-clause-any_moment g c =
    let old = c.args.disks.now in
    let seen = g.K.Disks.seen old in
    let same = is_volume c.args.plan.now seen (g.K.Disks.may_leave old) c.requires.durable c.requires.plan c.requires.data_kept
    c.requires.hash_kept in
    let P : Contents → Type 0 = λ f. recovered_pair f ≡ recovered_pair seen in
    let start = started g.K.Disks.moment g.K.Disks.left_since old P (λ f left. same_volume seen (g.K.Disks.may_leave old)
    c.requires.durable f (g.met.K.Disks.only_now old f left)) in
    joined g.K.Disks.moment g.K.Disks.left_since old old c.carry_out.new.disks P _ start c.carry_out.ensures.any_moment
    (λ f new. new.volume ∙ same)

pub returns-clause-any_moment : goal.returns-clause-any_moment
returns-clause-any_moment g c =
    let old = c.args.disks.now in
    let seen = g.K.Disks.seen old in
    let same = is_volume c.args.plan.now seen (g.K.Disks.may_leave old) c.requires.durable c.requires.plan c.requires.data_kept
    c.requires.hash_kept in
    let P : Contents → Type 0 = λ f. recovered_pair f ≡ recovered_pair seen in
    let start = started g.K.Disks.moment g.K.Disks.left_since old P (λ f left. same_volume seen (g.K.Disks.may_leave old)
    c.requires.durable f (g.met.K.Disks.only_now old f left)) in
    joined g.K.Disks.moment g.K.Disks.left_since old old c.carry_out.new.disks P _ start c.carry_out.ensures.any_moment
    (λ f new. new.volume ∙ same)

pub returns-clause-volume : goal.returns-clause-volume
returns-clause-volume g c =
    let old = c.args.disks.now in
    let seen = g.K.Disks.seen old in
    let same = is_volume c.args.plan.now seen (g.K.Disks.may_leave old) c.requires.durable c.requires.plan c.requires.data_kept
    c.requires.hash_kept in
    c.in_ok-carry_out.ensures.made ∙ same
