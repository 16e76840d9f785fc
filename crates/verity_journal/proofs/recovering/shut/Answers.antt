use Rattle.std.proofs.Common.{◌≡◌, ap, ◌∙◌, subst}
use Rattle.verity_disks.specs.declared.disks.Device.TheVariants.{Journal}
use Rattle.verity_disks.specs.Disks.{Contents, Torn}
use Rattle.verity_journal.specs.Journal.{recovered_pair, IsBegun}
use Rattle.verity_disks.proofs.Moments.{durable_after, joined, started}
use Rattle.verity_journal.proofs.Gates.{closes, same_volume, shutting}
use Rattle.verity_journal.proofs.recovering.shut.Goals as goal

pub returns-in_ok-write_synced-in-Begun-clause-settled : goal.returns-in_ok-write_synced-in-Begun-clause-settled
returns-in_ok-write_synced-in-Begun-clause-settled g c =
    let rest = closes (g.K.Disks.seen c.args.disks.now Journal) in
    record {
      durable = durable_after Journal (Torn 0 13) _ _ _ _ _ c.requires.durable c.in_ok-write_synced-in-Begun.ensures.written
          c.write_synced.ensures.crash c.in_ok-write_synced-in-Begun.ensures.durable;
      closed = (rest.0, ap (λ (f : Contents). f Journal) c.in_ok-write_synced-in-Begun.ensures.written ∙ rest.1);
    }

pub returns-in_err-write_synced-in-Begun-clause-any_moment : goal.returns-in_err-write_synced-in-Begun-clause-any_moment
returns-in_err-write_synced-in-Begun-clause-any_moment g c =
    let old = c.args.disks.now in
    let seen = g.K.Disks.seen old in
    let P : Contents → Type 0 = λ f. recovered_pair f ≡ recovered_pair seen in
    let begun = subst IsBegun c.requires.journal c.in-Begun.ensures in
    let start = started g.K.Disks.moment g.K.Disks.left_since old P (λ f left. same_volume seen (g.K.Disks.may_leave old)
    c.requires.durable f (g.met.K.Disks.only_now old f left)) in
    joined g.K.Disks.moment g.K.Disks.left_since old old c.write_synced.new.disks P _ start c.write_synced.ensures.any_moment
    (λ f r. shutting seen (g.K.Disks.may_leave old) c.requires.durable c.requires.none begun f r)

pub returns-in_ok-write_synced-in-Begun-clause-any_moment : goal.returns-in_ok-write_synced-in-Begun-clause-any_moment
returns-in_ok-write_synced-in-Begun-clause-any_moment g c =
    let old = c.args.disks.now in
    let seen = g.K.Disks.seen old in
    let P : Contents → Type 0 = λ f. recovered_pair f ≡ recovered_pair seen in
    let begun = subst IsBegun c.requires.journal c.in-Begun.ensures in
    let start = started g.K.Disks.moment g.K.Disks.left_since old P (λ f left. same_volume seen (g.K.Disks.may_leave old)
    c.requires.durable f (g.met.K.Disks.only_now old f left)) in
    joined g.K.Disks.moment g.K.Disks.left_since old old c.write_synced.new.disks P _ start c.write_synced.ensures.any_moment
    (λ f r. shutting seen (g.K.Disks.may_leave old) c.requires.durable c.requires.none begun f r)
