use Rattle.std.proofs.Common.{rules, ap, ◌∙◌, subst}
use Rattle.verity_disks.specs.declared.disks.Device.TheVariants.{Journal}
use Rattle.verity_disks.specs.Disks.{Contents}
use Rattle.verity_journal.specs.Journal.{recovered_pair, IsForeign, IsJournal}
use Rattle.verity_disks.proofs.Moments.{synced}
use Rattle.verity_journal.proofs.recovering.start.Goals as goal

pub recover-requires : goal.recover-requires
recover-requires g c =
    synced _ _ _ _ _ _ _ c.sync.ensures.seen c.sync-2.ensures.seen c.sync-3.ensures.seen c.in_ok-sync.ensures.durable
    c.in_ok-sync-2.ensures.durable c.in_ok-sync-3.ensures.durable c.sync-2.ensures.crash c.sync-3.ensures.crash

pub returns-clause-volume : goal.returns-clause-volume
returns-clause-volume g c =
    c.in_ok-recover.ensures.volume ∙ ap recovered_pair (c.sync-3.ensures.seen ∙ c.sync-2.ensures.seen ∙ c.sync.ensures.seen)

pub returns-in_err-recover-clause-foreign : goal.returns-in_err-recover-clause-foreign
returns-in_err-recover-clause-foreign g c =
    let same = c.sync-3.ensures.seen ∙ c.sync-2.ensures.seen ∙ c.sync.ensures.seen in
    λ is. subst IsForeign same (c.recover.ensures.foreign (search rules))

pub returns-in_err-recover-clause-untouched : goal.returns-in_err-recover-clause-untouched
returns-in_err-recover-clause-untouched g c =
    let same = c.sync-3.ensures.seen ∙ c.sync-2.ensures.seen ∙ c.sync.ensures.seen in
    λ none. c.recover.ensures.untouched (λ is. none (subst (λ (f : Contents). IsJournal (f Journal)) same is)) ∙ same

pub returns-in_err-recover-clause-untouched_crash : goal.returns-in_err-recover-clause-untouched_crash
returns-in_err-recover-clause-untouched_crash g c =
    let same = c.sync-3.ensures.seen ∙ c.sync-2.ensures.seen ∙ c.sync.ensures.seen in
    λ none f left. c.sync.ensures.crash f (c.sync-2.ensures.crash f (c.sync-3.ensures.crash f
    (c.recover.ensures.untouched_crash (λ is. none (subst (λ (d : Contents). IsJournal (d Journal)) same is)) f left)))

pub returns-clause-untouched : goal.returns-clause-untouched
returns-clause-untouched g c =
    let same = c.sync-3.ensures.seen ∙ c.sync-2.ensures.seen ∙ c.sync.ensures.seen in
    λ none. c.recover.ensures.untouched (λ is. none (subst (λ (f : Contents). IsJournal (f Journal)) same is)) ∙ same

pub returns-clause-untouched_crash : goal.returns-clause-untouched_crash
returns-clause-untouched_crash g c =
    let same = c.sync-3.ensures.seen ∙ c.sync-2.ensures.seen ∙ c.sync.ensures.seen in
    λ none f left. c.sync.ensures.crash f (c.sync-2.ensures.crash f (c.sync-3.ensures.crash f
    (c.recover.ensures.untouched_crash (λ is. none (subst (λ (d : Contents). IsJournal (d Journal)) same is)) f left)))

pub returns-clause-journal : goal.returns-clause-journal
returns-clause-journal g c =
    let same = c.sync-3.ensures.seen ∙ c.sync-2.ensures.seen ∙ c.sync.ensures.seen in
    subst (λ (f : Contents). IsJournal (f Journal)) same c.in_ok-recover.ensures.journal
