use Rattle.std.proofs.Common.{rules, inr, subst, OnOk}
use Rattle.verity_disks.specs.declared.disks.Device.TheVariants.{Journal}
use Rattle.verity_disks.specs.Disks.{Contents}
use Rattle.verity_journal.specs.Journal.{IsJournal}
use Rattle.verity_journal.proofs.recovering.recover.Goals as goal

pub returns-in_default-clause-journal : goal.returns-in_default-clause-journal
returns-in_default-clause-journal g c =
    subst (λ (f : Contents). OnOk c.shut.result (IsJournal (f Journal))) c.read_all.ensures.seen c.shut.ensures.journal

pub returns-then-len-keep-clause-foreign : goal.returns-then-len-keep-clause-foreign
returns-then-len-keep-clause-foreign g c = λ same. inr (c.in-Some.plan, search rules, search rules)

pub returns-in_err-redo-clause-untouched : goal.returns-in_err-redo-clause-untouched
returns-in_err-redo-clause-untouched g c = λ none. absurd (none (inr (inr (c.in-Some.plan, search rules))))

pub returns-in_err-redo-clause-untouched_crash : goal.returns-in_err-redo-clause-untouched_crash
returns-in_err-redo-clause-untouched_crash g c = λ none. absurd (none (inr (inr (c.in-Some.plan, search rules))))

pub returns-clause-untouched : goal.returns-clause-untouched
returns-clause-untouched g c = λ none. absurd (none (inr (inr (c.in-Some.plan, search rules))))

pub returns-clause-untouched_crash : goal.returns-clause-untouched_crash
returns-clause-untouched_crash g c = λ none. absurd (none (inr (inr (c.in-Some.plan, search rules))))
