use Rattle.std.proofs.Common.{◌≡◌, length, rules, ap, sym, subst, ◌∙◌}
use Rattle.verity_journal.specs.Journal.{IsJournal}
use Rattle.verity_disks.specs.declared.disks.Device.TheVariants.{Data, Hash, Journal}
use Rattle.os_journal.proofs.recovering.started.Goals as goal

pub returns-in-Ok-clause-started : goal.returns-in-Ok-clause-started
returns-in-Ok-clause-started g c =
    let devices = g.S.Journalled.Disks in
    let same = c.new-keeper.ensures.disks in
    let read = ap (λ d. devices.seen d Journal) same ∙ c.in_ok-disks.ensures.journal in
    record {
      joined = c.new-keeper.result.disks;
      joins = subst (g.S.System.joins c.args.system.now c.args.image c.args.device c.args.journal) (sym same)
          c.in_ok-disks.ensures.joins;
      data_len = ap (λ d. length (devices.seen d Data)) same ∙ c.in_ok-disks.ensures.data_len;
      hash_len = ap (λ d. length (devices.seen d Hash)) same ∙ c.in_ok-disks.ensures.hash_len;
      read = read;
      is_journal = subst IsJournal read c.in-Ok.ensures.journal;
      made = c.in-Ok.ensures.volume;
      durable = search rules;
      any_moment = c.start.ensures.any_moment;
    }
