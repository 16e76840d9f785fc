use Rattle.std.proofs.lemmas.Bool.{false≢true}
use Rattle.uuid.specs.Text.{parsed}
use Rattle.cli_faults.specs.declared.failure.Failure.TheVariants as failure
use Rattle.cli_faults.specs.declared.failure.Word.TheVariants as word
use Rattle.cli_faults.proofs.Uuids.{unread}
use Rattle.cli_faults.proofs.values.uuid.Goals as goal

pub returns-in-Err : goal.returns-in-Err
returns-in-Err c = unread (parsed c.args.text.now) (failure.Word word.Uuid) (λ read. false≢true (c.in-Err.ensures.ok.1 read))
