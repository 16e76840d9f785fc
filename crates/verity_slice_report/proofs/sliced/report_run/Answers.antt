use Rattle.verity_slice_report.specs.Sliced.{is_of}
use Rattle.verity_slice_report.proofs.KeptLemmas.{kept_each}
use Rattle.verity_slice_report.proofs.sliced.report_run.Goals as goal

pub unchecked_of-unchecked-requires-clause-kept : goal.unchecked_of-unchecked-requires-clause-kept
unchecked_of-unchecked-requires-clause-kept g c =
    rw c.deref.ensures.value (rw c.in_ok-kept.ensures (kept_each (is_of c.read_slice.new.tree c.args.run) c.as_slice.result.now))
