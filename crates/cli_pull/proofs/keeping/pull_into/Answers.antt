use Rattle.std.proofs.Common.{Some, inr}
use Rattle.cli_pull.proofs.KeepingLemmas.{held_some}
use Rattle.cli_pull.proofs.Results.{on_err_then, on_ok}
use Rattle.cli_pull.proofs.keeping.pull_into.Goals as goal

pub returns-in-Some-clause-pulled : goal.returns-in-Some-clause-pulled
returns-in-Some-clause-pulled g c = on_ok c.pull_under.result (λ under. record {
  table = Some c.as_str.result;
  held = held_some _ _ c.in-Some.line c.as_str.result c.in-Some.is c.in_ok-line.ensures.held c.as_str.ensures.value;
  under = under;
}) c.pull_under.ensures.pulled

pub returns-in-Some-clause-left : goal.returns-in-Some-clause-left
returns-in-Some-clause-left g c = on_err_then c.pull_under.result (λ cut. inr (
  Some c.as_str.result,
  held_some _ _ c.in-Some.line c.as_str.result c.in-Some.is c.in_ok-line.ensures.held c.as_str.ensures.value,
  cut,
)) c.pull_under.ensures.cut
