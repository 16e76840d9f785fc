use Rattle.std.proofs.Common.{◌≡◌, ◌+◌, ◌*◌, ◌≤◌, take}
use Rattle.nbd_hub.specs.Sessions.{max_open}
use Rattle.nbd_serve.specs.Pending.{pending, beyond}
use Rattle.nbd_serve.proofs.budget.left.Given as goal

abbrev pub invariant-loop-client : goal.invariant-loop-client
invariant-loop-client g l = record {
  within : l.left + max_open * l.budget.share + beyond l.budget.share (take l.client-index l.clients) ≤ l.budget.limit;
  back : pending l.clients ≡ 0 → l.left + max_open * l.budget.share ≡ l.budget.limit;
}
