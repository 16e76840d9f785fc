use Rattle.std.proofs.Common.{◌+◌}
use Rattle.nbd_connection.proofs.carried.Visited.accepted.Given as goal

abbrev pub ghost-visited_after : goal.ghost-visited_after
ghost-visited_after a = record { accepted = a._visited.now.visits.accepted + 1; closed = a._visited.now.visits.closed }
