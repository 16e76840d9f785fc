use Rattle.std.proofs.Common.{[], ◌∷◌, ◌++◌}
use Rattle.nbd_connection.proofs.carried.Visited.closed.Given as goal

abbrev pub ghost-visited_with : goal.ghost-visited_with
ghost-visited_with g a = record {
  accepted = a._visited.now.visits.accepted;
  closed = a._visited.now.visits.closed ++ g.C.Connection.log a._connection.now ∷ [];
}
