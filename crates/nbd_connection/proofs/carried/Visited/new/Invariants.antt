use Rattle.std.proofs.Common.{[]}
use Rattle.nbd_connection.proofs.carried.Visited.new.Given as goal

abbrev pub ghost-visited_at : goal.ghost-visited_at
ghost-visited_at a = record { accepted = 0; closed = [] }
