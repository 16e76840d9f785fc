use Rattle.nbd_connection.proofs.carried.visited_after.Given as goal

abbrev pub ghost-visited_at : goal.ghost-visited_at
ghost-visited_at g a = g.visits
