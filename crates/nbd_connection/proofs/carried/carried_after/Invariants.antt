use Rattle.nbd_connection.proofs.carried.carried_after.Given as goal

abbrev pub ghost-carried_at : goal.ghost-carried_at
ghost-carried_at g a = g.log
