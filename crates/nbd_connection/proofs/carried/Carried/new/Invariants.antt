use Rattle.nbd_connection.specs.Connections.{nothing}
use Rattle.nbd_connection.proofs.carried.Carried.new.Given as goal

abbrev pub ghost-carried_at : goal.ghost-carried_at
ghost-carried_at a = nothing
