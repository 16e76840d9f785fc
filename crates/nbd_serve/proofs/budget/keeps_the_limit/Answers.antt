use Rattle.nbd_serve.proofs.Counting.{keeps}
use Rattle.nbd_serve.proofs.budget.keeps_the_limit.Goals as goal

pub returns : goal.returns
returns g c = λ limit share clients l w. keeps limit share clients l w
