use Rattle.verity_chain.proofs.NoteLaws.{own_or_clashes}
use Rattle.verity_chain.proofs.laws.checked_is_own.Goals as goal

pub returns : goal.returns
returns c = λ t image notes ok fits checked. own_or_clashes t image ok fits notes checked
