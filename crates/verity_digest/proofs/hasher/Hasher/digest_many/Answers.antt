use Rattle.std.proofs.Common.{◌≡◌, arith}
use Rattle.verity_digest.proofs.hasher.Hasher.digest_many.Goals as goal

pub returns-clause-digests : goal.returns-clause-digests
returns-clause-digests g c = λ j below. c.rest.invariant.3 j (omega arith)
