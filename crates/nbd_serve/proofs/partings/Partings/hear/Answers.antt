use Rattle.std.proofs.Common.{arith}
use Rattle.nbd_serve.proofs.partings.Partings.hear.Goals as goal

pub each-preserved : goal.each-preserved
each-preserved g c = record {
  count = omega (arith, c.each.invariant.count, c.hear_at.ensures.count);
  told = λ begun hub n k. c.hear_at.ensures.told begun hub n (c.each.invariant.told begun hub n k);
}
