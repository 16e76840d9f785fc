use Rattle.std.proofs.Common.{ℕ, ◌*◌, ◌^◌, ◌<◌, ◌≤◌, sym, ap, ◌∙◌, arith, below_more, lit≤}
use Rattle.std.proofs.Math.Nat.{one-le-pow, mul-le-mul_left}
use Rattle.std.proofs.lemmas.Grind.{pow_more}
use Rattle.verity_digest.proofs.Numbers.{exponent_below, level_count_is}
use Rattle.verity_geometry.proofs.geometry.count_levels.Goals as goal

pub loop-reach-smaller : goal.loop-reach-smaller
loop-reach-smaller c =
    let some : 1 ≤ c.args.per_block ^ c.loop-reach.levels = one-le-pow c.loop-reach.levels c.args.per_block (omega arith) in
    let twice : c.loop-reach.reach * 8 ≤ c.loop-reach.reach * c.args.per_block = mul-le-mul_left c.loop-reach.reach c.requires.wide in
    omega (arith, c.loop-reach.invariant.power)

pub loop-reach-preserved : goal.loop-reach-preserved
loop-reach-preserved c =
    let k : ℕ = c.args.per_block in
    let levels : ℕ = c.loop-reach.levels in
    let here : k ^ levels < c.args.blocks = omega (arith, c.loop-reach.invariant.power) in
    let low : levels < 40 = exponent_below 2 k levels 40 (lit≤ tt) (omega arith) (omega arith) in
    record {
      power = ap (λ s. s * k) c.loop-reach.invariant.power ∙ sym (pow_more k levels);
      least = below_more (λ l. k ^ l < c.args.blocks) levels c.loop-reach.invariant.least here;
      few = omega arith;
    }

pub returns : goal.returns
returns c =
    let inv = c.loop-reach.invariant in
    level_count_is c.args.per_block c.args.blocks c.loop-reach.levels (omega arith)
    (record { enough = omega (arith, inv.power); least = inv.least })
