use Rattle.std.proofs.Common.{ℕ, ◌+◌, ◌*◌, ◌^◌, ◌<◌, ◌≤◌, arith, lit≤}
use Rattle.std.proofs.Math.Nat.{one-le-pow, mul-le-mul_left}
use Rattle.std.proofs.lemmas.Grind.{pow_more}
use Rattle.verity_digest.proofs.Numbers.{exponent_below}
use Rattle.verity_geometry.proofs.geometry.blocks_below.Goals as goal

low_level : (k l : ℕ) → 8 ≤ k → k ^ l < 2 ^ 40 → l < 40
low_level k l eight below = exponent_below 2 k l 40 (lit≤ tt) (omega arith) below

pub overflow_cast-level : goal.overflow_cast-level
overflow_cast-level c = let few = low_level c.args.per_block c.args.level c.requires.wide c.requires.there in omega arith

pub overflow_add-level : goal.overflow_add-level
overflow_add-level c = let few = low_level c.args.per_block c.args.level c.requires.wide c.requires.there in omega arith

pub pow-requires : goal.pow-requires
pow-requires c =
    let wide : c.args.per_block ^ c.args.level * c.args.per_block ≤ c.args.per_block ^ c.args.level * 2 ^ 14 =
    mul-le-mul_left (c.args.per_block ^ c.args.level) c.requires.narrow in
    rw pow_more (omega arith)

pub returns-clause-some : goal.returns-clause-some
returns-clause-some c =
    let some = one-le-pow (c.args.level + 1) c.args.per_block (omega arith) in
    omega (arith, c.pow.ensures)
