use Rattle.std.proofs.Common.{rules, ◌≡◌, ◌*◌, ◌%◌, ◌<◌, ℕ, arith}
use Rattle.verity_profile.specs.Profile.{IsBlockSize}
use Rattle.verity_profile.proofs.Bounds.{block_size_low}
use Rattle.os_system.proofs.Wholes.{lies_there, whole_mod}
use Rattle.os_system.proofs.stores.store_there.Goals as goal

pub returns-clause-lies : goal.returns-clause-lies
returns-clause-lies g c =
    let is_size : IsBlockSize c.args.size = search rules in
    let low = block_size_low c.args.size is_size in
    lies_there c.store_over.result _ _ c.args.remote c.args.part c.args.size c.in_ok-blocks.blocks (omega (arith, low))
    c.in_ok-blocks.ensures.blocks c.store_over.ensures.file c.store_over.ensures.len

pub returns-clause-ragged : goal.returns-clause-ragged
returns-clause-ragged g c =
    let is_size : IsBlockSize c.args.size = search rules in
    let low = block_size_low c.args.size is_size in
    λ is whole. c.store_over.ensures.ragged is (whole_mod c.in_ok-blocks.blocks c.args.size (omega (arith, low)))
