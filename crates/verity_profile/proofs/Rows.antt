-- The bounds by computation: each border, and one past it.
use Rattle.std.proofs.Common.{◌≡◌, refl, true, false}
use Rattle.std.specs.Int.Count.{ones}
use Rattle.verity_profile.specs.Profile.{is_block_size, is_block_count}

smallest : is_block_size 512 ≡ true
unfolding ones
smallest = refl

too_small : is_block_size 256 ≡ false
too_small = refl

no_power : is_block_size 768 ≡ false
unfolding ones
no_power = refl

too_large : is_block_size 1048576 ≡ false
too_large = refl

one_block : is_block_count 1 ≡ true
one_block = refl

most_blocks : is_block_count 1099511627776 ≡ true
most_blocks = refl

no_blocks : is_block_count 0 ≡ false
no_blocks = refl

too_many_blocks : is_block_count 1099511627777 ≡ false
too_many_blocks = refl
