-- The fields of an open block.
use Rattle.std.specs.Prelude.{◌≡◌, ℕ, zero, suc, ◌-◌, ◌*◌, ◌<◌, ◌≤◌, List, [], ◌∷◌, length, take, drop, replicate}
use Rattle.verity_tree.specs.Open.{Open}
use Rattle.verity_tree.specs.declared.open_block.OpenBlock.TheInside.{Inside}

-- the first `count` slots of these bytes
abbrev pub slots : ℕ → ℕ → List ℕ → List (List ℕ)
slots size zero bytes = []
slots size (suc count) bytes = take size bytes ∷ slots size count (drop size bytes)

-- the block of these fields
abbrev pub open_of : {Z : Type 0} → Inside Z → Open
open_of b = record {
  block_size = length b.bytes.items;
  digest_size = b.digest_size;
  digests = slots b.digest_size b.filled b.bytes.items;
  index = b.index;
}

-- the digests fit in, and behind them are zeros
pub record IsFilled {Z : Type 0} (b : Inside Z) : Type 0 where
  pub some : 0 < b.digest_size
  pub within : b.filled * b.digest_size ≤ length b.bytes.items
  pub zeros : drop (b.filled * b.digest_size) b.bytes.items ≡ replicate (length b.bytes.items - b.filled * b.digest_size) 0
