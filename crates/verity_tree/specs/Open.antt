-- A hash block that is being filled.
use Rattle.std.specs.Prelude.{ℕ, ◌/◌, List}

-- the sizes of the block and of a digest, the digests in it, and the index of the block in its level
pub record Open : Type 0 where
  pub block_size : ℕ
  pub digest_size : ℕ
  pub digests : List (List ℕ)
  pub index : ℕ

-- how many digests it has room for
abbrev pub most : Open → ℕ
most b = b.block_size / b.digest_size
