-- What a volume is built with, and what is built.
use Rattle.std.specs.Prelude.{ℕ, ◌/◌, List}
use Rattle.verity_digest.specs.declared.algorithm.Algorithm.{Algorithm}
use Rattle.verity_digest.specs.Hash.{Salted, size_of}
use Rattle.verity_geometry.specs.Geometry.{Shape}
use Rattle.verity_store.specs.Blocks.{resized}
use Rattle.verity_superblock.specs.Superblock.{Params}

pub record Parameters : Type 0 where
  pub algorithm : Algorithm
  pub salt : List ℕ
  pub uuid : List ℕ

-- what blocks are hashed with
abbrev pub salted_by : Parameters → Salted
salted_by p = record { algorithm = p.algorithm; salt = p.salt }

-- the parameters of the volume over stores with these block sizes
abbrev pub volume : Parameters → ℕ → ℕ → Params
volume p data_size hash_size = record {
  algorithm = p.algorithm;
  data_block_size = data_size;
  hash_block_size = hash_size;
  salt = p.salt;
  uuid = p.uuid;
}

-- the shape of its tree over so many data blocks
abbrev pub shape_over : Parameters → ℕ → ℕ → ℕ → Shape
shape_over p data_size hash_size blocks = record {
  data_size = data_size;
  hash_size = hash_size;
  digest_size = size_of p.algorithm;
  blocks = blocks;
}

-- the blocks in front of a superblock at this byte offset: the first ones of a store's content, and
-- zero blocks where it is shorter
abbrev pub front : ℕ → ℕ → List (List ℕ) → List (List ℕ)
front offset hash_size content = resized hash_size (offset / hash_size) content
