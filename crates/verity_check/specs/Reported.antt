-- What a report says of a volume, by what stores gave while it was made.
use Rattle.std.specs.Prelude.{ℕ, zero, ◌<◌, ◌≤◌, ◌≡◌, List}
use Rattle.verity_chain.specs.Table.{Table, height, row_len}
use Rattle.verity_chain.specs.Chain.{Given, EndsChain, WrongAt}
use Rattle.verity_chain.specs.declared.place.Place.{Place}
use Rattle.verity_report.specs.Report.{place_of}

-- it is a place of the volume, and below a chain of given blocks a store gave a block there without the digest that is named for it
pub record IsWrongPlace (t : Table) (given : Given) (place : Place) : Type 0 where
  pub r : ℕ
  pub i : ℕ
  pub is : place ≡ place_of r i
  pub row : r ≤ height t
  pub index : i < row_len t r
  pub wrong : WrongAt t given r i

-- of each data block one was given that ends a chain of given blocks
abbrev pub AllChained : Table → Given → Type 0
AllChained t given = (n : ℕ) → n < t.data_blocks → (block : List ℕ) × EndsChain t given zero n block
