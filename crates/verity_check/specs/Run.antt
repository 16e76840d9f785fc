-- How far a run of data blocks came.
use Rattle.std.specs.Prelude.{ℕ, zero, ◌+◌, ◌<◌, ◌≤◌, ◌≡◌, ◌≢◌, List, Option, None, IfSome}
use Rattle.verity_store.specs.Blocks.{cut}
use Rattle.verity_chain.specs.Table.{Table}
use Rattle.verity_chain.specs.Chain.{Given, WrongAt}
use Rattle.verity_check.specs.Range.{Served}
use Rattle.verity_check.specs.Refusal.{Explains}
use Rattle.verity_check.specs.declared.fault.CheckFault.{CheckFault}
use Rattle.verity_check.specs.declared.fault.CheckFault.TheVariants as faults

-- of the data blocks from n on so many have a name, so many of these were read, and so many of those are the ones that are named
pub record IsCompared (t : Table) (given : Given) (data_failed hash_failed : Type 0) (n count : ℕ) (run : List ℕ) (named read good : ℕ)
    (unnamed : Option CheckFault) : Type 0 where
  pub served : Served t given n (cut t.data_block_size good run)
  pub wrong : good < read → WrongAt t given zero (n + good)
  pub failed : read < named → data_failed
  pub all : unnamed ≡ None → named ≡ count
  pub short : IfSome unnamed (λ fault. named < count)
  pub err : IfSome unnamed (Explains t given data_failed hash_failed (n + named))
  pub memory : IfSome unnamed (λ fault. fault ≢ faults.NoMemory)
  pub good_of_read : good ≤ read
  pub read_of_named : read ≤ named
  pub named_of_all : named ≤ count
