-- The texts of faults and of the names of two stores.
use Rattle.std.specs.Prelude.{ℕ, List, codes}
use Rattle.verity_store.specs.declared.fault.StoreFault.{StoreFault}
use Rattle.verity_store.specs.declared.fault.StoreFault.TheVariants.{Device, Ragged, NoMemory, BlockSize}
use Rattle.verity_store.specs.declared.fault.Which.{Which}
use Rattle.verity_store.specs.declared.fault.Which.TheVariants.{Data, Hash}

abbrev pub fault_text : StoreFault → List ℕ
fault_text Device = codes "S1"
fault_text Ragged = codes "S2"
fault_text NoMemory = codes "S3"
fault_text BlockSize = codes "S4"

abbrev pub which_text : Which → List ℕ
which_text Data = codes "data"
which_text Hash = codes "hash"
