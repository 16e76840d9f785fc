-- The texts of faults.
use Rattle.std.specs.Prelude.{ℕ, List, codes}
use Rattle.verity_digest.specs.declared.salt.SaltFault.{SaltFault}
use Rattle.verity_digest.specs.declared.salt.SaltFault.TheVariants.{TooLong, NoMemory}

abbrev pub salt_text : SaltFault → List ℕ
salt_text TooLong = codes "G1"
salt_text NoMemory = codes "G2"
