-- The texts of faults.
use Rattle.std.specs.Prelude.{ℕ, List, codes}
use Rattle.verity_superblock.specs.declared.faults.SuperFault.{SuperFault}
use Rattle.verity_superblock.specs.declared.faults.SuperFault.TheVariants as super
use Rattle.verity_superblock.specs.declared.faults.TableFault.{TableFault}
use Rattle.verity_superblock.specs.declared.faults.TableFault.TheVariants as table

abbrev pub super_text : SuperFault → List ℕ
super_text super.Short = codes "B1"
super_text super.Signature = codes "B2"
super_text super.Version = codes "B3"
super_text super.HashType = codes "B4"
super_text super.Algorithm = codes "B5"
super_text super.BadSize = codes "B6"
super_text super.BadCount = codes "B7"
super_text super.SaltSize = codes "B8"
super_text super.NoMemory = codes "B9"
super_text super.Offset = codes "B10"

abbrev pub table_text : TableFault → List ℕ
table_text table.Fields = codes "L1"
table_text table.Version = codes "L2"
table_text table.Number = codes "L3"
table_text table.Size = codes "L4"
table_text table.Count = codes "L5"
table_text table.Algorithm = codes "L6"
table_text table.Digest = codes "L7"
table_text table.Salt = codes "L8"
table_text table.NoMemory = codes "L9"
