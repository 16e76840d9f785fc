-- Which file a name is of.
use Rattle.std.specs.Prelude.{ℕ}
use Rattle.os_files.specs.declared.identity.Identity.{Identity}
use Rattle.os_files.specs.declared.identity.Identity.TheVariants.{File}
use Rattle.test_system.specs.declared.four_files.Four.{Four}
use Rattle.test_system.specs.declared.four_files.Four.TheVariants as four
use Rattle.test_system.specs.declared.memory.Name.{Name}
use Rattle.test_system.specs.declared.memory.Name.TheVariants.{Data, Hash, Journal}

abbrev pub identity_of : Name → Identity
identity_of Data = File 0 0
identity_of Hash = File 0 1
identity_of Journal = File 0 2

abbrev pub identity_of_four : Four → Identity
identity_of_four four.From = File 0 0
identity_of_four four.FromHash = File 0 1
identity_of_four four.Data = File 0 2
identity_of_four four.Hash = File 0 3
