-- The texts of faults.
use Rattle.std.specs.Prelude.{ℕ, List, codes}
use Rattle.verity_geometry.specs.declared.fault.GeometryFault.{GeometryFault}
use Rattle.verity_geometry.specs.declared.fault.GeometryFault.TheVariants.{BadSize, BadCount, DigestSize}

abbrev pub geometry_text : GeometryFault → List ℕ
geometry_text BadSize = codes "M1"
geometry_text BadCount = codes "M2"
geometry_text DigestSize = codes "M3"
