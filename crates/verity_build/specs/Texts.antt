-- The texts of faults.
use Rattle.std.specs.Prelude.{ℕ, List, ◌++◌, codes}
use Rattle.verity_geometry.specs.Texts.{geometry_text}
use Rattle.verity_store.specs.Texts.{which_text}
use Rattle.verity_build.specs.declared.fault.BuildFault.{BuildFault}
use Rattle.verity_build.specs.declared.fault.BuildFault.TheVariants.{Geometry, Store, NoMemory, Offset}

abbrev pub build_text : BuildFault → List ℕ
build_text (Geometry fault) = codes "U1 " ++ geometry_text fault
build_text (Store which) = codes "U2 " ++ which_text which
build_text NoMemory = codes "U3"
build_text Offset = codes "U4"
