-- The texts of faults.
use Rattle.std.specs.Prelude.{ℕ, List, codes}
use Rattle.verity_build.specs.Texts.{build_text}
use Rattle.verity_slices.specs.declared.fault.JoinFault.{JoinFault}
use Rattle.verity_slices.specs.declared.fault.JoinFault.TheVariants.{Uncovered, Build}

abbrev pub join_text : JoinFault → List ℕ
join_text Uncovered = codes "J1"
join_text (Build fault) = build_text fault
