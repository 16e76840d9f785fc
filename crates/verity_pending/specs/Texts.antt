-- The texts of faults.
use Rattle.std.specs.Prelude.{ℕ, List, ◌++◌, codes}
use Rattle.std.specs.Fmt.{decimal}
use Rattle.verity_store.specs.Texts.{which_text}
use Rattle.verity_superblock.specs.Texts.{super_text}
use Rattle.verity_pending.specs.declared.fault.EditFault.{EditFault}
use Rattle.verity_pending.specs.declared.fault.EditFault.TheVariants.{OutOfRange, WrongLength, TooSmall, TooLarge, NoMemory, Store, Broken}
use Rattle.verity_pending.specs.declared.fault.EditFault.TheVariants.{Mismatch, Superblock, DataLength, StoreSize, Offset, Line, Untrusted}

abbrev pub edit_text : EditFault → List ℕ
edit_text OutOfRange = codes "E1"
edit_text WrongLength = codes "E2"
edit_text TooSmall = codes "E3"
edit_text TooLarge = codes "E4"
edit_text NoMemory = codes "E5"
edit_text (Store which) = codes "E6 " ++ which_text which
edit_text Broken = codes "E7"
edit_text (Mismatch level index) = codes "E8 level " ++ (decimal level ++ (codes " index " ++ decimal index))
edit_text (Superblock fault) = codes "E9 " ++ super_text fault
edit_text DataLength = codes "E10"
edit_text (StoreSize which) = codes "E11 " ++ which_text which
edit_text Offset = codes "E12"
edit_text Line = codes "E13"
edit_text (Untrusted level index) = codes "E14 level " ++ (decimal level ++ (codes " index " ++ decimal index))
