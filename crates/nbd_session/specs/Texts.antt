-- The texts of faults: the number alone.
use Rattle.std.specs.Prelude.{ℕ, List, codes}
use Rattle.nbd_session.specs.declared.fault.SessionFault.{SessionFault}
use Rattle.nbd_session.specs.declared.fault.SessionFault.TheVariants.{NameLength, NoMemory}

abbrev pub session_text : SessionFault → List ℕ
session_text NameLength = codes "P1"
session_text NoMemory = codes "P2"
