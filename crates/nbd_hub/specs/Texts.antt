-- The texts of faults.
use Rattle.std.specs.Prelude.{ℕ, List, ◌++◌, codes}
use Rattle.nbd_hub.specs.declared.fault.HubFault.{HubFault}
use Rattle.nbd_hub.specs.declared.fault.HubFault.TheVariants.{Full, NoMemory, Unknown, Spent}
use Rattle.nbd_hub.specs.declared.fault.ServeFault.{ServeFault}
use Rattle.nbd_hub.specs.declared.fault.ServeFault.TheVariants as serve

abbrev pub hub_text : HubFault → List ℕ
hub_text Full = codes "H1"
hub_text NoMemory = codes "H2"
hub_text Unknown = codes "H3"
hub_text Spent = codes "H4"

abbrev pub serve_text : ServeFault → List ℕ
serve_text serve.Read = codes "N1"
serve_text serve.Write = codes "N2"
serve_text serve.Turns = codes "N3"
serve_text serve.Starved = codes "N4"
serve_text (serve.Hub fault) = codes "N5 " ++ hub_text fault
