-- What holds of all that is said for an input holds of a stream that was served.
use Rattle.std.specs.Prelude.{ℕ, List, ◌++◌, Result, Ok, Err}
use Rattle.nbd_session.specs.declared.offer.Offer.{Offer}
use Rattle.nbd_hub.specs.declared.fault.ServeFault.{ServeFault}
use Rattle.nbd_hub.specs.declared.fault.ServeFault.TheVariants as fault
use Rattle.nbd_hub.specs.Stream.{Ends, ServedBy}

pub served_weaker : (S T : List ℕ → List ℕ → Type 0) (offer : Offer) (e : Ends) (limit : ℕ) (result : Result (Unit {0}) ServeFault)
    → ((input said : List ℕ) → S input said → T input said) → ServedBy S offer e limit result → ServedBy T offer e limit result
served_weaker S T offer e limit (Ok x) f s = (s.0, s.1, s.2, f s.0 s.1 s.3, s.4, s.5)
served_weaker S T offer e limit (Err fault.Read) f s = (s.0, s.1, s.2, f s.0 s.1 s.3, s.4)
served_weaker S T offer e limit (Err fault.Turns) f s = (s.0, s.1, s.2, f s.0 s.1 s.3, s.4, s.5, s.6)
served_weaker S T offer e limit (Err fault.Write) f s = (s.0, s.1, s.2, s.3, f s.0 (s.1 ++ s.2) s.4, s.5)
served_weaker S T offer e limit (Err fault.Starved) f s = (s.0, s.1, s.2, s.3, f s.0 s.2 s.4, s.5)
served_weaker S T offer e limit (Err (fault.Hub h)) f s = s
