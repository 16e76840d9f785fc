-- What is printed behind other lines.
use Rattle.std.proofs.Common.{ℕ, Option, List, ◌++◌, Result, Ok, Err, OnOk}
use Rattle.std.proofs.KnownBytes.{Appends-trans}
use Rattle.std.specs.Io.KnownBytes.{Appends}

pub behind : {T E : Type 0} (r : Result T E) (a b c : Option (List ℕ)) (p q : List ℕ) → Appends a b p → OnOk r (Appends b c q)
    → OnOk r (Appends a c (p ++ q))
behind (Ok done) a b c p q i j = Appends-trans a b c p q i j
behind (Err fault) a b c p q i j = tt
