-- The texts of places.
use Rattle.std.specs.Prelude.{ℕ, List, ◌++◌, codes}
use Rattle.std.specs.Fmt.{decimal}
use Rattle.verity_chain.specs.declared.place.Place.{Place}
use Rattle.verity_chain.specs.declared.place.Place.TheVariants as place

abbrev pub place_text : Place → List ℕ
place_text (place.Data n) = codes "data " ++ decimal n
place_text (place.Hash level index) = codes "level " ++ (decimal level ++ (codes " index " ++ decimal index))
