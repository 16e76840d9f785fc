-- The bad places that `serve` prints.
use Rattle.std.specs.Prelude.{◌≡◌, ◌==◌, ◌<◌, ◌≤◌, ◌∷◌, ◌++◌, ℕ, true, false, List, [], length, Contains, codes, Option, Some, None}
use Rattle.std.specs.Prelude.{if◌then◌else◌}
use Rattle.std.specs.Fmt.{decimal}
use Rattle.verity_store.specs.declared.fault.Which.{Which}
use Rattle.verity_store.specs.declared.fault.Which.TheVariants as which
use Rattle.verity_chain.specs.declared.place.Place.TheVariants as place
use Rattle.verity_check.specs.declared.fault.CheckFault.{CheckFault}
use Rattle.verity_check.specs.declared.fault.CheckFault.TheVariants as check
use Rattle.cli_serve.specs.declared.bad.Bad.{Bad}
use Rattle.cli_serve.specs.declared.bad.Bad.TheVariants.{Wrong, Unread, UnreadAmong}
use Rattle.cli_serve.specs.declared.named.Met.{Met}
use Rattle.cli_serve.specs.declared.named.Met.TheVariants as met
use Rattle.cli_serve.specs.Naming.{Naming}

-- what of a store couldn't be read, of a READ that touches these data blocks
abbrev pub unread_of : Which → (first last : ℕ) → Bad
unread_of store first last = if first == last then Unread store first else UnreadAmong store first last

-- the place for which a READ of these data blocks was refused
abbrev pub bad_of : CheckFault → (first last : ℕ) → Option Bad
bad_of (check.Mismatch place) first last = Some (Wrong place)
bad_of (check.Store store) first last = Some (unread_of store first last)
bad_of fault first last = None

-- its text
abbrev pub bad_text : Bad → List ℕ
bad_text (Wrong (place.Data n)) =
    codes "data block " ++ (decimal n ++ codes " isn't the one that the table line vouches for (V2); READs that touch it get EIO")
bad_text (Wrong (place.Hash level index)) = codes "hash block " ++ (decimal index ++ (codes " of level " ++ (decimal level
    ++ codes " isn't the one that the table line vouches for (V2); READs of data under it get EIO")))
bad_text (Unread which.Data block) = codes "data block " ++ (decimal block ++ codes " can't be read (V3)")
bad_text (Unread which.Hash block) = codes "a hash block above data block " ++ (decimal block ++ codes " can't be read (V3)")
bad_text (UnreadAmong which.Data first last) =
    codes "a data block from " ++ (decimal first ++ (codes " to " ++ (decimal last ++ codes " can't be read (V3)")))
bad_text (UnreadAmong which.Hash first last) =
    codes "a hash block above data blocks " ++ (decimal first ++ (codes " to " ++ (decimal last ++ codes " can't be read (V3)")))

-- how many places are named at most
abbrev pub most_named : ℕ
most_named = 1000

-- What is printed of a bad place that is met: the place, where it wasn't named and fewer than the most were, and then it is named;
-- nothing, where it was named; else that no more are named, once.
abbrev pub IsMet : (old new : Naming) → Bad → Met → Type 0
IsMet old new bad met.Known = Contains old.places bad × (new ≡ old)
IsMet old new bad met.New = (¬ Contains old.places bad) × (length old.places < most_named)
    × (new ≡ record { places = old.places ++ bad ∷ []; is_over = old.is_over })
IsMet old new bad met.TooMany = (¬ Contains old.places bad) × (most_named ≤ length old.places) × (old.is_over ≡ false)
    × (new ≡ record { places = old.places; is_over = true })
IsMet old new bad met.Silent = (¬ Contains old.places bad) × (most_named ≤ length old.places) × (old.is_over ≡ true) × (new ≡ old)

-- a place is met, or there is none
abbrev pub AreMet : (old new : Naming) → Option Bad → Type 0
AreMet old new None = new ≡ old
AreMet old new (Some bad) = (met : Met) × IsMet old new bad met
