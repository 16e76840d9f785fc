-- Lines and what they ask for, checked by computation.
use Rattle.std.specs.Prelude.{◌≡◌, [], ◌∷◌, ◌++◌, replicate, codes, refl, Some, None}
use Rattle.hex.specs.Hex.{decode_pairs}
use Rattle.cli_script.specs.Script.{asked_by, Write, Fill, Grow, Shrink, Discard, Commit}

discards : asked_by (codes "discard") ≡ Some Discard
discards = refl

commits : asked_by (codes "commit") ≡ Some Commit
commits = refl

grows : asked_by (codes "grow 17") ≡ Some (Grow 17)
grows = refl

grows_by_leading_zeros : asked_by (codes "grow 00000000000000000017") ≡ Some (Grow 17)
grows_by_leading_zeros = refl

grows_far : asked_by (codes "grow 18446744073709551615") ≡ Some (Grow 18446744073709551615)
grows_far = refl

shrinks : asked_by (codes "shrink 0") ≡ Some (Shrink 0)
shrinks = refl

writes : asked_by (codes "write 5 00fF") ≡ Some (Write 5 (codes "00fF"))
writes = refl

fills : asked_by (codes "fill 3 aB") ≡ Some (Fill 3 0xab)
unfolding decode_pairs
fills = refl

-- bad lines

too_far : asked_by (codes "grow 18446744073709551616") ≡ None
too_far = refl

too_many_digits : asked_by (codes "grow 000000000000000000017") ≡ None
too_many_digits = refl

no_number : asked_by (codes "grow ") ≡ None
no_number = refl

signed : asked_by (codes "grow +17") ≡ None
signed = refl

two_spaces : asked_by (codes "grow  17") ≡ None
two_spaces = refl

space_before : asked_by (codes " commit") ≡ None
space_before = refl

space_behind : asked_by (codes "commit ") ≡ None
space_behind = refl

carriage_return : asked_by (codes "commit" ++ (13 ∷ [])) ≡ None
carriage_return = refl

in_capitals : asked_by (codes "Commit") ≡ None
in_capitals = refl

odd_block : asked_by (codes "write 5 00f") ≡ None
odd_block = refl

empty_block : asked_by (codes "write 5 ") ≡ None
empty_block = refl

no_block : asked_by (codes "write 5") ≡ None
no_block = refl

wrong_digit : asked_by (codes "write 5 0g") ≡ None
wrong_digit = refl

long_fill : asked_by (codes "fill 3 00ff") ≡ None
long_fill = refl

short_fill : asked_by (codes "fill 3 f") ≡ None
short_fill = refl

four_words : asked_by (codes "fill 3 ff ff") ≡ None
four_words = refl

nothing : asked_by [] ≡ None
nothing = refl
