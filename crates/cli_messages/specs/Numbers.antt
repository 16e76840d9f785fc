-- The numbers of the faults, and the first words of their texts.
use Rattle.std.specs.Prelude.{ℕ, ◌==◌, if◌then◌else◌, List, [], ◌∷◌, codes}
use Rattle.cli_messages.specs.declared.number.Number.{Number}
use Rattle.cli_messages.specs.declared.number.Number.TheVariants.{S1, S2, S3, S4, S5, S6, S7}
use Rattle.cli_messages.specs.declared.number.Number.TheVariants.{G1, G2}
use Rattle.cli_messages.specs.declared.number.Number.TheVariants.{M1, M2, M3}
use Rattle.cli_messages.specs.declared.number.Number.TheVariants.{B1, B2, B3, B4, B5, B6, B7, B8, B9, B10}
use Rattle.cli_messages.specs.declared.number.Number.TheVariants.{L1, L2, L3, L4, L5, L6, L7, L8, L9}
use Rattle.cli_messages.specs.declared.number.Number.TheVariants.{U1, U2, U3, U4, J1}
use Rattle.cli_messages.specs.declared.number.Number.TheVariants.{E1, E2, E3, E4, E5, E6, E7, E8, E9, E10, E11, E12, E13, E14}
use Rattle.cli_messages.specs.declared.number.Number.TheVariants.{V1, V2, V3, V4, V5}
use Rattle.cli_messages.specs.declared.number.Number.TheVariants.{P1, P2}
use Rattle.cli_messages.specs.declared.number.Number.TheVariants.{H1, H2, H3, H4}
use Rattle.cli_messages.specs.declared.number.Number.TheVariants.{N1, N2, N3, N4, N5, N6}

-- a number as it is printed
abbrev pub number_text : Number → List ℕ
number_text S1 = codes "S1"
number_text S2 = codes "S2"
number_text S3 = codes "S3"
number_text S4 = codes "S4"
number_text S5 = codes "S5"
number_text S6 = codes "S6"
number_text S7 = codes "S7"
number_text G1 = codes "G1"
number_text G2 = codes "G2"
number_text M1 = codes "M1"
number_text M2 = codes "M2"
number_text M3 = codes "M3"
number_text B1 = codes "B1"
number_text B2 = codes "B2"
number_text B3 = codes "B3"
number_text B4 = codes "B4"
number_text B5 = codes "B5"
number_text B6 = codes "B6"
number_text B7 = codes "B7"
number_text B8 = codes "B8"
number_text B9 = codes "B9"
number_text B10 = codes "B10"
number_text L1 = codes "L1"
number_text L2 = codes "L2"
number_text L3 = codes "L3"
number_text L4 = codes "L4"
number_text L5 = codes "L5"
number_text L6 = codes "L6"
number_text L7 = codes "L7"
number_text L8 = codes "L8"
number_text L9 = codes "L9"
number_text U1 = codes "U1"
number_text U2 = codes "U2"
number_text U3 = codes "U3"
number_text U4 = codes "U4"
number_text J1 = codes "J1"
number_text E1 = codes "E1"
number_text E2 = codes "E2"
number_text E3 = codes "E3"
number_text E4 = codes "E4"
number_text E5 = codes "E5"
number_text E6 = codes "E6"
number_text E7 = codes "E7"
number_text E8 = codes "E8"
number_text E9 = codes "E9"
number_text E10 = codes "E10"
number_text E11 = codes "E11"
number_text E12 = codes "E12"
number_text E13 = codes "E13"
number_text E14 = codes "E14"
number_text V1 = codes "V1"
number_text V2 = codes "V2"
number_text V3 = codes "V3"
number_text V4 = codes "V4"
number_text V5 = codes "V5"
number_text P1 = codes "P1"
number_text P2 = codes "P2"
number_text H1 = codes "H1"
number_text H2 = codes "H2"
number_text H3 = codes "H3"
number_text H4 = codes "H4"
number_text N1 = codes "N1"
number_text N2 = codes "N2"
number_text N3 = codes "N3"
number_text N4 = codes "N4"
number_text N5 = codes "N5"
number_text N6 = codes "N6"

-- a text up to its first space: of a fault's text, its number
abbrev pub first_word : List ℕ → List ℕ
first_word [] = []
first_word (byte ∷ bytes) = if byte == 32 then [] else byte ∷ first_word bytes
