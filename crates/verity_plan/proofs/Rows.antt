-- Worked rows, computed.
use Rattle.std.proofs.Common.{◌≡◌, ℕ, [], ◌∷◌, replicate, Some, None, refl}
use Rattle.verity_pending.specs.declared.fault.EditFault.TheVariants.{TooSmall, TooLarge}
use Rattle.verity_digest.specs.Shape.{level_count, least_level, row_len}
use Rattle.verity_pending.specs.Edits.{Edits, unedited, with_write, with_growth, with_shrink, grow_rule, shrink_rule}
use Rattle.verity_pending.specs.Touched.{bound}

abbrev unedited_blocks : ℕ → Edits
unedited_blocks n = unedited (replicate n [])

grow_256 : bound 16 (with_growth 0 257 (unedited_blocks 256)) ≡ 4
unfolding level_count least_level row_len
grow_256 = refl

shrink_257 : bound 16 (with_shrink 17 (unedited_blocks 257)) ≡ 2
unfolding level_count least_level row_len
shrink_257 = refl

shrink_17 : bound 16 (with_shrink 1 (unedited_blocks 17)) ≡ 0
unfolding level_count least_level row_len
shrink_17 = refl

grow_16 : bound 16 (with_growth 0 17 (unedited_blocks 16)) ≡ 3
unfolding level_count least_level row_len
grow_16 = refl

shrink_17_16 : bound 16 (with_shrink 16 (unedited_blocks 17)) ≡ 1
unfolding level_count least_level row_len
shrink_17_16 = refl

write_three : bound 16 (with_write 0 [] (with_write 1 [] (with_write 0 [] (unedited_blocks 17)))) ≡ 4
unfolding level_count least_level row_len
write_three = refl

rows_9 : (shrink_rule 17 0 ≡ Some TooSmall) × (shrink_rule 17 17 ≡ Some TooSmall) × (grow_rule 17 (17) ≡ Some TooLarge) ×
    (grow_rule 17 (1099511627777) ≡ Some TooLarge) × (grow_rule 17 (1099511627776) ≡ None)
rows_9 = (refl, refl, refl, refl, refl)

row_10 : (with_growth 2 3 (with_shrink 1 (unedited ((170 ∷ 170 ∷ []) ∷ (170 ∷ 170 ∷ []) ∷ (170 ∷ 170 ∷ []) ∷ [])))).working ≡
    (170 ∷ 170 ∷ []) ∷ (0 ∷ 0 ∷ []) ∷ (0 ∷ 0 ∷ []) ∷ []
row_10 = refl

grow_1 : bound 16 (with_growth 0 257 (unedited_blocks 1)) ≡ 276
unfolding level_count least_level row_len
grow_1 = refl
