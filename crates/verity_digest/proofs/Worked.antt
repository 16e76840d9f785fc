-- A worked tree: blocks of three bytes, and the first byte as a digest. Behind it, worked numbers.
use Rattle.std.proofs.Common.{◌≡◌, ℕ, List, [], ◌∷◌, take, map, refl, lit<, lit≤}
use Rattle.std.specs.List.{range_with_len}
use Rattle.verity_digest.specs.Tree.{Hashing, pack, rounds, rounds_within, root_above, tree_above}
use Rattle.verity_digest.specs.Rows.{row}
use Rattle.verity_digest.specs.Shape.{level_count, least_level, level_len, row_len, level_start, total, blocks_of_levels, held}
use Rattle.verity_digest.proofs.Numbers.{level_count_between}

abbrev toy : Hashing
toy = record { digest = λ block. take 1 block; digest_size = 1; block_size = 3 }

abbrev four : List (List ℕ)
four = (1 ∷ []) ∷ (2 ∷ []) ∷ (3 ∷ []) ∷ (4 ∷ []) ∷ []

worked_rounds : rounds toy four ≡ ((1 ∷ 2 ∷ 3 ∷ []) ∷ (4 ∷ 0 ∷ 0 ∷ []) ∷ []) ∷ ((1 ∷ 4 ∷ 0 ∷ []) ∷ []) ∷ []
unfolding pack rounds rounds_within
worked_rounds = refl

worked_tree : tree_above toy four ≡ (1 ∷ 4 ∷ 0 ∷ []) ∷ (1 ∷ 2 ∷ 3 ∷ []) ∷ (4 ∷ 0 ∷ 0 ∷ []) ∷ []
unfolding pack rounds rounds_within
worked_tree = refl

worked_root : root_above toy four ≡ 1 ∷ []
unfolding pack rounds rounds_within
worked_root = refl

one_digest : rounds toy ((9 ∷ []) ∷ []) ≡ []
unfolding pack rounds rounds_within
one_digest = refl

toy_rows : row toy four 2 ≡ (1 ∷ 4 ∷ 0 ∷ []) ∷ []
unfolding pack
toy_rows = refl

-- 512 byte blocks and 32 byte digests: the lengths of the levels, from level 0 up, and the start of each
lengths : ℕ → List ℕ
lengths n = map (level_len 16 n) (range_with_len 0 (level_count 16 n))

starts : ℕ → List ℕ
starts n = map (level_start 16 n) (range_with_len 0 (level_count 16 n))

seventeen : (lengths 17 ≡ 2 ∷ 1 ∷ []) × (starts 17 ≡ 1 ∷ 0 ∷ []) × (total 16 17 ≡ 3)
unfolding lengths starts level_count least_level row_len blocks_of_levels
seventeen = (refl, refl, refl)

many : (lengths 257 ≡ 17 ∷ 2 ∷ 1 ∷ []) × (starts 257 ≡ 3 ∷ 1 ∷ 0 ∷ []) × (total 16 257 ≡ 20)
unfolding lengths starts level_count least_level row_len blocks_of_levels
many = (refl, refl, refl)

-- the digests that the last block of level 0 and the top block hold, of 17
two_held : (held 16 17 0 1 ≡ 1) × (held 16 17 1 0 ≡ 2)
unfolding row_len
two_held = (refl, refl)

-- the most levels, of either algorithm
largest : level_count 16 1099511627776 ≡ 10
largest = level_count_between 16 1099511627776 9 (lit≤ tt) (lit< tt) (lit≤ tt)

largest_wide : level_count 8 1099511627776 ≡ 14
largest_wide = level_count_between 8 1099511627776 13 (lit≤ tt) (lit< tt) (lit≤ tt)
