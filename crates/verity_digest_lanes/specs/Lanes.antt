-- Messages side by side: each word of a state is a vector, with one lane for each message.
use Rattle.std.specs.Prelude.{ℕ, List, [], ◌∷◌, map, take, drop, slice_index, slice_index_or}

-- lane j of vector k
abbrev pub lane_at : List (List ℕ) → ℕ → ℕ → ℕ
lane_at x k j = slice_index (slice_index_or x k []) j

-- the hash value, or the working variables, of lane j
abbrev pub lane : ℕ → List (List ℕ) → List ℕ
lane j x =
    lane_at x 0 j ∷ lane_at x 1 j ∷ lane_at x 2 j ∷ lane_at x 3 j
    ∷ lane_at x 4 j ∷ lane_at x 5 j ∷ lane_at x 6 j ∷ lane_at x 7 j ∷ []

-- the window of words of lane j
abbrev pub window_of : ℕ → List (List ℕ) → List ℕ
window_of j w = map (λ (v : List ℕ). slice_index v j) w

-- so many bytes, from n on
abbrev pub piece_at : ℕ → List ℕ → ℕ → List ℕ
piece_at size bytes n = take size (drop n bytes)
