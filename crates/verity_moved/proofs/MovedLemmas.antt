-- A hash device whose tree is seen at another hash block.
use Rattle.std.proofs.Common.{◌≡◌, ℕ, ◌+◌, ◌-◌, ◌<◌, ◌≤◌, min, List, [], ◌∷◌, ◌++◌, length, take, drop, map, replicate, get_or}
use Rattle.std.proofs.Common.{length-append, length-take, length-drop, refl, sym, ap, ◌∙◌, arith}
use Rattle.std.proofs.lemmas.List.{length-replicate, get_or-append_right, get_or-drop, get_or-take, map_push, length-map, take-map}
use Rattle.std.proofs.lemmas.List.Elements.{All-append, All-drop, All-take}
use Rattle.verity_profile.specs.Profile.{AllSized, zero_block}
use Rattle.verity_store.specs.Given.{GoesOn}
use Rattle.verity_store.proofs.BlockLemmas.{AllSized-replicate}
use Rattle.verity_moved.specs.Moved.{moved_number, moved_one}

module _ (size here there count : ℕ) (blocks : List (List ℕ)) where
  -- how many blocks are seen
  pub moved_len : length (replicate here (zero_block size) ++ take count (drop there blocks)) ≡ here + min count (length blocks - there)
  moved_len = length-append (replicate here (zero_block size)) (take count (drop there blocks))
      ∙ omega (arith, length-replicate here (zero_block size), length-take count (drop there blocks), length-drop there blocks)

  -- where one of them stands
  pub moved_within : (n : ℕ) → here ≤ n → n < length (replicate here (zero_block size) ++ take count (drop there blocks))
      → there + (n - here) < length blocks
  moved_within n behind within = omega (arith, moved_len)

  pub moved_block : (n : ℕ) → here ≤ n → n < length (replicate here (zero_block size) ++ take count (drop there blocks))
      → get_or (replicate here (zero_block size) ++ take count (drop there blocks)) n [] ≡ get_or blocks (there + (n - here)) []
  moved_block n behind within =
      let front : length (replicate here (zero_block size)) ≡ here = length-replicate here (zero_block size) in
      get_or-append_right (replicate here (zero_block size)) (take count (drop there blocks)) here n [] front behind
      ∙ (get_or-take count (drop there blocks) (n - here) [] (omega (arith, moved_len)) ∙ get_or-drop there blocks (n - here) [])

  pub moved_sized : AllSized size blocks → AllSized size (replicate here (zero_block size) ++ take count (drop there blocks))
  moved_sized sized = All-append (λ block. length block ≡ size) (replicate here (zero_block size)) (take count (drop there blocks))
      (AllSized-replicate size here)
      (All-take (λ block. length block ≡ size) count (drop there blocks) (All-drop (λ block. length block ≡ size) there blocks sized))

-- a block that is given is seen at its number
pub moved_push : (here there n : ℕ) (out : List ℕ) (given : List (ℕ × List ℕ)) → here ≤ n
    → map (moved_one here there) (given ++ (there + (n - here), out) ∷ []) ≡ map (moved_one here there) given ++ (n, out) ∷ []
moved_push here there n out given behind = map_push (moved_one here there) given (there + (n - here), out)
    ∙ (let same : moved_number here there (there + (n - here)) ≡ n = omega arith in
    ap (λ k. map (moved_one here there) given ++ (k, out) ∷ []) same)

-- and a log that goes on is seen to go on
pub moved_goes_on : (here there : ℕ) (old new : List (ℕ × List ℕ)) → GoesOn old new
    → GoesOn (map (moved_one here there) old) (map (moved_one here there) new)
moved_goes_on here there old new on = ap (λ n. take n (map (moved_one here there) new)) (length-map old (moved_one here there))
    ∙ (take-map (moved_one here there) (length old) new ∙ ap (map (moved_one here there)) on)
