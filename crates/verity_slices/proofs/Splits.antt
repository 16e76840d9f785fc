-- A tree is the tree above level 0, and level 0 behind it.
use Rattle.std.proofs.Common.{◌≡◌, ℕ, ◌<◌, ◌≤◌, List, [], ◌∷◌, ◌++◌, length, map, ap, ◌∙◌}
use Rattle.std.proofs.lemmas.List.{length-map, append-nil}
use Rattle.verity_digest.specs.Tree.{Hashing, per_block, pack, rounds, tree, root}
use Rattle.verity_digest.specs.Rows.{row}
use Rattle.verity_digest.proofs.Rounds.{next, rounds-more}
use Rattle.verity_digest.proofs.Roots.{root_above-next}
use Rattle.verity_digest.proofs.Places.{joined_from_last, joined_from_last-append}

module _ (h : Hashing) (image : List (List ℕ)) (two : 2 ≤ per_block h) (more : 1 < length image) where
  long : 1 < length (map h.digest image)
  long = rw length-map more

  pub tree_parts : tree h image ≡ tree h (row h image 1) ++ row h image 1
  tree_parts =
      let ds : List (List ℕ) = map h.digest image in
      ap (λ (levels : List (List (List ℕ))). joined_from_last levels) (rounds-more h ds two long)
      ∙ joined_from_last-append (pack h ds ∷ []) (rounds h (next h ds))
      ∙ ap (λ back. joined_from_last (rounds h (next h ds)) ++ back) (append-nil (pack h ds))

  pub root_parts : root h image ≡ root h (row h image 1)
  root_parts = root_above-next h (map h.digest image) two long
