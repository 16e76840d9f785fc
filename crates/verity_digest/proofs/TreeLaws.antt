-- The laws of hash trees, put together.
use Rattle.std.proofs.Common.{◌≡◌, ℕ, suc, ◌*◌, ◌/◌, ◌%◌, ◌^◌, ◌<◌, ◌≤◌, List, [], ◌∷◌, length, map, drop, sym, ap, ◌∙◌, arith}
use Rattle.verity_digest.specs.Laws.{UnfoldsRounds, HasNoLevel, CountsBlocks, PlacesBlocks, OrdersLevels, NamesDigests, FillsBlocks}
use Rattle.verity_digest.specs.Laws.{GoesByRows, NamesByRows, HashesAll, GrowsWithCount, LiesAbove}
use Rattle.verity_digest.specs.Tree.{Hashing, per_block, slot, IsHashing}
use Rattle.verity_digest.specs.Shape.{level_count, row_len, held}
use Rattle.verity_digest.specs.Rows.{tree_levels, block_at}
use Rattle.verity_digest.proofs.Rounds.{rounds-few, rounds-more}
use Rattle.verity_digest.proofs.Levels.{length-last_digests}
use Rattle.verity_digest.proofs.Slots.{AreSized-digests}
use Rattle.verity_digest.proofs.Places.{joined_from_last}
use Rattle.verity_digest.proofs.Roots.{root_above-one}
use Rattle.verity_digest.proofs.Sha.{length-digest_of, IsHashing-hashing}
use Rattle.verity_digest.proofs.Numbers.{level_below}
use Rattle.verity_digest.proofs.Counts.{row_len_top, top_start, next_start, last_end, placed}
use Rattle.verity_digest.proofs.Growth.{level_count-mono, row_len-mono, level_start-mono, total-mono, above_within, above-zero, above-suc}
use Rattle.verity_digest.proofs.Rows.{IsLevelCount-levels, length-levels, length-level_of, length-tree, tree-place, level-row}
use Rattle.verity_digest.proofs.Rows.{level_block-row, length-row, digests_at-row, root-row, slot-row}
use Rattle.verity_digest.proofs.Sized.{AllSized-rounds, AllSized-tree, drop-held}

pub unfolds_rounds : (h : Hashing) → 2 ≤ per_block h → UnfoldsRounds h
unfolds_rounds h two = record {
  one = λ digest. rounds-few h (digest ∷ []) (omega arith);
  more = λ digests more. rounds-more h digests two more;
  single = λ digests some. length-last_digests h digests two some;
}

pub has_no_level : (h : Hashing) (block : List ℕ) → HasNoLevel h block
has_no_level h block =
    let none : tree_levels h (block ∷ []) ≡ [] = rounds-few h (h.digest block ∷ []) (omega arith) in
    record {
      levels = none;
      tree = ap (λ levels. joined_from_last levels) none;
      root = root_above-one h (h.digest block ∷ []) (omega arith);
    }

pub counts_blocks : (h : Hashing) (image : List (List ℕ)) → 2 ≤ per_block h → CountsBlocks h image
counts_blocks h image two = record {
  least = IsLevelCount-levels h image two;
  levels = length-levels h image two;
  level = λ l below. length-level_of h image l two below;
  tree = length-tree h image two;
}

pub places_blocks : (h : Hashing) (image : List (List ℕ)) → 2 ≤ per_block h → PlacesBlocks h image
places_blocks h image two l i below inside = tree-place h image l i two below inside

pub orders_levels : (k n : ℕ) → 2 ≤ k → 0 < n → OrdersLevels k n
orders_levels k n two some = record {
  single = λ l top. ap (λ r. row_len k n r) top ∙ row_len_top k n two some;
  first = λ l top. top_start k n l top;
  next = λ l below. next_start k n l below;
  last = λ levels. last_end k n levels;
  each = λ p below. let here = placed k n p below in (here.level, here.index, here.there, here.within, here.at);
}

-- no data block has no level
some_image : (k n l : ℕ) → 2 ≤ k → suc l ≡ level_count k n → 0 < n
some_image k n l two top = let below : k ^ l < n = level_below k n l two (omega arith) in omega arith

pub names_digests : (h : Hashing) (image : List (List ℕ)) → IsHashing h → NamesDigests h image
names_digests h image ok = record {
  leaf = λ b some below.
      ap (λ block. slot h block (b % per_block h)) (level_block-row h image 0 (b / per_block h) ok.branching some)
      ∙ slot-row h image 0 b ok below;
  level = λ l i below inside.
      ap (λ block. slot h block (i % per_block h)) (level_block-row h image (suc l) (i / per_block h) ok.branching below)
      ∙ slot-row h image (suc l) i ok (rw (length-row h image (suc l) (omega (arith, ok.branching))) inside)
      ∙ ap h.digest (sym (level_block-row h image l i ok.branching (omega arith)));
  top = λ l top.
      root-row h image ok.branching (some_image (per_block h) (length image) l ok.branching top)
      ∙ ap (λ r. h.digest (block_at h image r 0)) (sym top)
      ∙ ap h.digest (sym (level_block-row h image l 0 ok.branching (omega arith)));
}

pub fills_blocks : (h : Hashing) (image : List (List ℕ)) → IsHashing h → FillsBlocks h image
fills_blocks h image ok = record {
  levels = AllSized-rounds h (map h.digest image) ok (AreSized-digests h image ok);
  tree = AllSized-tree h image ok;
  zeros = λ l i below inside.
      ap (λ block. drop (held (per_block h) (length image) l i * h.digest_size) block) (level_block-row h image l i ok.branching below)
      ∙ drop-held h image l i ok inside;
}

pub goes_by_rows : (h : Hashing) (image : List (List ℕ)) → 2 ≤ per_block h → GoesByRows h image
goes_by_rows h image two = record {
  level = λ l below. level-row h image l two below;
  holds = λ l. digests_at-row h image l;
  rows = λ r. length-row h image r (omega arith);
  root = λ some. root-row h image two some;
}

pub names_by_rows : (h : Hashing) (image : List (List ℕ)) → IsHashing h → NamesByRows h image
names_by_rows h image ok r i below = slot-row h image r i ok below

pub hashes_all : HashesAll
hashes_all = record { sizes = λ a m. length-digest_of a m; trees = λ s size fits. IsHashing-hashing s size fits }

pub grows_with_count : (k n m : ℕ) → 2 ≤ k → n ≤ m → GrowsWithCount k n m
grows_with_count k n m two le = record {
  levels = level_count-mono k n m two le;
  lengths = λ r. row_len-mono k n m r (omega arith) le;
  starts = λ l. level_start-mono k n m l two le;
  total = total-mono k n m two le;
}

pub lies_above : (k n b : ℕ) → 0 < k → b < n → LiesAbove k n b
lies_above k n b some below = record {
  within = λ l. above_within k n l b some below;
  leaf = above-zero k b;
  next = λ l. above-suc k l b;
}
