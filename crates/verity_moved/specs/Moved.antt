-- A hash device, whose tree is seen at another hash block.
use Rattle.std.specs.Prelude.{ℕ, ◌+◌, ◌-◌, List, [], ◌∷◌, ◌++◌, take, drop, replicate, map}
use Rattle.verity_profile.specs.Profile.{zero_block}

-- the store below; at which hash block what stands from another one on is seen, and how many blocks at most; how many reads of blocks
-- in front of that were refused, and how many changes
pub record Moving (S : Type 0) : Type 0 where
  pub store : S
  pub here : ℕ
  pub there : ℕ
  pub count : ℕ
  pub refused : ℕ
  pub asked : ℕ

-- nothing was asked yet
abbrev pub moved_from : {S : Type 0} → S → (here there count : ℕ) → Moving S
moved_from store here there count = record {
  store = store;
  here = here;
  there = there;
  count = count;
  refused = 0;
  asked = 0;
}

-- the blocks that are seen; zeros stand for those in front, which can't be read
abbrev pub moved_content : {S : Type 0} → (size : ℕ) → Moving S → List (List ℕ) → List (List ℕ)
moved_content size m content = replicate m.here (zero_block size) ++ take m.count (drop m.there content)

-- at which number a block is seen
abbrev pub moved_number : (here there : ℕ) → ℕ → ℕ
moved_number here there n = n - there + here

-- the same of what was given
abbrev pub moved_one : (here there : ℕ) → ℕ × List ℕ → ℕ × List ℕ
moved_one here there given = (moved_number here there given.0, given.1)

abbrev pub moved_given : {S : Type 0} → Moving S → List (ℕ × List ℕ) → List (ℕ × List ℕ)
moved_given m given = map (moved_one m.here m.there) given

-- to what it is bound: the places, and what the store below is bound to
abbrev pub moved_fixed : {S : Type 0} → Moving S → List (ℕ × List ℕ) → List (ℕ × List ℕ)
moved_fixed m fixed = (m.here, m.there ∷ m.count ∷ []) ∷ fixed
