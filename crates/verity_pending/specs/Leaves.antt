-- The digests of the data blocks that were changed.
use Rattle.std.specs.Prelude.{ℕ, ◌-◌, ◌+◌, ◌++◌, min, nat_lt, Bool, List, length, map, filter, count_by, replicate, is_some, unwrap_or}
use Rattle.std.specs.List.{range_with_len}
use Rattle.std.specs.Ordering.{nat_cmp}
use Rattle.std.specs.Map.{lookup}
use Rattle.std.specs.BTreeMap.{is_at}
use Rattle.verity_digest.specs.Hash.{Salted, salted_digest}
use Rattle.verity_pending.specs.declared.child.Child.{Child}
use Rattle.verity_pending.specs.Edits.{Edits}
use Rattle.verity_pending.specs.Draft.{Draft}
use Rattle.verity_pending.specs.Touched.{changed_blocks, touched_count}

-- a data block as a child of its hash block
abbrev pub leaf : Salted → ℕ → List ℕ → Child
leaf salted n block = record { number = n; digest = salted_digest salted block }

-- one whose digest is still to be made
abbrev pub unhashed : ℕ → Child
unhashed n = record { number = n; digest = replicate 32 0 }

-- the numbers of the written blocks
abbrev pub numbers_in : List (ℕ × List ℕ) → List ℕ
numbers_in written = map (λ e. e.0) written

-- those before block `least`
abbrev pub old_numbers : ℕ → List (ℕ × List ℕ) → List ℕ
old_numbers least written = map (λ e. e.0) (filter (λ e. nat_lt e.0 least) written)

-- the numbers of the changed blocks, in order: those, and all from `least` to before `working`
abbrev pub changed_numbers : List (ℕ × List ℕ) → ℕ → ℕ → List ℕ
changed_numbers written least working = old_numbers least written ++ range_with_len least (working - least)

-- what was written to block n, or else zeros
abbrev pub written_or : List (ℕ × List ℕ) → List ℕ → ℕ → List ℕ
written_or written zero n = unwrap_or (lookup (is_at (nat_cmp n)) written) zero

-- the leaf of block n
abbrev pub hashed_leaf : Salted → List (ℕ × List ℕ) → List ℕ → ℕ → Child
hashed_leaf salted written zero n = leaf salted n (written_or written zero n)

-- whether block n was written
abbrev pub is_written : List (ℕ × List ℕ) → ℕ → Bool
is_written written n = is_some (lookup (is_at (nat_cmp n)) written)

-- how many blocks are hashed for so many leaves of which so many were written: each of these, and one block of zeros for all others
abbrev pub hashes_for : ℕ → ℕ → ℕ
hashes_for count written = written + min 1 (count - written)

-- how many for the leaves of the blocks of these numbers
abbrev pub leaf_hashes : List (ℕ × List ℕ) → List ℕ → ℕ
leaf_hashes written numbers = hashes_for (length numbers) (count_by (is_written written) numbers)

-- how many blocks are hashed in a commit of these edits: those for its leaves, and each touched hash block
abbrev pub hashes : ℕ → Draft → Edits → ℕ
hashes k d e = leaf_hashes d.written (changed_blocks e) + touched_count k e
