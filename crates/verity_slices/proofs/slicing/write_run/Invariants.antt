use Rattle.std.proofs.Common.{◌≡◌, ℕ, ◌+◌, ◌-◌, ◌*◌, ◌<◌, ◌≤◌, min, [], get_or, true}
use Rattle.verity_digest.specs.Hash.{hashing}
use Rattle.verity_digest.specs.Tree.{per_block}
use Rattle.verity_digest.specs.Rows.{block_at}
use Rattle.verity_geometry.specs.Geometry.{start_of, place_of}
use Rattle.verity_store.specs.Stores.{IsOnlyRead}
use Rattle.verity_slices.specs.Given.{IsGivenLeaf}
use Rattle.verity_slices.specs.Leaves.{WritesPart}
use Rattle.verity_slices.proofs.slicing.write_run.Given as goal

abbrev pub invariant-loop-index : goal.invariant-loop-index
invariant-loop-index g l =
    let D = g.D.BlockStore in
    let H = g.H.BlockStore in
    let s = l.fn.tree.geometry in
    let h = hashing l.fn.tree.hasher.salted s.hash_size in
    let first = l.start + start_of s 0 in
    record {
      stored : D.tells l.fn.data_store ≡ true → H.tells l.fn.hash_store ≡ true → (i : ℕ) → l.fn.run.first ≤ i → i < l.index
          → get_or (H.content l.hash_store) (l.start + place_of s 0 i) [] ≡ block_at h (D.content l.fn.data_store) 1 i;
      given : H.tells l.fn.hash_store ≡ true → (i : ℕ) → l.fn.run.first ≤ i → i < l.index
          → IsGivenLeaf D l.fn.data_store l.data_store h (i * per_block h) (min (per_block h) (s.blocks - i * per_block h))
          (get_or (H.content l.hash_store) (l.start + place_of s 0 i) []);
      writes : WritesPart H (first + l.fn.run.first) (first + l.fn.run.end) l.fn.hash_store l.hash_store;
      data_store : IsOnlyRead D l.fn.data_store l.data_store;
      data_unfailed : D.failures l.data_store ≡ D.failures l.fn.data_store;
      hash_unfailed : H.failures l.hash_store ≡ H.failures l.fn.hash_store;
      salted : l.tree.hasher.salted ≡ l.fn.tree.hasher.salted;
      geometry : l.tree.geometry ≡ s;
    }
