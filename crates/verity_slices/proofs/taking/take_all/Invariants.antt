use Rattle.std.proofs.Common.{◌≡◌, ℕ, ◌+◌, ◌<◌, List, length, true}
use Rattle.verity_digest.specs.Hash.{hashing}
use Rattle.verity_digest.specs.Tree.{tree}
use Rattle.verity_geometry.specs.Geometry.{digests_per_block, total_of}
use Rattle.verity_tree.specs.Opens.{opens}
use Rattle.verity_build.specs.Progress.{Growing, Grown, IsRight}
use Rattle.verity_build.specs.Device.{AreStored}
use Rattle.verity_slices.specs.Leaves.{WritesPart}
use Rattle.verity_slices.specs.Taking.{AreDigests}
use Rattle.verity_slices.proofs.taking.take_all.Given as goal

abbrev pub invariant-loop-j : goal.invariant-loop-j
invariant-loop-j g l =
    let H = g.H.BlockStore in
    let s = l.fn.tree.geometry in
    let h = hashing l.fn.tree.hasher.salted s.hash_size in
    record {
      growing : l.first + l.j < s.blocks → Growing (digests_per_block s) (l.first + l.j) (opens l.tree) l.tree.root;
      grown : 0 < l.j → l.first + l.j ≡ s.blocks → Grown (digests_per_block s) (l.first + l.j) (opens l.tree) l.tree.root;
      right : (image : List (List ℕ)) → length image ≡ s.blocks → AreDigests h image l.first l.digests
          → IsRight h image (opens l.fn.tree) l.fn.tree.root → IsRight h image (opens l.tree) l.tree.root;
      stored : H.tells l.fn.hash_store ≡ true → (image : List (List ℕ)) → length image ≡ s.blocks → AreDigests h image l.first l.digests
          → IsRight h image (opens l.fn.tree) l.fn.tree.root
          → AreStored s l.start (tree h image) (opens l.fn.tree) (H.content l.fn.hash_store)
          → AreStored s l.start (tree h image) (opens l.tree) (H.content l.hash_store);
      salted : l.tree.hasher.salted ≡ l.fn.tree.hasher.salted;
      geometry : l.tree.geometry ≡ s;
      writes : WritesPart H l.start (l.start + total_of s) l.fn.hash_store l.hash_store;
      unfailed : H.failures l.hash_store ≡ H.failures l.fn.hash_store;
    }
