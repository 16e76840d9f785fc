use Rattle.std.proofs.Common.{◌≡◌, ◌+◌, true}
use Rattle.verity_digest.specs.Hash.{hashing}
use Rattle.verity_geometry.specs.Geometry.{digests_per_block, total_of}
use Rattle.verity_tree.specs.Opens.{opens}
use Rattle.verity_build.specs.Progress.{Settling}
use Rattle.verity_build.specs.Device.{StaysRight, StaysStored}
use Rattle.verity_slices.specs.Leaves.{WritesPart}
use Rattle.verity_slices.proofs.closing.write_done.Given as goal

abbrev pub invariant-loop-level : goal.invariant-loop-level
invariant-loop-level g l =
    let H = g.H.BlockStore in
    let s = l.fn.tree.geometry in
    let h = hashing l.fn.tree.hasher.salted s.hash_size in
    record {
      settling : Settling (digests_per_block s) l.blocks s.blocks l.level (opens l.tree) l.tree.root;
      salted : l.tree.hasher.salted ≡ l.fn.tree.hasher.salted;
      geometry : l.tree.geometry ≡ s;
      right : StaysRight h s.blocks (opens l.fn.tree) l.fn.tree.root (opens l.tree) l.tree.root;
      stored : H.tells l.fn.hash_store ≡ true →
          StaysStored h s l.start (opens l.fn.tree) l.fn.tree.root (H.content l.fn.hash_store) (opens l.tree)
          (H.content l.hash_store);
      writes : WritesPart H l.start (l.start + total_of s) l.fn.hash_store l.hash_store;
      unfailed : H.failures l.hash_store ≡ H.failures l.fn.hash_store;
    }
