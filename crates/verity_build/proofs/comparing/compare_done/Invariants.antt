use Rattle.std.proofs.Common.{◌≡◌, ◌+◌, ◌≤◌, true}
use Rattle.verity_digest.specs.Hash.{hashing}
use Rattle.verity_geometry.specs.Geometry.{digests_per_block}
use Rattle.verity_store.specs.Stores.{IsOnlyRead}
use Rattle.verity_tree.specs.Opens.{opens}
use Rattle.verity_build.specs.Progress.{closed, Settling}
use Rattle.verity_build.specs.Device.{StaysRight}
use Rattle.verity_build.specs.Differences.{StaysCompared}
use Rattle.verity_build.proofs.comparing.compare_done.Given as goal

abbrev pub invariant-loop-level : goal.invariant-loop-level
invariant-loop-level g l =
    let H = g.H.BlockStore in
    let s = l.fn.tree.geometry in
    let h = hashing l.fn.tree.hasher.salted s.hash_size in
    record {
      settling : Settling (digests_per_block s) l.blocks s.blocks l.level (opens l.tree) l.tree.root;
      salted : l.tree.hasher.salted ≡ l.fn.tree.hasher.salted;
      geometry : l.tree.geometry ≡ s;
      right : StaysRight h s.blocks (opens l.fn.tree) l.fn.tree.root (opens l.tree) l.tree.root;
      compared : H.tells l.fn.hash_store ≡ true → StaysCompared h s l.start (H.content l.fn.hash_store) (opens l.fn.tree)
          l.fn.tree.root l.fn.found_before (opens l.tree) l.found;
      read : IsOnlyRead H l.fn.hash_store l.hash_store;
      reads : H.reads l.hash_store + closed (opens l.fn.tree) ≤ H.reads l.fn.hash_store + closed (opens l.tree);
      unfailed : H.failures l.hash_store ≡ H.failures l.fn.hash_store;
    }
