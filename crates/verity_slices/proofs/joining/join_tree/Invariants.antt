use Rattle.std.proofs.Common.{◌≡◌, ℕ, ◌+◌, ◌-◌, ◌<◌, ◌≤◌}
use Rattle.verity_digest.specs.Hash.{hashing}
use Rattle.verity_geometry.specs.Geometry.{digests_per_block, total_of}
use Rattle.verity_tree.specs.Opens.{opens}
use Rattle.verity_build.specs.Progress.{Growing, Grown}
use Rattle.verity_slices.specs.Walked.{JoinsPart, Walked}
use Rattle.verity_slices.proofs.joining.join_tree.Given as goal

abbrev pub invariant-loop-n : goal.invariant-loop-n
invariant-loop-n g l =
    let H = g.H.BlockStore in
    let s = l.fn.tree.geometry in
    let h = hashing l.fn.tree.hasher.salted s.hash_size in
    record {
      within : l.n ≤ s.blocks;
      growing : l.n < s.blocks → Growing (digests_per_block s) l.n (opens l.tree) l.tree.root;
      grown : l.n ≡ s.blocks → Grown (digests_per_block s) l.n (opens l.tree) l.tree.root;
      walked : Walked H l.fn.hash_store l.hash_store s l.start (l.start + total_of s) l.n h (opens l.tree) l.tree.root;
      salted : l.tree.hasher.salted ≡ l.fn.tree.hasher.salted;
      geometry : l.tree.geometry ≡ s;
      joins : JoinsPart H l.start (l.start + total_of s) l.fn.hash_store l.hash_store;
      reads : H.reads l.hash_store ≡ H.reads l.fn.hash_store + l.n;
      unfailed : H.failures l.hash_store ≡ H.failures l.fn.hash_store;
    }

abbrev pub decreases-loop-n : goal.decreases-loop-n
decreases-loop-n g l = l.fn.tree.geometry.blocks - l.n
