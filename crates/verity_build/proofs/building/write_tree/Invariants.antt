use Rattle.std.proofs.Common.{◌≡◌, ◌+◌, ◌-◌, ◌<◌, true, length}
use Rattle.verity_digest.specs.Hash.{hashing}
use Rattle.verity_digest.specs.Tree.{tree}
use Rattle.verity_geometry.specs.Geometry.{digests_per_block}
use Rattle.verity_store.specs.Stores.{IsOnlyRead}
use Rattle.verity_tree.specs.Opens.{opens}
use Rattle.verity_tree.specs.Ahead.{AreAhead, AreOfGiven}
use Rattle.verity_build.specs.Given.{IsGivenTo}
use Rattle.verity_build.specs.Progress.{Growing, Grown, IsRight}
use Rattle.verity_build.specs.Device.{AreStored, WritesFrom}
use Rattle.verity_build.proofs.building.write_tree.Given as goal

abbrev pub invariant-loop-n : goal.invariant-loop-n
invariant-loop-n g l =
    let D = g.D.BlockStore in
    let H = g.H.BlockStore in
    let s = l.fn.tree.geometry in
    let h = hashing l.fn.tree.hasher.salted s.hash_size in
    let image = D.content l.fn.data_store in
    record {
      growing : l.n < s.blocks → Growing (digests_per_block s) l.n (opens l.tree) l.tree.root;
      grown : l.n ≡ s.blocks → Grown (digests_per_block s) l.n (opens l.tree) l.tree.root;
      salted : l.tree.hasher.salted ≡ l.fn.tree.hasher.salted;
      geometry : l.tree.geometry ≡ s;
      right : D.tells l.fn.data_store ≡ true → IsRight h image (opens l.tree) l.tree.root;
      given : IsGivenTo D l.fn.data_store l.data_store h s.blocks l.n (opens l.tree) l.tree.root;
      of_given : AreOfGiven D l.fn.tree.hasher.salted (length (D.given l.fn.data_store)) l.n l.data_store l.leaves.digests l.leaves.taken
          l.leaves.held;
      stored : D.tells l.fn.data_store ≡ true → H.tells l.fn.hash_store ≡ true →
          AreStored s l.start (tree h image) (opens l.tree) (H.content l.hash_store);
      data_store : IsOnlyRead D l.fn.data_store l.data_store;
      ahead : AreAhead D l.fn.tree.hasher.salted l.n l.data_store l.leaves.digests l.leaves.taken l.leaves.held;
      data_reads : D.reads l.data_store ≡ D.reads l.fn.data_store + l.n + (l.leaves.held - l.leaves.taken);
      hash_store : WritesFrom H l.start l.fn.hash_store l.hash_store;
      data_unfailed : D.failures l.data_store ≡ D.failures l.fn.data_store;
      hash_unfailed : H.failures l.hash_store ≡ H.failures l.fn.hash_store;
    }
