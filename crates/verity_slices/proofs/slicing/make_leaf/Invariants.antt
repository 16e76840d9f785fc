use Rattle.std.proofs.Common.{◌≡◌, length}
use Rattle.verity_digest.specs.Hash.{hashing}
use Rattle.verity_store.specs.Stores.{IsOnlyRead}
use Rattle.verity_tree.specs.Ahead.{AreAhead, AreOfGiven}
use Rattle.verity_slices.specs.Filling.{Filling}
use Rattle.verity_slices.proofs.slicing.make_leaf.Given as goal

abbrev pub invariant-loop-n : goal.invariant-loop-n
invariant-loop-n g l =
    let D = g.D.BlockStore in
    let s = l.fn.tree.geometry in
    let salted = l.fn.tree.hasher.salted in
    record {
      filling : Filling D l.fn.data_store l.data_store (hashing salted s.hash_size) l.first l.n l.block;
      ahead : AreAhead D salted l.n l.data_store l.leaves.digests l.leaves.taken l.leaves.held;
      of_given : AreOfGiven D salted (length (D.given l.fn.data_store)) l.n l.data_store l.leaves.digests l.leaves.taken l.leaves.held;
      salted : l.tree.hasher.salted ≡ salted;
      geometry : l.tree.geometry ≡ s;
      read : IsOnlyRead D l.fn.data_store l.data_store;
      unfailed : D.failures l.data_store ≡ D.failures l.fn.data_store;
    }
