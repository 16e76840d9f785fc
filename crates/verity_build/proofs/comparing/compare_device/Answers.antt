use Rattle.std.proofs.Common.{◌≡◌, ℕ, List, Err, true, ap, ◌∙◌, subst}
use Rattle.std.proofs.lemmas.Result.{err_from_is_err_and}
use Rattle.verity_digest.specs.Hash.{hashing}
use Rattle.verity_digest.specs.Tree.{tree}
use Rattle.verity_geometry.specs.Geometry.{Shape, levels_of}
use Rattle.verity_tree.specs.Opens.{opens}
use Rattle.verity_tree.proofs.Trees.{levels_of_opens}
use Rattle.verity_build.specs.Differences.{AreCompared}
use Rattle.verity_build.specs.declared.comparing.Place.{Place}
use Rattle.verity_build.proofs.Refusals.{same_fault}
use Rattle.verity_build.proofs.Finishes.{all_closed, root_known, root_right}
use Rattle.verity_build.proofs.Compares.{begins_with, first_difference}
use Rattle.verity_build.proofs.comparing.compare_device.Goals as goal

pub unreachable-requires : goal.unreachable-requires
unreachable-requires g c =
    let first = c.args.tree.now in
    let new = c.compare_tree.new.tree in
    let done = c.in_ok-found.ensures in
    root_known first.geometry (opens new) new.root first.shaped (levels_of_opens new ∙ ap levels_of done.geometry) done.grown
    c.in-None-root.is

pub returns-in_err-found : goal.returns-in_err-found
returns-in_err-found g c =
    let p = err_from_is_err_and c.from_residual.result c.from_residual.ensures.1 in
    let done = c.in_err-found.ensures in
    rw (p.1, p.2) record {
      compared = tt;
      data_store = done.data_store;
      data_reads = tt;
      data_reads_most = done.data_reads_most;
      hash_store = done.hash_store;
      data_failed = λ is. done.data_failed (ap (λ which. Err which) (same_fault _ _ is));
      hash_failed = λ is. done.hash_failed (ap (λ which. Err which) (same_fault _ _ is));
      data_unfailed = tt;
      hash_unfailed = tt;
      hash_reads = done.hash_reads;
    }

pub returns-in-Some : goal.returns-in-Some
returns-in-Some g c =
    let D = g.D.BlockStore in
    let H = g.H.BlockStore in
    let first = c.args.tree.now in
    let new = c.compare_tree.new.tree in
    let done = c.in_ok-found.ensures in
    let s : Shape = first.geometry in
    let image : List (List ℕ) = g.D.BlockStore.content c.args.data_store.now in
    let content : List (List ℕ) = g.H.BlockStore.content c.args.hash_store.now in
    let start : ℕ = c.args.start in
    let place : Place = c.in-Some.place in
    let levels = levels_of_opens new ∙ ap levels_of done.geometry in
    let compared = λ (td : D.tells c.args.data_store.now ≡ true) (th : H.tells c.args.hash_store.now ≡ true).
    subst (λ found. AreCompared s start (tree (hashing first.hasher.salted s.hash_size) image) (opens new) content found)
    c.in-Some.is (done.compared td th) in
    record {
      compared = λ td th. first_difference s first.hasher.salted image start content (opens new) first.shaped first.sized
          c.requires.blocks levels
          (all_closed s (opens new) new.root first.shaped levels done.grown) place (compared td th);
      data_store = done.data_store;
      data_reads = done.data_reads;
      data_reads_most = done.data_reads_most;
      hash_store = done.hash_store;
      data_failed = λ is. cc;
      hash_failed = λ is. cc;
      data_unfailed = done.data_unfailed;
      hash_unfailed = done.hash_unfailed;
      hash_reads = done.hash_reads;
    }

pub returns-in-Some-root : goal.returns-in-Some-root
returns-in-Some-root g c =
    let D = g.D.BlockStore in
    let H = g.H.BlockStore in
    let first = c.args.tree.now in
    let new = c.compare_tree.new.tree in
    let done = c.in_ok-found.ensures in
    let s : Shape = first.geometry in
    let image : List (List ℕ) = g.D.BlockStore.content c.args.data_store.now in
    let content : List (List ℕ) = g.H.BlockStore.content c.args.hash_store.now in
    let start : ℕ = c.args.start in
    let levels = levels_of_opens new ∙ ap levels_of done.geometry in
    let compared = λ (td : D.tells c.args.data_store.now ≡ true) (th : H.tells c.args.hash_store.now ≡ true).
    subst (λ found. AreCompared s start (tree (hashing first.hasher.salted s.hash_size) image) (opens new) content found)
    c.in-None.is (done.compared td th) in
    record {
      compared = λ td th. (
        root_right s (opens new) new.root first.shaped levels done.grown first.hasher.salted image first.sized c.requires.blocks
            c.in-Some-root.root (done.right td) c.in-Some-root.is,
        begins_with s first.hasher.salted image start content (opens new) first.shaped first.sized c.requires.blocks levels
            (all_closed s (opens new) new.root first.shaped levels done.grown) (compared td th),
      );
      data_store = done.data_store;
      data_reads = done.data_reads;
      data_reads_most = done.data_reads_most;
      hash_store = done.hash_store;
      data_failed = λ is. cc;
      hash_failed = λ is. cc;
      data_unfailed = done.data_unfailed;
      hash_unfailed = done.hash_unfailed;
      hash_reads = done.hash_reads;
    }
