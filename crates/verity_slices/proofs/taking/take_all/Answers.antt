use Rattle.std.proofs.Common.{◌≡◌, ℕ, ◌+◌, ◌<◌, ◌≤◌, List, [], length, get_or, true, refl, sym, ap, ◌∙◌, subst, arith}
use Rattle.std.proofs.lemmas.List.{get_or_default}
use Rattle.std.proofs.lemmas.Result.{err_from_is_err_and}
use Rattle.verity_digest.specs.Hash.{Salted, hashing, salted_digest}
use Rattle.verity_digest.specs.Tree.{Hashing, tree}
use Rattle.verity_geometry.specs.Geometry.{Shape, digests_per_block, levels_of, total_of}
use Rattle.verity_tree.specs.Climb.{open_at, Comes}
use Rattle.verity_tree.specs.Opens.{opens}
use Rattle.verity_tree.proofs.Trees.{levels_of_opens}
use Rattle.verity_build.specs.Progress.{Growing, Grown, Settling, IsRight}
use Rattle.verity_build.specs.Device.{AreStored, StaysRight, StaysStored}
use Rattle.verity_build.proofs.Settles.{settling_from}
use Rattle.verity_build.proofs.Turns.{come_right, come_stored}
use Rattle.verity_slices.specs.Leaves.{WritesPart}
use Rattle.verity_slices.specs.Taking.{AreDigests}
use Rattle.verity_slices.proofs.Parts.{part_none, part_then}
use Rattle.verity_slices.proofs.taking.take_all.Goals as goal

pub loop-j-init : goal.loop-j-init
loop-j-init g c =
    let first = c.args.tree.now in
    let s : Shape = first.geometry in
    let none : c.args.first ≡ c.args.first + 0 = omega arith in
    record {
      growing = λ more. subst (λ m. Growing (digests_per_block s) m (opens first) first.root) none c.requires.growing;
      grown = λ some. absurd (omega (arith, some));
      right = λ image count are right. right;
      stored = λ tells image count are right stored. stored;
      salted = refl;
      geometry = refl;
      writes = part_none g.H.BlockStore c.args.start (c.args.start + total_of s) c.args.hash_store.now;
      unfailed = refl;
    }

pub write_done-requires-clause-come : goal.write_done-requires-clause-come
write_done-requires-clause-come g c =
    let s : Shape = c.args.tree.now.geometry in
    let now = c.loop-j.tree in
    let mid = c.take.new.self in
    let kept = c.loop-j.invariant in
    let n : ℕ = c.args.first + c.loop-j.j in
    let same = c.take.ensures.geometry ∙ kept.geometry in
    let growing = kept.growing (omega (arith, c.loop-j-test.true, c.requires.within)) in
    subst (λ t. Settling (digests_per_block t) (n + 1) t.blocks 0 (opens mid) mid.root) (sym same)
    (settling_from (digests_per_block s) n c.index-digests-j.result (opens now) (opens mid) now.root mid.root growing
    c.take.ensures.comes s.blocks)

pub loop-j-preserved : goal.loop-j-preserved
loop-j-preserved g c =
    let H = g.H.BlockStore in
    let first = c.args.tree.now in
    let s : Shape = first.geometry in
    let salted : Salted = first.hasher.salted in
    let h : Hashing = hashing salted s.hash_size in
    let now = c.loop-j.tree in
    let mid = c.take.new.self in
    let new = c.write_done.new.tree in
    let kept = c.loop-j.invariant in
    let wrote = c.in_ok-write_done.ensures in
    let start : ℕ = c.args.start in
    let j : ℕ = c.loop-j.j in
    let n : ℕ = c.args.first + j in
    let digest : List ℕ = c.index-digests-j.result in
    let inside : j < length c.args.digests.now = omega (arith, c.loop-j-test.true) in
    let below : n < s.blocks = omega (arith, inside, c.requires.within) in
    let next : n + 1 ≡ c.args.first + (j + 1) = omega arith in
    let is : get_or c.args.digests.now j [] ≡ digest = get_or_default c.args.digests.now j [] digest inside ∙ sym c.index-digests-j.is in
    let growing = kept.growing below in
    let geometry = c.take.ensures.geometry ∙ kept.geometry in
    let same_salted = c.take.ensures.salted ∙ kept.salted in
    let hashes : hashing mid.hasher.salted mid.geometry.hash_size ≡ h = λ i. hashing (same_salted i) (geometry i).hash_size in
    let levels : length (opens now) ≡ levels_of s = levels_of_opens now ∙ ap levels_of kept.geometry in
    let comes = λ (image : List (List ℕ)) (are : AreDigests h image c.args.first c.args.digests.now).
    subst (λ d. Comes 0 d (opens now) (opens mid) now.root mid.root) (sym is ∙ are j inside) c.take.ensures.comes in
    let mid_right = λ (image : List (List ℕ)) (count : length image ≡ s.blocks) (are : AreDigests h image c.args.first c.args.digests.now)
    (right : IsRight h image (opens now) now.root).
    come_right salted s n (get_or image n []) (opens now) (opens mid) now.root mid.root first.shaped first.sized levels growing
    (comes image are) image count below refl right in
    let stays_right : StaysRight h s.blocks (opens mid) mid.root (opens new) new.root =
    let P : ℕ → Type 0 = λ b. StaysRight h b (opens mid) mid.root (opens new) new.root in
    let Q : Hashing → Type 0 = λ x. StaysRight x mid.geometry.blocks (opens mid) mid.root (opens new) new.root in
    subst P (ap (λ t. t.blocks) geometry) (subst Q hashes wrote.right) in
    let stays_stored : H.tells c.args.hash_store.now ≡ true →
    StaysStored h s start (opens mid) mid.root (H.content c.loop-j.hash_store) (opens new)
    (H.content c.write_done.new.hash_store) = λ tells.
    let P : Shape → Type 0 = λ t. StaysStored h t start (opens mid) mid.root (H.content c.loop-j.hash_store)
    (opens new) (H.content c.write_done.new.hash_store) in
    let Q : Hashing → Type 0 = λ x. StaysStored x mid.geometry start (opens mid) mid.root
    (H.content c.loop-j.hash_store) (opens new) (H.content c.write_done.new.hash_store) in
    subst P geometry (subst Q hashes (wrote.stored (kept.writes.later.tells ∙ tells))) in
    record {
      growing = λ more. subst (λ m. Growing (digests_per_block s) m (opens new) new.root) next
          (subst (λ t. Growing (digests_per_block t) (n + 1) (opens new) new.root) geometry
          (wrote.growing (omega (arith, more, ap (λ t. t.blocks) geometry))));
      grown = λ some last. subst (λ m. Grown (digests_per_block s) m (opens new) new.root) next
          (subst (λ t. Grown (digests_per_block t) (n + 1) (opens new) new.root) geometry
          (wrote.grown (omega (arith, last, ap (λ t. t.blocks) geometry))));
      right = λ image count are was. stays_right image count (mid_right image count are (kept.right image count are was));
      stored = λ tells image count are was stored.
          let right = kept.right image count are was in
          stays_stored tells image count (mid_right image count are right)
          (come_stored salted s n (get_or image n []) (opens now) (opens mid) now.root mid.root first.shaped first.sized levels growing
          (comes image are) start (tree h image) (H.content c.loop-j.hash_store) (kept.stored tells image count are was stored));
      salted = wrote.salted ∙ same_salted;
      geometry = wrote.geometry ∙ geometry;
      writes = part_then H start (start + total_of s) c.args.hash_store.now c.loop-j.hash_store c.write_done.new.hash_store kept.writes
          (subst (λ t. WritesPart H start (start + total_of t) c.loop-j.hash_store c.write_done.new.hash_store) geometry wrote.writes);
      unfailed = wrote.unfailed ∙ kept.unfailed;
    }

pub returns-in_err-write_done : goal.returns-in_err-write_done
returns-in_err-write_done g c =
    let H = g.H.BlockStore in
    let s : Shape = c.args.tree.now.geometry in
    let start : ℕ = c.args.start in
    let kept = c.loop-j.invariant in
    let wrote = c.write_done.ensures in
    let geometry = c.take.ensures.geometry ∙ kept.geometry in
    let p = err_from_is_err_and c.from_residual.result c.from_residual.ensures.1 in
    rw (p.1) record {
      growing = tt;
      grown = tt;
      right = tt;
      stored = tt;
      salted = wrote.salted ∙ c.take.ensures.salted ∙ kept.salted;
      geometry = wrote.geometry ∙ geometry;
      writes = part_then H start (start + total_of s) c.args.hash_store.now c.loop-j.hash_store c.write_done.new.hash_store kept.writes
          (subst (λ t. WritesPart H start (start + total_of t) c.loop-j.hash_store c.write_done.new.hash_store) geometry wrote.writes);
      failed = subst (λ n. n < H.failures c.write_done.new.hash_store) kept.unfailed c.in_err-write_done.ensures.failed;
      unfailed = tt;
    }

pub returns : goal.returns
returns g c =
    let now = c.loop-j.tree in
    let s : Shape = c.args.tree.now.geometry in
    let kept = c.loop-j.invariant in
    let all : c.loop-j.j ≡ length c.args.digests.now = omega (arith, c.loop-j-test.false) in
    record {
      growing = λ more. subst (λ m. Growing (digests_per_block s) (c.args.first + m) (opens now) now.root) all
          (kept.growing (omega (arith, more, all)));
      grown = λ last. subst (λ m. Grown (digests_per_block s) (c.args.first + m) (opens now) now.root) all
          (kept.grown (omega (arith, c.requires.some, all)) (omega (arith, last, all)));
      right = kept.right;
      stored = kept.stored;
      salted = kept.salted;
      geometry = kept.geometry;
      writes = kept.writes;
      failed = tt;
      unfailed = kept.unfailed;
    }
