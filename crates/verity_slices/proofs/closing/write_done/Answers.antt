use Rattle.std.proofs.Common.{◌≡◌, ℕ, suc, ◌+◌, ◌<◌, ◌≤◌, length, set, sym, ap, ◌∙◌, subst, arith}
use Rattle.std.proofs.Math.Numerals.{add-one}
use Rattle.std.proofs.lemmas.Result.{err_from_is_err_and}
use Rattle.verity_digest.specs.Hash.{Salted, hashing}
use Rattle.verity_digest.specs.Tree.{Hashing, hash_block, tree}
use Rattle.verity_geometry.specs.Geometry.{Shape, digests_per_block, levels_of, len_of, place_of, total_of}
use Rattle.verity_geometry.proofs.Shapes.{wide}
use Rattle.verity_store.specs.Stores.{IsLater}
use Rattle.verity_tree.specs.Opens.{hashing_of, opens}
use Rattle.verity_tree.proofs.Trees.{levels_of_opens, closes_as}
use Rattle.verity_tree.specs.Climb.{open_at}
use Rattle.verity_build.specs.Progress.{Settling}
use Rattle.verity_build.specs.Device.{AreStored}
use Rattle.verity_build.proofs.Settles.{index_below, settling_next, growing_end, grown_end}
use Rattle.verity_build.proofs.Turns.{turn_tree, turn_right}
use Rattle.verity_build.proofs.Writes.{stored_next}
use Rattle.verity_slices.proofs.Parts.{part_then, part_one}
use Rattle.verity_slices.proofs.closing.write_done.Goals as goal
use Rattle.verity_slices.proofs.closing.write_done.Goals.{else-not-last-via-then-not-last+else-not-is_full, else-not-last-via-else-not-last}

pub place-place-requires-clause-index : goal.place-place-requires-clause-index
place-place-requires-clause-index g c =
    let s = c.args.tree.now.geometry in
    let tree = c.loop-level.tree in
    let same = c.loop-level.invariant.geometry in
    let w = wide s c.levels-level-end.ensures.shaped in
    let there : c.loop-level.level < length (opens tree) =
    omega (arith, levels_of_opens tree, ap levels_of same, c.levels-level-end.ensures.value, c.loop-level-test.true) in
    let below = index_below (digests_per_block s) c.args.blocks s.blocks c.loop-level.level (opens tree) tree.root
    (omega arith) c.requires.few c.loop-level.invariant.settling there in
    let index = c.index-index.ensures ∙ ap (λ os. (open_at os c.loop-level.level).index) c.settle.ensures.opens in
    omega (arith, index, ap (λ t. len_of t c.loop-level.level) (c.settle.ensures.geometry ∙ same), below)

pub is_full-requires-clause-most : goal.is_full-requires-clause-most
is_full-requires-clause-most g c =
    let now = c.loop-level.tree in
    let same = c.loop-level.invariant.geometry in
    let there : c.loop-level.level < length (opens now) =
    omega (arith, levels_of_opens now, ap levels_of same, c.levels-level-end.ensures.value, c.loop-level-test.true) in
    omega (arith, c.loop-level.invariant.settling.most there, ap digests_per_block same)

pub settle-requires-clause-most : goal.settle-requires-clause-most
settle-requires-clause-most g c =
    let now = c.loop-level.tree in
    let same = c.loop-level.invariant.geometry in
    let there : c.loop-level.level < length (opens now) =
    omega (arith, levels_of_opens now, ap levels_of same, c.levels-level-end.ensures.value, c.loop-level-test.true) in
    omega (arith, c.loop-level.invariant.settling.most there, ap digests_per_block same)

pub close-requires-clause-room : goal.close-requires-clause-room
close-requires-clause-room g c = λ inside.
    let now = c.loop-level.tree in
    let mid = c.settle.new.self in
    let j : ℕ = c.loop-level.level in
    let same = c.settle.ensures.geometry ∙ c.loop-level.invariant.geometry in
    let above : suc j < length (opens now) =
    omega (arith, inside, mid.levels, ap levels_of same, levels_of_opens now, ap levels_of c.loop-level.invariant.geometry) in
    let room = c.loop-level.invariant.settling.room (suc j) (λ e. absurd (omega arith)) above in
    omega (arith, room, ap (λ os. length (open_at os (suc j)).digests) c.settle.ensures.opens, ap digests_per_block same)

pub loop-level-preserved : goal.loop-level-preserved
loop-level-preserved g c =
    let H = g.H.BlockStore in
    let s : Shape = c.args.tree.now.geometry in
    let salted : Salted = c.args.tree.now.hasher.salted in
    let now = c.loop-level.tree in
    let new = c.close.new.self in
    let n : ℕ = c.args.blocks in
    let j : ℕ = c.loop-level.level in
    let kept = c.loop-level.invariant in
    let mid = c.settle.new.self in
    let settled = c.settle.ensures in
    let salted_now = settled.salted ∙ kept.salted in
    let geometry_now = settled.geometry ∙ kept.geometry in
    let w = wide s c.levels-level-end.ensures.shaped in
    let full : n < s.blocks → length (open_at (opens now) j).digests ≡ digests_per_block s = λ less.
    elim c.else-not-last.branch [
      | else-not-last-via-then-not-last+else-not-is_full b ↦ b.is_full.ensures.0 b.if-not-is_full.false ∙ ap digests_per_block kept.geometry
      | else-not-last-via-else-not-last b ↦ absurd (omega (arith, c.blocks-2.ensures.value, b.if-not-last.false))
    ] in
    let levels : length (opens now) ≡ levels_of s = levels_of_opens now ∙ ap levels_of kept.geometry in
    let there : j < length (opens now) = omega (arith, c.levels-level-end.ensures.value, c.loop-level-test.true) in
    let sized = c.args.tree.now.sized in
    let h : Hashing = hashing salted s.hash_size in
    let closes = closes_as h (hashing_of mid) j (opens mid) (opens now) (opens new) mid.root now.root new.root
    (λ i. hashing (salted_now i) (geometry_now i).hash_size) settled.opens settled.root c.close.ensures.closes in
    let at : c.args.start + c.place-place.result ≡ c.args.start + place_of s j (open_at (opens now) j).index =
    ap (λ p. c.args.start + p) (c.place-place.ensures.value ∙ ap (λ t. place_of t j c.index-index.result) geometry_now
    ∙ ap (λ x. place_of s j x) (c.index-index.ensures ∙ ap (λ os. (open_at os j).index) settled.opens)) in
    let wrote = c.in_ok-write.ensures in
    let within : c.args.start + place_of s j (open_at (opens now) j).index < length (H.content c.loop-level.hash_store) =
    omega (arith, at, c.place-place.ensures.within, ap total_of geometry_now, c.requires.room, kept.writes.len) in
    let block : c.block.result.now ≡ hash_block h (open_at (opens now) j).digests =
    c.block.ensures.value
    ∙ (λ i. hash_block (hashing (salted_now i) (geometry_now i).hash_size) (open_at (settled.opens i) j).digests) in
    record {
      settling =
          let next = settling_next (digests_per_block s) n s.blocks j h (opens now) (opens new) now.root new.root
          kept.settling there full closes in
          subst (λ m. Settling (digests_per_block s) n s.blocks m (opens new) new.root) (sym (add-one j)) next;
      salted = c.close.ensures.salted ∙ salted_now;
      geometry = c.close.ensures.geometry ∙ geometry_now;
      right = λ image count right.
          turn_right salted s n j (opens now) now.root c.levels-level-end.ensures.shaped sized levels c.requires.few
          kept.settling there full image count (kept.right image count right) (opens new) new.root closes;
      stored = λ tells image count right stored.
          let is = wrote.written (kept.writes.later.tells ∙ tells)
          ∙ ap (λ a. set (H.content c.loop-level.hash_store) a c.block.result.now) at in
          let tree_block = block ∙ turn_tree salted s n j (opens now) now.root c.levels-level-end.ensures.shaped sized levels
          c.requires.few kept.settling there full image count (kept.right image count right) in
          let next = stored_next h s c.args.start j (tree h image) (opens now) (opens new) now.root new.root
          (H.content c.loop-level.hash_store) c.block.result.now closes within tree_block
          (kept.stored tells image count right stored) in
          subst (λ content. AreStored s c.args.start (tree h image) (opens new) content) (sym is) next;
      writes =
          let later : IsLater H c.loop-level.hash_store c.write.new.self =
          record {
            tells = wrote.tells;
            size = wrote.size;
            fixed = wrote.fixed;
            gave = wrote.gave;
            failures = wrote.failures;
            reads = omega (arith, wrote.reads);
            changes = omega (arith, wrote.counted);
            room = omega (arith, wrote.room);
          } in
          part_then H c.args.start (c.args.start + total_of s) c.args.hash_store.now c.loop-level.hash_store c.write.new.self kept.writes
          (part_one H c.args.start (c.args.start + total_of s) (c.args.start + c.place-place.result) c.loop-level.hash_store
          c.write.new.self (omega arith) (omega (arith, c.place-place.ensures.within, ap total_of geometry_now)) wrote.others wrote.reads
          wrote.room wrote.given later);
      unfailed = wrote.unfailed ∙ kept.unfailed;
    }

pub returns-clause-growing : goal.returns-clause-growing
returns-clause-growing g c = λ more.
    let s : Shape = c.args.tree.now.geometry in
    let now = c.loop-level.tree in
    let kept = c.loop-level.invariant in
    let end : length (opens now) ≤ c.loop-level.level =
    omega (arith, levels_of_opens now, ap levels_of kept.geometry, c.levels-level-end.ensures.value, c.loop-level-test.false) in
    growing_end (digests_per_block s) c.args.blocks s.blocks c.loop-level.level (opens now) now.root kept.settling end more

pub returns-clause-grown : goal.returns-clause-grown
returns-clause-grown g c = λ all.
    let s : Shape = c.args.tree.now.geometry in
    let now = c.loop-level.tree in
    let kept = c.loop-level.invariant in
    let end : length (opens now) ≤ c.loop-level.level =
    omega (arith, levels_of_opens now, ap levels_of kept.geometry, c.levels-level-end.ensures.value, c.loop-level-test.false) in
    grown_end (digests_per_block s) c.args.blocks s.blocks c.loop-level.level (opens now) now.root kept.settling end

pub returns-then-not-is_full-clause-right : goal.returns-then-not-is_full-clause-right
returns-then-not-is_full-clause-right g c = c.loop-level.invariant.right

pub returns-then-not-is_full-clause-stored : goal.returns-then-not-is_full-clause-stored
returns-then-not-is_full-clause-stored g c = c.loop-level.invariant.stored

pub returns-then-not-is_full-clause-salted : goal.returns-then-not-is_full-clause-salted
returns-then-not-is_full-clause-salted g c = c.loop-level.invariant.salted

pub returns-then-not-is_full-clause-geometry : goal.returns-then-not-is_full-clause-geometry
returns-then-not-is_full-clause-geometry g c = c.loop-level.invariant.geometry

pub returns-then-not-is_full-clause-writes : goal.returns-then-not-is_full-clause-writes
returns-then-not-is_full-clause-writes g c = c.loop-level.invariant.writes

pub returns-then-not-is_full-clause-unfailed : goal.returns-then-not-is_full-clause-unfailed
returns-then-not-is_full-clause-unfailed g c = c.loop-level.invariant.unfailed

pub returns-clause-right : goal.returns-clause-right
returns-clause-right g c = c.loop-level.invariant.right

pub returns-clause-stored : goal.returns-clause-stored
returns-clause-stored g c = c.loop-level.invariant.stored

pub returns-clause-salted : goal.returns-clause-salted
returns-clause-salted g c = c.loop-level.invariant.salted

pub returns-clause-geometry : goal.returns-clause-geometry
returns-clause-geometry g c = c.loop-level.invariant.geometry

pub returns-clause-writes : goal.returns-clause-writes
returns-clause-writes g c = c.loop-level.invariant.writes

pub returns-clause-unfailed : goal.returns-clause-unfailed
returns-clause-unfailed g c = c.loop-level.invariant.unfailed

pub returns-in_err-write : goal.returns-in_err-write
returns-in_err-write g c =
    let H = g.H.BlockStore in
    let s : Shape = c.args.tree.now.geometry in
    let kept = c.loop-level.invariant in
    let settled = c.settle.ensures in
    let wrote = c.write.ensures in
    let p = err_from_is_err_and c.from_residual.result c.from_residual.ensures.1 in
    let later : IsLater H c.loop-level.hash_store c.write.new.self =
    record {
      tells = wrote.tells;
      size = wrote.size;
      fixed = wrote.fixed;
      gave = wrote.gave;
      failures = wrote.failures;
      reads = omega (arith, wrote.reads);
      changes = omega (arith, wrote.counted);
      room = omega (arith, wrote.room);
    } in
    rw (p.1) record {
      growing = tt;
      grown = tt;
      right = tt;
      stored = tt;
      salted = settled.salted ∙ kept.salted;
      geometry = settled.geometry ∙ kept.geometry;
      writes = part_then H c.args.start (c.args.start + total_of s) c.args.hash_store.now c.loop-level.hash_store c.write.new.self
          kept.writes
          (part_one H c.args.start (c.args.start + total_of s) (c.args.start + c.place-place.result) c.loop-level.hash_store
          c.write.new.self (omega arith) (omega (arith, c.place-place.ensures.within, ap total_of (settled.geometry ∙ kept.geometry)))
          wrote.others wrote.reads wrote.room wrote.given later);
      failed = subst (λ n. n < H.failures c.write.new.self) kept.unfailed c.in_err-write.ensures.failed;
      unfailed = tt;
    }
