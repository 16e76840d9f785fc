use Rattle.std.proofs.Common.{◌≡◌, ◌≢◌, ℕ, suc, ◌+◌, ◌<◌, ◌≤◌, List, [], length, get_or, sym, ap, ◌∙◌, subst, arith}
use Rattle.std.proofs.Math.Numerals.{add-one}
use Rattle.std.proofs.lemmas.Result.{err_from_is_err_and}
use Rattle.verity_digest.specs.Hash.{Salted, hashing}
use Rattle.verity_digest.specs.Tree.{Hashing, hash_block, tree}
use Rattle.verity_geometry.specs.Geometry.{Shape, digests_per_block, levels_of, len_of, place_of}
use Rattle.verity_geometry.proofs.Shapes.{wide}
use Rattle.verity_tree.specs.Opens.{hashing_of, opens}
use Rattle.verity_tree.proofs.Trees.{levels_of_opens, closes_as}
use Rattle.verity_tree.specs.Open.{Open}
use Rattle.verity_tree.specs.Climb.{open_at}
use Rattle.verity_build.specs.Progress.{Settling}
use Rattle.verity_build.proofs.Settles.{index_below, settling_next, growing_end, grown_end, came_most, settling_reaches}
use Rattle.verity_build.proofs.Closings.{closes_one, settling_total, settling_before}
use Rattle.verity_build.proofs.Turns.{turn_below, turn_tree, turn_right}
use Rattle.verity_store.proofs.StoreLemmas.{only_read_then}
use Rattle.std.specs.Prelude.{Option}
use Rattle.verity_profile.proofs.Bounds.{block_size_low}
use Rattle.verity_build.specs.declared.comparing.Place.{Place}
use Rattle.verity_build.specs.Differences.{AreCompared, earlier}
use Rattle.verity_build.proofs.Compares.{compared_same, compared_other}
use Rattle.verity_build.proofs.comparing.compare_done.Goals as goal
use Rattle.verity_build.proofs.comparing.compare_done.Goals.{else-not-last-via-then-not-last+else-not-is_full}
use Rattle.verity_build.proofs.comparing.compare_done.Goals.{else-not-last-via-else-not-last, then-not-branch, else-not-branch}

pub place-requires-clause-index : goal.place-requires-clause-index
place-requires-clause-index g c =
    let s = c.args.tree.now.geometry in
    let tree = c.loop-level.tree in
    let same = c.loop-level.invariant.geometry in
    let w = wide s c.levels-level-end.ensures.shaped in
    let there : c.loop-level.level < length (opens tree) =
    omega (arith, levels_of_opens tree, ap levels_of same, c.levels-level-end.ensures.value, c.loop-level-test.true) in
    let below = index_below (digests_per_block s) c.args.blocks s.blocks c.loop-level.level (opens tree) tree.root
    (omega arith) c.requires.few c.loop-level.invariant.settling there in
    let index = c.index-index.ensures ∙ ap (λ os. (open_at os c.loop-level.level).index) c.settle.ensures.opens in
    omega (arith, index, ap (λ t. len_of t c.loop-level.level) (c.settle.ensures.geometry ∙ same), below)

pub is_full-requires-clause-most : goal.is_full-requires-clause-most
is_full-requires-clause-most g c =
    let now = c.loop-level.tree in
    let same = c.loop-level.invariant.geometry in
    let there : c.loop-level.level < length (opens now) =
    omega (arith, levels_of_opens now, ap levels_of same, c.levels-level-end.ensures.value, c.loop-level-test.true) in
    omega (arith, c.loop-level.invariant.settling.most there, ap digests_per_block same)

pub settle-requires-clause-most : goal.settle-requires-clause-most
settle-requires-clause-most g c =
    let now = c.loop-level.tree in
    let same = c.loop-level.invariant.geometry in
    let there : c.loop-level.level < length (opens now) =
    omega (arith, levels_of_opens now, ap levels_of same, c.levels-level-end.ensures.value, c.loop-level-test.true) in
    omega (arith, c.loop-level.invariant.settling.most there, ap digests_per_block same)

pub close-requires-clause-room : goal.close-requires-clause-room
close-requires-clause-room g c = λ inside.
    let now = c.loop-level.tree in
    let mid = c.settle.new.self in
    let j : ℕ = c.loop-level.level in
    let same = c.settle.ensures.geometry ∙ c.loop-level.invariant.geometry in
    let above : suc j < length (opens now) =
    omega (arith, inside, mid.levels, ap levels_of same, levels_of_opens now, ap levels_of c.loop-level.invariant.geometry) in
    let room = c.loop-level.invariant.settling.room (suc j) (λ e. absurd (omega arith)) above in
    omega (arith, room, ap (λ os. length (open_at os (suc j)).digests) c.settle.ensures.opens, ap digests_per_block same)

pub holds-requires-clause-some : goal.holds-requires-clause-some
holds-requires-clause-some g c =
    let low = block_size_low c.settle.new.self.geometry.hash_size c.settle.new.self.shaped.hash_size in
    omega (arith, c.block.ensures.len)

pub loop-level-preserved : goal.loop-level-preserved
loop-level-preserved g c =
    let H = g.H.BlockStore in
    let s : Shape = c.args.tree.now.geometry in
    let salted : Salted = c.args.tree.now.hasher.salted in
    let now = c.loop-level.tree in
    let new = c.close.new.self in
    let n : ℕ = c.args.blocks in
    let j : ℕ = c.loop-level.level in
    let kept = c.loop-level.invariant in
    let mid = c.settle.new.self in
    let settled = c.settle.ensures in
    let salted_now = settled.salted ∙ kept.salted in
    let geometry_now = settled.geometry ∙ kept.geometry in
    let w = wide s c.levels-level-end.ensures.shaped in
    let full : n < s.blocks → length (open_at (opens now) j).digests ≡ digests_per_block s = λ less.
    elim c.else-not-last.branch [
      | else-not-last-via-then-not-last+else-not-is_full b ↦ b.is_full.ensures.0 b.if-not-is_full.false ∙ ap digests_per_block kept.geometry
      | else-not-last-via-else-not-last b ↦ absurd (omega (arith, c.blocks-2.ensures.value, b.if-not-last.false))
    ] in
    let levels : length (opens now) ≡ levels_of s = levels_of_opens now ∙ ap levels_of kept.geometry in
    let there : j < length (opens now) = omega (arith, c.levels-level-end.ensures.value, c.loop-level-test.true) in
    let sized = c.args.tree.now.sized in
    let shaped = c.levels-level-end.ensures.shaped in
    let h : Hashing = hashing salted s.hash_size in
    let was : List Open = (opens now) in
    let index : ℕ = (open_at was j).index in
    let closes = closes_as h (hashing_of mid) j (opens mid) (opens now) (opens new) mid.root now.root new.root
    (λ i. hashing (salted_now i) (geometry_now i).hash_size) settled.opens settled.root c.close.ensures.closes in
    let is_index : c.index-index.result ≡ index = c.index-index.ensures ∙ ap (λ os. (open_at os j).index) settled.opens in
    let at : c.args.start + c.place.result ≡ c.args.start + place_of s j index =
    ap (λ p. c.args.start + p) (c.place.ensures.value ∙ ap (λ t. place_of t j c.index-index.result) geometry_now
    ∙ ap (λ x. place_of s j x) is_index) in
    let read = c.in_ok-holds.ensures.read in
    let block : c.block.result.now ≡ hash_block h (open_at was j).digests =
    c.block.ensures.value
    ∙ (λ i. hash_block (hashing (salted_now i) (geometry_now i).hash_size) (open_at (settled.opens i) j).digests) in
    let below = turn_below salted s n j was now.root shaped sized levels c.requires.few kept.settling there full in
    let most = λ (l : ℕ) (inside : l < length was).
    came_most (digests_per_block s) n s.blocks was (omega arith) c.requires.few (settling_reaches (digests_per_block s) n s.blocks
    j was now.root (omega arith) kept.settling) (suc l) inside in
    record {
      settling =
          let next = settling_next (digests_per_block s) n s.blocks j h was (opens new) now.root new.root kept.settling there
          full closes in
          subst (λ m. Settling (digests_per_block s) n s.blocks m (opens new) new.root) (sym (add-one j)) next;
      salted = c.close.ensures.salted ∙ salted_now;
      geometry = c.close.ensures.geometry ∙ geometry_now;
      right = λ image count right.
          turn_right salted s n j was now.root shaped sized levels c.requires.few kept.settling there full image count
          (kept.right image count right) (opens new) new.root closes;
      compared = λ tells image count right compared.
          let blocks : List (List ℕ) = tree h image in
          let content : List (List ℕ) = H.content c.args.hash_store.now in
          let before = kept.compared tells image count right compared in
          let tree_block = block ∙ turn_tree salted s n j was now.root shaped sized levels c.requires.few kept.settling there full
          image count (kept.right image count right) in
          let here : get_or (H.content c.loop-level.hash_store) (c.args.start + c.place.result) [] ≡ get_or content
          (c.args.start + place_of s j index) [] =
          (λ i. get_or (kept.read.content i) (at i) []) in
          let same = c.in_ok-holds.ensures.same (kept.read.later.tells ∙ tells) in
          let Q : Option Place → Type 0 = λ found. AreCompared s c.args.start blocks (opens new) content found in
          elim c.if-not-branch.branch [
            | then-not-branch b ↦
                let differs : get_or content (c.args.start + place_of s j index) [] ≢ get_or blocks (place_of s j index) [] = λ e.
                let yes = same.1 (here ∙ e ∙ sym tree_block) in let no = b.if-not-branch.true in absurd (cc) in
                let found = b.found-is ∙ b.earlier-found.ensures
                ∙ ap (λ i. earlier c.loop-level.found (record { level = j; index = i })) is_index in
                subst Q (sym found) (compared_other h s c.args.start j blocks content was (opens new) now.root new.root
                closes there levels below most differs c.loop-level.found before)
            | else-not-branch b ↦
                subst Q (sym b.found-is) (compared_same h s c.args.start j blocks content was (opens new) now.root new.root
                closes there c.loop-level.found
                (sym here ∙ same.0 b.if-not-branch.false ∙ tree_block) before)
          ];
      read = only_read_then H c.args.hash_store.now c.loop-level.hash_store c.holds.new.hash_store kept.read read;
      reads = omega (arith, c.in_ok-holds.ensures.reads, kept.reads, closes_one h j was (opens new) now.root new.root closes there);
      unfailed = c.in_ok-holds.ensures.unfailed ∙ kept.unfailed;
    }

pub returns-then-not-is_full-clause-reads_most : goal.returns-then-not-is_full-clause-reads_most
returns-then-not-is_full-clause-reads_most g c =
    let s : Shape = c.args.tree.now.geometry in
    let now = c.loop-level.tree in
    let kept = c.loop-level.invariant in
    omega (
      arith,
      kept.reads,
      settling_total s c.args.blocks (opens now) now.root c.args.tree.now.shaped (levels_of_opens now
          ∙ ap levels_of kept.geometry) c.requires.few c.loop-level.level kept.settling,
    )

pub returns-in_err-holds : goal.returns-in_err-holds
returns-in_err-holds g c =
    let H = g.H.BlockStore in
    let s : Shape = c.args.tree.now.geometry in
    let now = c.loop-level.tree in
    let kept = c.loop-level.invariant in
    let levels : length (opens now) ≡ levels_of s = levels_of_opens now ∙ ap levels_of kept.geometry in
    let there : c.loop-level.level < length (opens now) = omega (arith, c.levels-level-end.ensures.value, c.loop-level-test.true) in
    let settled = c.settle.ensures in
    let p = err_from_is_err_and c.from_residual.result c.from_residual.ensures.1 in
    rw (p.1) record {
      growing = tt;
      grown = tt;
      right = tt;
      compared = tt;
      salted = settled.salted ∙ kept.salted;
      geometry = settled.geometry ∙ kept.geometry;
      read = only_read_then H c.args.hash_store.now c.loop-level.hash_store c.holds.new.hash_store kept.read c.holds.ensures.read;
      failed = subst (λ n. n < H.failures c.holds.new.hash_store) kept.unfailed c.in_err-holds.ensures.failed;
      unfailed = tt;
      reads = tt;
      reads_most = omega (
        arith,
        kept.reads,
        c.holds.ensures.reads,
        settling_before s c.args.blocks (opens now) now.root
            c.args.tree.now.shaped levels c.requires.few c.loop-level.level kept.settling there,
      );
    }

pub returns-clause-reads_most : goal.returns-clause-reads_most
returns-clause-reads_most g c =
    let s : Shape = c.args.tree.now.geometry in
    let now = c.loop-level.tree in
    let kept = c.loop-level.invariant in
    omega (
      arith,
      kept.reads,
      settling_total s c.args.blocks (opens now) now.root c.args.tree.now.shaped (levels_of_opens now
          ∙ ap levels_of kept.geometry) c.requires.few c.loop-level.level kept.settling,
    )

pub returns-clause-growing : goal.returns-clause-growing
returns-clause-growing g c = λ more.
    let s : Shape = c.args.tree.now.geometry in
    let now = c.loop-level.tree in
    let kept = c.loop-level.invariant in
    let end : length (opens now) ≤ c.loop-level.level =
    omega (arith, levels_of_opens now, ap levels_of kept.geometry, c.levels-level-end.ensures.value, c.loop-level-test.false) in
    growing_end (digests_per_block s) c.args.blocks s.blocks c.loop-level.level (opens now) now.root kept.settling end more

pub returns-clause-grown : goal.returns-clause-grown
returns-clause-grown g c = λ all.
    let s : Shape = c.args.tree.now.geometry in
    let now = c.loop-level.tree in
    let kept = c.loop-level.invariant in
    let end : length (opens now) ≤ c.loop-level.level =
    omega (arith, levels_of_opens now, ap levels_of kept.geometry, c.levels-level-end.ensures.value, c.loop-level-test.false) in
    grown_end (digests_per_block s) c.args.blocks s.blocks c.loop-level.level (opens now) now.root kept.settling end

pub returns-then-not-is_full-clause-right : goal.returns-then-not-is_full-clause-right
returns-then-not-is_full-clause-right g c = c.loop-level.invariant.right

pub returns-then-not-is_full-clause-compared : goal.returns-then-not-is_full-clause-compared
returns-then-not-is_full-clause-compared g c = c.loop-level.invariant.compared

pub returns-then-not-is_full-clause-salted : goal.returns-then-not-is_full-clause-salted
returns-then-not-is_full-clause-salted g c = c.loop-level.invariant.salted

pub returns-then-not-is_full-clause-geometry : goal.returns-then-not-is_full-clause-geometry
returns-then-not-is_full-clause-geometry g c = c.loop-level.invariant.geometry

pub returns-then-not-is_full-clause-read : goal.returns-then-not-is_full-clause-read
returns-then-not-is_full-clause-read g c = c.loop-level.invariant.read

pub returns-then-not-is_full-clause-unfailed : goal.returns-then-not-is_full-clause-unfailed
returns-then-not-is_full-clause-unfailed g c = c.loop-level.invariant.unfailed

pub returns-then-not-is_full-clause-reads : goal.returns-then-not-is_full-clause-reads
returns-then-not-is_full-clause-reads g c = c.loop-level.invariant.reads

pub returns-clause-right : goal.returns-clause-right
returns-clause-right g c = c.loop-level.invariant.right

pub returns-clause-compared : goal.returns-clause-compared
returns-clause-compared g c = c.loop-level.invariant.compared

pub returns-clause-salted : goal.returns-clause-salted
returns-clause-salted g c = c.loop-level.invariant.salted

pub returns-clause-geometry : goal.returns-clause-geometry
returns-clause-geometry g c = c.loop-level.invariant.geometry

pub returns-clause-read : goal.returns-clause-read
returns-clause-read g c = c.loop-level.invariant.read

pub returns-clause-unfailed : goal.returns-clause-unfailed
returns-clause-unfailed g c = c.loop-level.invariant.unfailed

pub returns-clause-reads : goal.returns-clause-reads
returns-clause-reads g c = c.loop-level.invariant.reads
