use Rattle.std.proofs.Common.{◌≡◌, ℕ, ◌+◌, ◌-◌, ◌<◌, ◌≤◌, min, arith, ◌∙◌, ap, subst}
use Rattle.verity_geometry.specs.Geometry.{levels_of, len_of, start_of}
use Rattle.verity_geometry.proofs.OfShape.{starts_rise}
use Rattle.verity_store.specs.Moves.{IsMoved, ChangesWithin}
use Rattle.verity_pending.proofs.Frames.{stays_then}
use Rattle.verity_plan.proofs.LevelMoves.{moved_together, rest_together, KeepsFront-then, KeepsFront-within}
use Rattle.verity_plan.proofs.MovedLemmas.{moved_below-more, reads_level, moved_together_all}
use Rattle.verity_plan.proofs.levels.move_together.Goals as goal

pub level_start-requires : goal.level_start-requires
level_start-requires g c =
    let more = (starts_rise c.args.new.now c.args.old.now c.levels-left.ensures.shaped c.requires.grown).levels in omega arith

pub move_level-requires-clause-from : goal.move_level-requires-clause-from
move_level-requires-clause-from g c =
    let wide = (starts_rise c.args.new.now c.args.old.now c.levels-left.ensures.shaped c.requires.grown).lengths
    (c.loop-left.left - 1) in omega arith

pub loop-left-preserved : goal.loop-left-preserved
loop-left-preserved g c =
    let inv = c.loop-left.invariant in
    let one = c.in_ok-move_level.ensures in
    let n : ℕ = c.loop-left.left - 1 in
    let shaped = c.levels-left.ensures.shaped in
    let old = g.H.BlockStore.content c.args.hash_store.now in
    let now = g.H.BlockStore.content c.loop-left.hash_store in
    let new = g.H.BlockStore.content c.move_level.new.hash_store in
    let first = c.args.first in
    let small = c.args.new.now in
    let large = c.args.old.now in
    let there : n < levels_of small = omega arith in
    let from = c.level_start.ensures.value in
    let to = c.level_start-in-loop-left.ensures.value in
    let count = c.level_len.ensures.value in
    let others : ChangesWithin (first + start_of small n) (len_of small n) now new =
    subst (λ (a : ℕ). ChangesWithin (first + a) (len_of small n) now new) to
    (subst (λ (b : ℕ). ChangesWithin (first + c.level_start-in-loop-left.result) b now new) count one.others) in
    record {
      most = omega arith;
      moved = λ told.
          let run0 = one.moved (inv.store.tells ∙ told) in
          let run1 = subst (λ (b : ℕ). IsMoved (first + c.level_start.result) (first + c.level_start-in-loop-left.result) b now new)
          count run0 in
          let run2 = subst (λ (a : ℕ). IsMoved (first + c.level_start.result) (first + a) (len_of small n) now new) to run1 in
          let run3 = subst (λ (a : ℕ). IsMoved (first + a) (first + start_of small n) (len_of small n) now new) from run2 in
          moved_together first small large n old now new shaped c.requires.grown there (λ m i f. inv.moved told m i (omega arith))
          (λ m i b. inv.rest m i (omega arith)) run3 others;
      rest = rest_together first small large n old now new shaped c.requires.grown there (λ m i b. inv.rest m i (omega arith)) others;
      front = KeepsFront-then first old now new inv.front (KeepsFront-within first (first + start_of small n) (len_of small n) now
          new (let l = inv.front in l.len) (omega arith) others);
      stays = λ same. one.stays (let e : first + c.level_start.result ≡ first + c.level_start-in-loop-left.result = (let a = ap
          (λ s. start_of s n) same in omega arith) in e) ∙ inv.stays same;
      len = one.others.0 ∙ inv.len;
      moved_reads =
          let wide = (starts_rise small large shaped c.requires.grown).lengths n in
          let few : c.level_len.result ≤ min (len_of large n) (len_of small n) = omega arith in
          let level = reads_level large small n c.level_len.result (g.H.BlockStore.reads c.loop-left.hash_store)
          (g.H.BlockStore.reads c.move_level.new.hash_store) few (λ same. one.stays (omega arith)) one.moved_reads in
          let more = moved_below-more large small n c.loop-left.left (omega arith) in
          omega (arith, inv.moved_reads);
      unfailed = omega arith;
      store = stays_then g.H.BlockStore _ _ _ inv.store one.store;
    }

pub returns-in_err-move_level-clause-moved_reads : goal.returns-in_err-move_level-clause-moved_reads
returns-in_err-move_level-clause-moved_reads g c =
    let inv = c.loop-left.invariant in
    let one = c.in_err-move_level.ensures in
    let n : ℕ = c.loop-left.left - 1 in
    let small = c.args.new.now in
    let large = c.args.old.now in
    let shaped = c.levels-left.ensures.shaped in
    let from = c.level_start.ensures.value in
    let to = c.level_start-in-loop-left.ensures.value in
    let count = c.level_len.ensures.value in
    let wide = (starts_rise small large shaped c.requires.grown).lengths n in
    let few : c.level_len.result ≤ min (len_of large n) (len_of small n) = omega arith in
    let level = reads_level large small n c.level_len.result (g.H.BlockStore.reads c.loop-left.hash_store)
    (g.H.BlockStore.reads c.move_level.new.hash_store) few (λ same. one.stays (omega arith)) one.moved_reads in
    let more = moved_below-more large small n c.loop-left.left (omega arith) in
    let all = moved_together_all small large shaped c.requires.grown in
    omega (arith, inv.moved_reads)

pub returns-clause-moved_reads : goal.returns-clause-moved_reads
returns-clause-moved_reads g c =
    let inv = c.loop-left.invariant in
    let all = moved_together_all c.args.new.now c.args.old.now c.levels-left.ensures.shaped c.requires.grown in
    omega (arith, inv.moved_reads)
