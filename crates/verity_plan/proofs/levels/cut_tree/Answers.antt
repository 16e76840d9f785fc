use Rattle.std.proofs.Common.{ℕ, ◌+◌, ◌<◌, [], length, get_or, arith, ap, ◌∙◌}
use Rattle.verity_geometry.specs.Geometry.{digests_per_block, start_of}
use Rattle.verity_digest.proofs.Counts.{level_within}
use Rattle.verity_plan.proofs.LevelMoves.{get_or-resized, KeepsFront-resized, KeepsFront-then}
use Rattle.verity_plan.proofs.levels.cut_tree.Goals as goal

pub returns-clause-moved : goal.returns-clause-moved
returns-clause-moved g c =
    let now = g.H.BlockStore.content c.move_together.new.hash_store in
    let small = c.args.new.now in
    λ told l i from to low high.
    let within = level_within (digests_per_block small) small.blocks l to in
    let q : ℕ = c.args.first + start_of small l + i in
    let a : q < c.args.blocks = omega arith in
    let len = c.in_ok-move_together.ensures.len in
    let b : q < length now = omega arith in
    ap (λ blocks. get_or blocks q []) c.in_ok-set_len.ensures.done
    ∙ get_or-resized (g.H.BlockStore.size c.move_together.new.hash_store) c.args.blocks now q a b
    ∙ c.in_ok-move_together.ensures.moved told l i to high

pub returns-clause-front : goal.returns-clause-front
returns-clause-front g c =
    let now = g.H.BlockStore.content c.move_together.new.hash_store in
    let new = g.H.BlockStore.content c.set_len.new.self in
    let moved = c.in_ok-move_together.ensures in
    KeepsFront-then c.args.first (g.H.BlockStore.content c.args.hash_store.now) now new moved.front
    (KeepsFront-resized (g.H.BlockStore.size c.move_together.new.hash_store) c.args.blocks c.args.first now new
    (let l = moved.front in l.len) (omega arith) c.set_len.ensures.partly)
