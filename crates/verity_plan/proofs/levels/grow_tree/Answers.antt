use Rattle.std.proofs.Common.{ℕ, ◌+◌, ◌<◌, [], length, get_or, arith, ap, ◌∙◌}
use Rattle.verity_geometry.specs.Geometry.{digests_per_block, start_of}
use Rattle.verity_digest.proofs.Counts.{level_within}
use Rattle.verity_plan.proofs.LevelMoves.{on_ok, get_or-resized, KeepsFront-resized, KeepsFront-then}
use Rattle.verity_plan.proofs.levels.grow_tree.Goals as goal

pub returns-clause-moved : goal.returns-clause-moved
returns-clause-moved g c =
    let old = g.H.BlockStore.content c.args.hash_store.now in
    let small = c.args.old.now in
    on_ok c.move_apart.result _ _
    (λ moved told l i from to low high.
    let within = level_within (digests_per_block small) small.blocks l from in
    let p : ℕ = c.args.first + start_of small l + i in
    let a : p < c.args.blocks = omega arith in
    let b : p < length old = omega arith in
    moved (c.in_ok-set_len.ensures.tells ∙ told) l i from low
    ∙ ap (λ blocks. get_or blocks p []) c.in_ok-set_len.ensures.done
    ∙ get_or-resized (g.H.BlockStore.size c.args.hash_store.now) c.args.blocks old p a b)
    c.move_apart.ensures.moved

pub returns-in_err-set_len-clause-front : goal.returns-in_err-set_len-clause-front
returns-in_err-set_len-clause-front g c =
    KeepsFront-resized (g.H.BlockStore.size c.args.hash_store.now) c.args.blocks c.args.first
    (g.H.BlockStore.content c.args.hash_store.now) (g.H.BlockStore.content c.set_len.new.self) (omega arith) (omega arith)
    c.in_err-set_len.ensures.partly

pub returns-clause-front : goal.returns-clause-front
returns-clause-front g c =
    KeepsFront-then c.args.first (g.H.BlockStore.content c.args.hash_store.now) (g.H.BlockStore.content c.set_len.new.self)
    (g.H.BlockStore.content c.move_apart.new.hash_store)
    (KeepsFront-resized (g.H.BlockStore.size c.args.hash_store.now) c.args.blocks c.args.first
    (g.H.BlockStore.content c.args.hash_store.now) (g.H.BlockStore.content c.set_len.new.self) (omega arith) (omega arith)
    c.in_ok-set_len.ensures.partly)
    c.move_apart.ensures.front
