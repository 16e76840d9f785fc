use Rattle.std.proofs.Common.{◌≡◌, ℕ, ◌+◌, ◌<◌, List, [], length, drop, ◌∙◌, ap, arith}
use Rattle.std.proofs.lemmas.List.{length-take-le, get_or_append_left}
use Rattle.std.specs.Fork.{slice_chunk}
use Rattle.verity_digest.proofs.Groups.{block_in_group}
use Rattle.verity_chain.specs.Table.{hashing_of}
use Rattle.verity_check.proofs.warm.digest_first.Goals as goal

pub returns-clause-digests : goal.returns-clause-digests
returns-clause-digests g c = λ j lt.
    let t = c.args.tree.now in
    let s : ℕ = c.args.size in
    let n : ℕ = c.hashed-count.result in
    let run : List ℕ = c.args.run.now in
    let made : length c.digest_run.new.out ≡ n = c.digest_run.auto.out
    ∙ length-take-le n c.args.out.now (omega (arith, c.requires.room, c.hashed-count.ensures.most)) in
    let below : j < n = omega (arith, lt, c.hashed-count.ensures.least) in
    let none : 0 + j ≡ j = omega arith in
    get_or_append_left c.digest_run.new.out (drop n c.args.out.now) [] j (omega (arith, below, made))
    ∙ c.digest_run.ensures.digests j (omega (arith, below, made, c.digest_run.auto.out))
    ∙ ap (hashing_of t).digest (block_in_group run s 0 j n 0 below (omega arith) ∙ ap (slice_chunk run s) none)
