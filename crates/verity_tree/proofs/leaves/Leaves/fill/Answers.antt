use Rattle.std.proofs.Common.{◌≡◌, ◌≤◌, ◌∙◌, ◌++◌, ℕ, ◌+◌, ◌*◌, ◌/◌, [], length, take, ap, sym, get_or, refl, arith}
use Rattle.std.proofs.Math.Nat.{mul-le-mul_right}
use Rattle.std.proofs.lemmas.Nat.{div-add-mod'}
use Rattle.std.proofs.lemmas.List.{length-take-le}
use Rattle.std.specs.Fork.{slice_chunk}
use Rattle.verity_store.specs.Given.{run_of}
use Rattle.verity_tree.proofs.Ahead.{ahead_made, given_made}
use Rattle.verity_tree.proofs.leaves.Leaves.fill.Goals as goal

pub returns-in_default-clause-which : goal.returns-in_default-clause-which
returns-in_default-clause-which g c = refl

pub returns-clause-ahead : goal.returns-clause-ahead
returns-clause-ahead g c =
    let D = g.D.BlockStore in
    let n : ℕ = c.args.n in
    let count : ℕ = c.min-count.result in
    let run = c.read_run.new.out in
    let read = c.in-Ok.ensures in
    let room : length (take count c.args.self.now.digests) ≡ count = length-take-le count c.args.self.now.digests (omega arith) in
    ahead_made D c.args.tree.now.hasher.salted n c.read_run.new.self c.digest_run.new.out _ run c.args.tree.now.geometry.data_size count
    (c.digest_run.auto.out ∙ room)
    (omega (arith, ap length read.content))
    (λ j below. c.digest_run.ensures.digests j (omega (arith, room)))
    (λ tells j below.
    ap (λ blocks. get_or blocks (n + j) []) read.content ∙ read.right (sym read.tells ∙ tells) j below
    ∙ ap (λ size. slice_chunk run size j) c.requires.size)

pub returns-clause-given : goal.returns-clause-given
returns-clause-given g c = λ mark marked.
    let D = g.D.BlockStore in
    let n : ℕ = c.args.n in
    let count : ℕ = c.min-count.result in
    let size : ℕ = c.args.tree.now.geometry.data_size in
    let run = c.read_run.new.out in
    let read = c.in-Ok.ensures in
    let room : length (take count c.args.self.now.digests) ≡ count = length-take-le count c.args.self.now.digests (omega arith) in
    let all : ℕ = length c.args.buffer.now in
    let wide : ℕ = c.data_size-size.result in
    let most : count ≤ all / wide = omega (arith, c.min-count.ensures, c.min-2.ensures, c.min.ensures) in
    let fits : count * wide ≤ all = omega (arith, div-add-mod' all wide, mul-le-mul_right wide most) in
    given_made D c.args.tree.now.hasher.salted mark n c.args.data_store.now c.read_run.new.self c.digest_run.new.out _ run size count
    (c.digest_run.auto.out ∙ room) marked (read.given ∙ ap (λ z. D.given c.args.data_store.now ++ run_of n z count run) c.requires.size)
    (c.read_run.auto.out ∙ length-take-le (count * wide) c.args.buffer.now fits ∙ ap (λ z. count * z) c.data_size-size.ensures.value)
    (read.size ∙ c.requires.size)
    (λ j below. c.digest_run.ensures.digests j (omega (arith, room)))
