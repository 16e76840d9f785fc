use Rattle.std.proofs.Common.{ℕ, ◌*◌, ◌≡◌, length, ap, arith}
use Rattle.verity_chain.specs.Table.{height}
use Rattle.verity_report.specs.Stores.{given_in}
use Rattle.verity_report.proofs.DescentLemmas.{ok_weaker}
use Rattle.verity_check.proofs.CacheLemmas.{kept_grows}
use Rattle.verity_check.proofs.PartLemmas.{served_one, refuses_one}
use Rattle.verity_check.proofs.VerifierLemmas.{err_weaker}
use Rattle.verity_check.proofs.WalkLemmas.{given_in-grows}
use Rattle.verity_check.proofs.part.read_next.Goals as goal

pub read_part-requires-clause-data_whole : goal.read_part-requires-clause-data_whole
read_part-requires-clause-data_whole g c =
    let z : ℕ = c.args.tree.now.data_block_size in
    omega (arith, c.requires.run_whole, ap (λ m. m * z) (c.requires.single c.if-is_part.true))

pub read_part-requires-clause-below : goal.read_part-requires-clause-below
read_part-requires-clause-below g c = omega (arith, c.requires.below, c.requires.single c.if-is_part.true)

pub returns-then-is_part-clause-ok : goal.returns-then-is_part-clause-ok
returns-then-is_part-clause-ok g c =
    let D = g.D.BlockStore in
    let H = g.H.BlockStore in
    let t = c.args.tree.now in
    let z : ℕ = c.args.tree.now.data_block_size in
    let one = c.requires.single c.if-is_part.true in
    let given = given_in D H t c.args.since.now c.read_part.new.data_store c.read_part.new.hash_store in
    let len : length c.read_part.new.block ≡ t.data_block_size =
    omega (arith, c.read_part.auto.block, c.requires.run_whole, ap (λ m. m * z) one) in
    ok_weaker c.read_part.result _ _ (λ chain. served_one t given c.args.n c.args.count one c.read_part.new.block
    (omega (arith, c.requires.below, one)) len chain) c.read_part.ensures.ok

pub returns-then-is_part-clause-err : goal.returns-then-is_part-clause-err
returns-then-is_part-clause-err g c =
    let D = g.D.BlockStore in
    let H = g.H.BlockStore in
    let t = c.args.tree.now in
    let one = c.requires.single c.if-is_part.true in
    let given = given_in D H t c.args.since.now c.read_part.new.data_store c.read_part.new.hash_store in
    err_weaker c.read_part.result _ _ (λ fault why. refuses_one t given c.args.n c.args.count one _ _ fault why) c.read_part.ensures.err

pub returns-then-is_part-clause-data_reads : goal.returns-then-is_part-clause-data_reads
returns-then-is_part-clause-data_reads g c = omega (arith, c.read_part.ensures.data_reads, c.requires.single c.if-is_part.true)

pub returns-then-is_part-clause-hash_reads : goal.returns-then-is_part-clause-hash_reads
returns-then-is_part-clause-hash_reads g c =
    let t = c.args.tree.now in
    omega (arith, c.read_part.ensures.hash_reads, ap (λ m. m * height t) (c.requires.single c.if-is_part.true))

pub returns-clause-kept : goal.returns-clause-kept
returns-clause-kept g c =
    let D = g.D.BlockStore in
    let H = g.H.BlockStore in
    let t = c.args.tree.now in
    let d = c.read_run.new.data_store in
    let h = c.read_run.new.hash_store in
    kept_grows t (given_in D H t c.args.since.now c.args.data_store.now c.args.hash_store.now) (given_in D H t c.args.since.now d h)
    (given_in-grows D H t c.args.since.now c.args.data_store.now d c.args.hash_store.now h c.read_run.ensures.data_keeps
    c.read_run.ensures.hash_keeps) c.args.data_cache.now c.args.data_cache.now (λ m b kept. kept) c.requires.kept
