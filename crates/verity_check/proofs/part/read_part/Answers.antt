use Rattle.std.proofs.Common.{sym, ◌∙◌}
use Rattle.verity_store.proofs.StoreLemmas.{only_read_same}
use Rattle.verity_report.specs.Stores.{given_in}
use Rattle.verity_check.proofs.CacheLemmas.{kept_grows, kept_adds}
use Rattle.verity_check.proofs.WalkLemmas.{given_in-grows}
use Rattle.verity_check.proofs.part.read_part.Goals as goal

pub recall_block-requires : goal.recall_block-requires
recall_block-requires g c = λ b kept.
    (c.requires.kept c.args.n b kept).1.link.gave.1 ∙ c.requires.data_store.size ∙ sym c.requires.data_whole

pub returns-then-recall_block-clause-ok : goal.returns-then-recall_block-clause-ok
returns-then-recall_block-clause-ok g c =
    c.requires.kept c.args.n c.recall_block.new.out (c.recall_block.ensures.found c.if-recall_block.true)

pub returns-then-recall_block-clause-kept : goal.returns-then-recall_block-clause-kept
returns-then-recall_block-clause-kept g c = λ m b kept. c.requires.kept m b (c.recall_block.ensures.keeps m b kept)

pub returns-then-recall_block-clause-data_keeps : goal.returns-then-recall_block-clause-data_keeps
returns-then-recall_block-clause-data_keeps g c = only_read_same g.D.BlockStore c.args.data_store.now

pub returns-then-recall_block-clause-hash_keeps : goal.returns-then-recall_block-clause-hash_keeps
returns-then-recall_block-clause-hash_keeps g c = only_read_same g.H.BlockStore c.args.hash_store.now

pub returns-in-Err-clause-spared : goal.returns-in-Err-clause-spared
returns-in-Err-clause-spared g c = λ b kept. absurd (c.recall_block.ensures.missing c.if-recall_block.false b kept)

pub returns-in-Err-clause-kept : goal.returns-in-Err-clause-kept
returns-in-Err-clause-kept g c =
    let D = g.D.BlockStore in
    let H = g.H.BlockStore in
    let t = c.args.tree.now in
    let d = c.read_checked.new.data_store in
    let h = c.read_checked.new.hash_store in
    kept_grows t (given_in D H t c.args.since.now c.args.data_store.now c.args.hash_store.now) (given_in D H t c.args.since.now d h)
    (given_in-grows D H t c.args.since.now c.args.data_store.now d c.args.hash_store.now h c.in-Err.ensures.data_keeps
    c.in-Err.ensures.hash_keeps) c.args.data_cache.now c.recall_block.new.data_cache c.recall_block.ensures.keeps c.requires.kept

pub returns-clause-spared : goal.returns-clause-spared
returns-clause-spared g c = λ b kept. absurd (c.recall_block.ensures.missing c.if-recall_block.false b kept)

pub returns-clause-kept : goal.returns-clause-kept
returns-clause-kept g c =
    let D = g.D.BlockStore in
    let H = g.H.BlockStore in
    let t = c.args.tree.now in
    let d = c.read_checked.new.data_store in
    let h = c.read_checked.new.hash_store in
    let e = c.in_default.ensures in
    let new = given_in D H t c.args.since.now d h in
    kept_adds t new c.recall_block.new.data_cache c.remember_block.new.data_cache c.args.n c.read_checked.new.data_block
    c.remember_block.ensures
    (kept_grows t (given_in D H t c.args.since.now c.args.data_store.now c.args.hash_store.now) new
    (given_in-grows D H t c.args.since.now c.args.data_store.now d c.args.hash_store.now h e.data_keeps e.hash_keeps)
    c.args.data_cache.now c.recall_block.new.data_cache c.recall_block.ensures.keeps c.requires.kept) e.ok
