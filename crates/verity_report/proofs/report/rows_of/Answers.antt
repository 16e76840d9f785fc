use Rattle.std.proofs.Common.{◌≡◌, ◌++◌, [], ◌∷◌, replicate, ap, ◌∙◌, arith}
use Rattle.std.proofs.lemmas.List.{replicate-append-replicate}
use Rattle.verity_chain.specs.Table.{Table, height}
use Rattle.verity_report.specs.Descent.{Known, blank}
use Rattle.verity_report.proofs.DescentLemmas.{blank_rows, blank_seen, blank_faults}
use Rattle.verity_report.proofs.report.rows_of.Goals as goal

pub loop-init : goal.loop-init
loop-init g c =
    c.in_ok-push.ensures.items ∙ ap (λ xs. xs ++ c.in_ok-first.first ∷ []) c.in_ok-rows.ensures.items
    ∙ ap {A = Known} (λ k. k ∷ []) c.in_ok-first.ensures

pub loop-preserved : goal.loop-preserved
loop-preserved g c =
    let e : Known = blank c.hash_block_size-size.result in
    c.in_ok-push-2.ensures.items
    ∙ ap (λ xs. xs ++ c.in_ok-row.row ∷ []) c.loop.invariant
    ∙ ap {A = Known} (λ k. (blank 0 ∷ replicate c.loop.counter e) ++ k ∷ []) c.in_ok-row.ensures
    ∙ ap (λ rest. blank 0 ∷ rest) (replicate-append-replicate c.loop.counter 1 e)

pub returns-clause-rows : goal.returns-clause-rows
returns-clause-rows g c =
    let t = c.args.tree.now in
    let size : c.hash_block_size-size.result ≡ c.args.tree.now.hash_block_size =
    c.hash_block_size-size.ensures.value ∙ ap (λ (x : Table). x.hash_block_size) c.table.ensures.value in
    let count : c.loop.counter ≡ height c.args.tree.now =
    omega (arith, c.loop-test.false, c.levels-levels.ensures.value, c.loop.auto.counter-end) in
    blank_rows t c.loop.rows.items
    (c.loop.invariant ∙ ap (λ n. blank 0 ∷ replicate n (blank c.hash_block_size-size.result)) count
    ∙ ap (λ s. blank 0 ∷ replicate (height t) (blank s)) size)

pub returns-clause-seen : goal.returns-clause-seen
returns-clause-seen g c =
    let t = c.args.tree.now in
    let size : c.hash_block_size-size.result ≡ c.args.tree.now.hash_block_size =
    c.hash_block_size-size.ensures.value ∙ ap (λ (x : Table). x.hash_block_size) c.table.ensures.value in
    let count : c.loop.counter ≡ height c.args.tree.now =
    omega (arith, c.loop-test.false, c.levels-levels.ensures.value, c.loop.auto.counter-end) in
    blank_seen t c.loop.rows.items
    (c.loop.invariant ∙ ap (λ n. blank 0 ∷ replicate n (blank c.hash_block_size-size.result)) count
    ∙ ap (λ s. blank 0 ∷ replicate (height t) (blank s)) size)

pub returns-clause-faults : goal.returns-clause-faults
returns-clause-faults g c =
    let t = c.args.tree.now in
    let size : c.hash_block_size-size.result ≡ c.args.tree.now.hash_block_size =
    c.hash_block_size-size.ensures.value ∙ ap (λ (x : Table). x.hash_block_size) c.table.ensures.value in
    let count : c.loop.counter ≡ height c.args.tree.now =
    omega (arith, c.loop-test.false, c.levels-levels.ensures.value, c.loop.auto.counter-end) in
    blank_faults t c.loop.rows.items
    (c.loop.invariant ∙ ap (λ n. blank 0 ∷ replicate n (blank c.hash_block_size-size.result)) count
    ∙ ap (λ s. blank 0 ∷ replicate (height t) (blank s)) size)
