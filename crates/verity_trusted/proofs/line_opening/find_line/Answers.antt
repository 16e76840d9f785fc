use Rattle.std.proofs.Common.{◌≡◌, ◌-◌, ◌<◌, ◌≤◌, ℕ, true, [], length, get_or, inr, arith, subst}
use Rattle.std.proofs.lemmas.Result.{err_from_is_err_and}
use Rattle.verity_superblock.specs.Superblock.{Volume}
use Rattle.verity_edit.specs.Opening.{IsVolume, RefusesStores}
use Rattle.verity_trusted.proofs.LineLemmas.{explains_stores_under}
use Rattle.verity_trusted.proofs.line_opening.find_line.Goals as goal

pub returns-in_err-check_line-clause-fault : goal.returns-in_err-check_line-clause-fault
returns-in_err-check_line-clause-fault g c =
    let H = g.H.BlockStore in
    let v : Volume = c.in_ok-superblock.superblock in
    let first = c.hash_start_block-first.ensures.value in
    let zero = c.if-first-eq0.false in
    let some : 1 ≤ c.args.table.hash_start_block = omega arith in
    let is = λ (told : H.tells c.args.hash_store.now ≡ true).
    subst (λ (n : ℕ). IsVolume (get_or (H.content c.args.hash_store.now) (n - 1) []) v) first
    (c.in_ok-superblock.ensures.volume told) in
    let e = err_from_is_err_and c.from_residual-in_err-check_line.result c.from_residual-in_err-check_line.ensures.1 in
    rw (e.1, e.2, c.in_err-check_line.ensures.fault)
    (inr (some, λ told. record { volume = v; is_volume = is told; other = c.in_err-check_line.ensures.other }))

pub returns-in_err-check_stores-clause-fault : goal.returns-in_err-check_stores-clause-fault
returns-in_err-check_stores-clause-fault g c =
    let D = g.D.BlockStore in
    let H = g.H.BlockStore in
    let d = c.args.data_store.now in
    let h = c.args.hash_store.now in
    let now = c.read_superblock.new.hash_store in
    let v : Volume = c.in_ok-superblock.superblock in
    let first = c.hash_start_block-first.ensures.value in
    let zero = c.if-first-eq0.false in
    let some : 1 ≤ c.args.table.hash_start_block = omega arith in
    let is = λ (told : H.tells h ≡ true). subst (λ (n : ℕ). IsVolume (get_or (H.content h) (n - 1) []) v) first
    (c.in_ok-superblock.ensures.volume told) in
    let e = err_from_is_err_and c.from_residual-in_err-check_stores.result c.from_residual-in_err-check_stores.ensures.1 in
    rw (e.1, e.2)
    (explains_stores_under c.args.table (D.size d) (H.size h) (length (D.content d)) (H.content h) (H.tells h ≡ true)
    (H.failures h < H.failures now) v c.in_err-check_stores.field-0.0 some is c.in_ok-check_line.ensures.line
    (subst (λ (n : ℕ). RefusesStores v (D.size d) n (length (D.content d)) c.in_err-check_stores.field-0.0)
    c.in_ok-superblock.ensures.hash_store.later.size c.in_err-check_stores.ensures.fault))

pub returns-clause-volume : goal.returns-clause-volume
returns-clause-volume g c = λ told.
    let H = g.H.BlockStore in
    let v : Volume = c.in_ok-superblock.superblock in
    subst (λ (n : ℕ). IsVolume (get_or (H.content c.args.hash_store.now) (n - 1) []) v) c.hash_start_block-first.ensures.value
    (c.in_ok-superblock.ensures.volume told)
