use Rattle.std.proofs.Common.{◌≡◌, ◌<◌, ℕ, List, [], get_or, length, refl, ap, subst, ◌∙◌, arith}
use Rattle.std.proofs.lemmas.List.{get_or_read}
use Rattle.verity_store.specs.RawFile.{Writes}
use Rattle.verity_commit.proofs.FileChanges.{fits_at, fits_known, written_more, written_long}
use Rattle.verity_commit.proofs.placing.write_changes.Goals as goal

pub loop-change-init : goal.loop-change-init
loop-change-init g c = (c.changes-changes.ensures, c.requires.len, refl)

pub write_all_at-requires : goal.write_all_at-requires
write_all_at-requires g c =
    let inv = c.loop-change.invariant in
    let n : ℕ = c.loop-change.change-index in
    let list = c.changes-changes.result.now in
    let below : n < length list = c.loop-change-test.true in
    let is : c.change-item.result ≡ get_or list n (0, []) = get_or_read list n c.change-item.result below c.change-item.is (0, []) in
    let fits = fits_at c.args.side.now n c.change-item.result c.requires.side (omega (arith, below, ap length inv.0)) (is
    ∙ ap (λ l. get_or l n (0, [])) inv.0) in
    fits_known _ c.args.side.now.len _ _ inv.1 (omega (arith, fits, c.at.ensures, ap length c.bytes.ensures))

pub loop-change-preserved : goal.loop-change-preserved
loop-change-preserved g c =
    let inv = c.loop-change.invariant in
    let side = c.args.side.now in
    let n : ℕ = c.loop-change.change-index in
    let list = c.changes-changes.result.now in
    let item = c.change-item.result in
    let below : n < length list = c.loop-change-test.true in
    let is : item ≡ get_or list n (0, []) = get_or_read list n item below c.change-item.is (0, []) in
    let fits = fits_at side n item c.requires.side (omega (arith, below, ap length inv.0)) (is ∙ ap (λ l. get_or l n (0, [])) inv.0) in
    let old = g.F.RawFile.bytes c.loop-change.file in
    let new = g.F.RawFile.bytes c.write_all_at.new.self in
    let P : ℕ → Type 0 = λ at. Writes old new at c.bytes.result.now in
    let Q : List ℕ → Type 0 = λ written. Writes old new item.0 written in
    let wrote : Writes old new item.0 item.1 =
    subst Q c.bytes.ensures (subst P c.at.ensures c.in_ok-write_all_at.ensures.written) in
    (inv.0, written_long old new side.len item.0 item.1 inv.1 fits wrote, written_more old new list n item below is wrote ∙ inv.2)
