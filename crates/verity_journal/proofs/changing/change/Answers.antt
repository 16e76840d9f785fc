use Rattle.std.proofs.Common.{◌≡◌, ◌<◌, ℕ, List, [], get_or, length, refl, ap, ◌∙◌, arith}
use Rattle.std.proofs.lemmas.List.{get_or_read}
use Rattle.verity_store.specs.RawFile.{overwritten}
use Rattle.verity_disks.specs.Disks.{Reached}
use Rattle.verity_journal.specs.Plan.{Amid}
use Rattle.verity_journal.proofs.Made.{fits_at, changed_more, length-written}
use Rattle.verity_disks.proofs.Moments.{started, goes_on, put_self}
use Rattle.verity_journal.proofs.Sides.{here_self, change_crash, seen_here, seen_more}
use Rattle.verity_journal.proofs.changing.change.Goals as goal

pub loop-change-init : goal.loop-change-init
loop-change-init g c =
    let old = c.args.disks.now in
    let device = c.args.device in
    let Q = Reached device (Amid c.args.side.now) (g.K.Disks.may_leave old) in
    let here = here_self c.args.side.now device (g.K.Disks.may_leave old) in
    record {
      list = c.changes-changes.ensures;
      moments = started g.K.Disks.moment g.K.Disks.left_since old Q (λ f left. here f (g.met.K.Disks.only_now old f left));
      crash = here;
      seen = put_self device (g.K.Disks.seen old);
      len = c.requires.len;
      todo = refl;
      faults = omega arith;
    }

pub write_at-requires : goal.write_at-requires
write_at-requires g c =
    let inv = c.loop-change.invariant in
    let n : ℕ = c.loop-change.change-index in
    let list = c.changes-changes.result.now in
    let below : n < length list = c.loop-change-test.true in
    let is : c.change-item.result ≡ get_or list n (0, []) = get_or_read list n c.change-item.result below c.change-item.is (0, []) in
    let fits = fits_at c.args.side.now n c.change-item.result c.requires.side (omega (arith, below, ap length inv.list)) (is
    ∙ ap (λ l. get_or l n (0, [])) inv.list) in
    omega (arith, fits, inv.len, c.at.ensures)

pub returns-in_err-write_at-clause-crash : goal.returns-in_err-write_at-clause-crash
returns-in_err-write_at-clause-crash g c =
    let inv = c.loop-change.invariant in
    let n : ℕ = c.loop-change.change-index in
    let list = c.changes-changes.result.now in
    let below : n < length list = c.loop-change-test.true in
    let is : c.change-item.result ≡ get_or list n (0, []) = get_or_read list n c.change-item.result below c.change-item.is (0, []) in
    change_crash c.args.side.now c.args.device (g.K.Disks.may_leave c.args.disks.now) _ _ n _ _ c.change-item.result
    (omega (arith, below, ap length inv.list)) (is ∙ ap (λ l. get_or l n (0, [])) inv.list) c.at.ensures c.bytes.ensures
    inv.crash c.write_at.ensures.crash

pub returns-in_err-write_at-clause-any_moment : goal.returns-in_err-write_at-clause-any_moment
returns-in_err-write_at-clause-any_moment g c =
    goes_on g.K.Disks.moment g.K.Disks.left_since c.args.disks.now c.loop-change.disks c.write_at.new.self _ _
    c.loop-change.invariant.moments c.write_at.ensures.time (returns-in_err-write_at-clause-crash g c)

pub loop-change-preserved : goal.loop-change-preserved
loop-change-preserved g c =
    let inv = c.loop-change.invariant in
    let side = c.args.side.now in
    let device = c.args.device in
    let n : ℕ = c.loop-change.change-index in
    let list = c.changes-changes.result.now in
    let item = c.change-item.result in
    let below : n < length list = c.loop-change-test.true in
    let is : item ≡ get_or list n (0, []) = get_or_read list n item below c.change-item.is (0, []) in
    let in_side = is ∙ ap (λ l. get_or l n (0, [])) inv.list in
    let in_bounds : n < length side.changes = omega (arith, below, ap length inv.list) in
    let fits = fits_at side n item c.requires.side in_bounds in_side in
    let crash = change_crash side device (g.K.Disks.may_leave c.args.disks.now) _ _ n _ _ item in_bounds in_side c.at.ensures
    c.bytes.ensures inv.crash c.write_at.ensures.crash in
    let seen = c.in_ok-write_at.ensures.written in
    let before = g.K.Disks.seen c.loop-change.disks device in
    let here = seen_here device _ _ _ seen ∙ ap (λ (m : ℕ). overwritten m c.bytes.result.now before) c.at.ensures
    ∙ ap (λ (l : List ℕ). overwritten item.0 l before) c.bytes.ensures in
    record {
      list = inv.list;
      moments = goes_on g.K.Disks.moment g.K.Disks.left_since c.args.disks.now c.loop-change.disks c.write_at.new.self _ _
          inv.moments c.write_at.ensures.time crash;
      crash = crash;
      seen = seen_more device _ _ _ _ inv.seen seen;
      len = ap length here ∙ length-written item.0 item.1 before (omega (arith, fits, inv.len)) ∙ inv.len;
      todo = changed_more list n item before _ below is here ∙ inv.todo;
      faults = omega (arith, inv.faults, c.write_at.ensures.faults);
    }
