use Rattle.std.proofs.Common.{◌≡◌, ◌≤◌, ◌+◌, ℕ, List, length, drop, sym, ap, subst, ◌∙◌, arith, refl}
use Rattle.verity_profile.proofs.Bounds.{block_count_high}
use Rattle.verity_store.proofs.GivenLemmas.{goes_on_len}
use Rattle.verity_store.proofs.StoreLemmas.{only_read_same, only_read_then}
use Rattle.verity_digest.proofs.Counts.{row_len-zero}
use Rattle.verity_chain.specs.Table.{Table, branching}
use Rattle.verity_report.specs.Stores.{gave_between, listed_in}
use Rattle.verity_report.proofs.OwnLemmas.{own_same, own_then}
use Rattle.verity_report.specs.Descent.{AreRows, AreSeenTo, IsDownTo, IsSoFar, places}
use Rattle.verity_report.proofs.RowCounts.{seen_none}
use Rattle.verity_report.proofs.DescentLemmas.{so_far_none, places_none, places_all}
use Rattle.verity_report.proofs.report.go_through.Goals as goal

pub loop-n-init : goal.loop-n-init
loop-n-init g c =
    let D = g.D.BlockStore in
    let H = g.H.BlockStore in
    let t = c.args.tree.now in
    let rows = c.args.rows.now in
    record {
      rows = c.requires.rows;
      seen = seen_none t c.requires.allowed rows c.requires.unseen;
      within = omega arith;
      found = so_far_none t (listed_in t (gave_between D c.args.data_store.now c.args.data_store.now)
          (gave_between H c.args.hash_store.now c.args.hash_store.now)) rows
          (D.failures c.args.data_store.now + H.failures c.args.hash_store.now)
          (λ r low. (c.requires.unseen r low, c.requires.unlisted r low));
      data_own = own_same D c.args.data_store.now;
      hash_own = own_same H c.args.hash_store.now;
      counted = omega (arith, places_none t rows c.requires.unseen);
      most = omega arith;
      data_keeps = only_read_same D c.args.data_store.now;
      hash_keeps = only_read_same H c.args.hash_store.now;
      run = c.requires.data_room;
      block = c.requires.hash_whole;
      same = refl;
    }

pub go_down-requires-clause-rows : goal.go_down-requires-clause-rows
go_down-requires-clause-rows g c = subst (λ (x : Table). AreRows x c.loop-n.rows) (sym c.loop-n.invariant.same) c.loop-n.invariant.rows

pub go_down-requires-clause-before : goal.go_down-requires-clause-before
go_down-requires-clause-before g c =
    subst (λ (x : Table). AreSeenTo x c.loop-n.n c.loop-n.rows) (sym c.loop-n.invariant.same) c.loop-n.invariant.seen

pub go_down-requires-clause-room : goal.go_down-requires-clause-room
go_down-requires-clause-room g c =
    omega (
      arith,
      c.loop-n.invariant.most,
      c.loop-n.invariant.within,
      block_count_high c.args.tree.now.data_blocks c.requires.allowed.blocks,
    )

pub look_at_run-requires-clause-rows : goal.look_at_run-requires-clause-rows
look_at_run-requires-clause-rows g c =
    subst (λ (x : Table). AreRows x c.go_down.new.rows) (sym c.in_ok-go_down.ensures.same) c.in_ok-go_down.ensures.rows

pub look_at_run-requires-clause-path : goal.look_at_run-requires-clause-path
look_at_run-requires-clause-path g c =
    subst (λ (x : Table). IsDownTo x c.loop-n.n 0 c.go_down.new.rows) (sym c.in_ok-go_down.ensures.same) c.in_ok-go_down.ensures.path

pub look_at_run-requires-clause-room : goal.look_at_run-requires-clause-room
look_at_run-requires-clause-room g c =
    omega (
      arith,
      c.in_ok-go_down.ensures.most,
      c.loop-n.invariant.most,
      c.loop-n.invariant.within,
      block_count_high c.args.tree.now.data_blocks c.requires.allowed.blocks,
    )

pub loop-n-preserved : goal.loop-n-preserved
loop-n-preserved g c =
    let D = g.D.BlockStore in
    let H = g.H.BlockStore in
    let t = c.args.tree.now in
    let inv = c.loop-n.invariant in
    let e = c.in_ok-go_down.ensures in
    let f = c.in_ok-next.ensures in
    let rows = c.loop-n.rows in
    let rows' = c.go_down.new.rows in
    let rows'' = c.look_at_run.new.rows in
    let u = c.loop-n.unchecked in
    let u' = c.go_down.new.unchecked in
    let u'' = c.look_at_run.new.unchecked in
    let d = c.loop-n.data_store in
    let d' = c.look_at_run.new.data_store in
    let h = c.loop-n.hash_store in
    let h' = c.go_down.new.hash_store in
    let next = c.in_ok-next.next in
    let tree : c.go_down.new.tree ≡ c.args.tree.now = e.same ∙ inv.same in
    let count : c.go_down.new.unchecked + H.reads c.go_down.new.hash_store + places c.args.tree.now c.loop-n.rows
    ≡ c.loop-n.unchecked + H.reads c.loop-n.hash_store + places c.args.tree.now c.go_down.new.rows =
    subst (λ (x : Table). u' + H.reads h' + places x rows ≡ u + H.reads h + places x rows') inv.same e.counted in
    let count' : c.look_at_run.new.unchecked + D.reads c.look_at_run.new.data_store + places c.args.tree.now c.go_down.new.rows
    ≡ c.go_down.new.unchecked + D.reads c.loop-n.data_store + places c.args.tree.now c.look_at_run.new.rows =
    subst (λ (x : Table). u'' + D.reads d' + places x rows' ≡ u' + D.reads d + places x rows'') tree f.counted in
    record {
      rows = subst (λ (x : Table). AreRows x rows'') tree f.rows;
      seen = subst (λ (x : Table). AreSeenTo x next rows'') tree f.before;
      within = subst (λ (x : Table). next ≤ x.data_blocks) tree f.within;
      found =
          let data_mark = length (D.given c.args.data_store.now) in
          let hash_mark = length (H.given c.args.hash_store.now) in
          let base = D.failures c.args.data_store.now + H.failures c.args.hash_store.now in
          let down = subst (λ (x : Table). (mark : ℕ) → mark ≤ length (H.given h) → (gave : List (ℕ × List ℕ)) (base other : ℕ)
          → IsSoFar x (listed_in x gave (drop mark (H.given h))) rows u base (other + H.failures h)
          → IsSoFar x (listed_in x gave (drop mark (H.given h'))) rows' u' base (other + H.failures h')) inv.same e.found in
          let along = subst (λ (x : Table). (mark : ℕ) → mark ≤ length (D.given d) → (gave : List (ℕ × List ℕ)) (base other : ℕ)
          → IsSoFar x (listed_in x (drop mark (D.given d)) gave) rows' u' base (D.failures d + other)
          → IsSoFar x (listed_in x (drop mark (D.given d')) gave) rows'' u'' base (D.failures d' + other)) tree f.found in
          along data_mark (goes_on_len _ _ inv.data_keeps.later.gave) (drop hash_mark (H.given h')) base (H.failures h')
          (down hash_mark (goes_on_len _ _ inv.hash_keeps.later.gave) (drop data_mark (D.given d)) base (D.failures d) inv.found);
      data_own = own_then D _ _ _ inv.data_keeps f.keeps.later.gave inv.data_own f.own;
      hash_own = own_then H _ _ _ inv.hash_keeps e.keeps.later.gave inv.hash_own e.own;
      counted = omega (arith, inv.counted, count, count');
      most = omega (arith, inv.most, e.most, f.most, f.more);
      data_keeps = only_read_then D _ _ _ inv.data_keeps f.keeps;
      hash_keeps = only_read_then H _ _ _ inv.hash_keeps e.keeps;
      run = omega (arith, inv.run, c.look_at_run.auto.run);
      block = c.go_down.auto.hash_block ∙ inv.block;
      same = f.same ∙ tree;
    }

pub returns-clause-seen : goal.returns-clause-seen
returns-clause-seen g c =
    let inv = c.loop-n.invariant in
    let end : c.loop-n.n ≡ c.args.tree.now.data_blocks =
    omega (
      arith,
      c.loop-n-test.false,
      inv.within,
      c.data_blocks-count.ensures.value,
      ap (λ (x : Table). x.data_blocks) c.table.ensures.value,
    ) in
    subst (λ m. AreSeenTo c.args.tree.now m c.loop-n.rows) end inv.seen

pub returns-clause-counted : goal.returns-clause-counted
returns-clause-counted g c =
    let t = c.args.tree.now in
    let inv = c.loop-n.invariant in
    let end : c.loop-n.n ≡ c.args.tree.now.data_blocks =
    omega (
      arith,
      c.loop-n-test.false,
      inv.within,
      c.data_blocks-count.ensures.value,
      ap (λ (x : Table). x.data_blocks) c.table.ensures.value,
    ) in
    omega (
      arith,
      inv.counted,
      places_all t c.loop-n.rows (subst (λ m. AreSeenTo t m c.loop-n.rows) end inv.seen),
      row_len-zero (branching t) t.data_blocks,
    )

pub returns-in_err-go_down-clause-hash_keeps : goal.returns-in_err-go_down-clause-hash_keeps
returns-in_err-go_down-clause-hash_keeps g c =
    only_read_then g.H.BlockStore _ _ _ c.loop-n.invariant.hash_keeps c.in_err-go_down.ensures.keeps

pub returns-in_err-next-clause-data_keeps : goal.returns-in_err-next-clause-data_keeps
returns-in_err-next-clause-data_keeps g c =
    only_read_then g.D.BlockStore _ _ _ c.loop-n.invariant.data_keeps c.in_err-next.ensures.keeps

pub returns-in_err-next-clause-hash_keeps : goal.returns-in_err-next-clause-hash_keeps
returns-in_err-next-clause-hash_keeps g c =
    only_read_then g.H.BlockStore _ _ _ c.loop-n.invariant.hash_keeps c.in_ok-go_down.ensures.keeps

pub returns-in_err-go_down-clause-hash_own : goal.returns-in_err-go_down-clause-hash_own
returns-in_err-go_down-clause-hash_own g c =
    let inv = c.loop-n.invariant in
    let e = c.in_err-go_down.ensures in
    own_then g.H.BlockStore _ _ _ inv.hash_keeps e.keeps.later.gave inv.hash_own e.own

pub returns-in_err-next-clause-data_own : goal.returns-in_err-next-clause-data_own
returns-in_err-next-clause-data_own g c =
    let inv = c.loop-n.invariant in
    let e = c.in_err-next.ensures in
    own_then g.D.BlockStore _ _ _ inv.data_keeps e.keeps.later.gave inv.data_own e.own

pub returns-in_err-next-clause-hash_own : goal.returns-in_err-next-clause-hash_own
returns-in_err-next-clause-hash_own g c =
    let inv = c.loop-n.invariant in
    let e = c.in_ok-go_down.ensures in
    own_then g.H.BlockStore _ _ _ inv.hash_keeps e.keeps.later.gave inv.hash_own e.own
