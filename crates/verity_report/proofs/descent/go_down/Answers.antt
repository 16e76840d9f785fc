use Rattle.std.proofs.Common.{◌≡◌, ◌≤◌, ◌+◌, ◌-◌, ℕ, suc, List, length, drop, sym, subst, ◌∙◌, arith, refl}
use Rattle.verity_store.proofs.GivenLemmas.{goes_on_len}
use Rattle.verity_store.proofs.StoreLemmas.{only_read_same, only_read_then}
use Rattle.verity_chain.specs.Table.{Table}
use Rattle.verity_report.specs.Stores.{listed_in}
use Rattle.verity_report.proofs.OwnLemmas.{own_same, own_then}
use Rattle.verity_report.specs.Descent.{AreRows, IsDownTo, IsSoFar, places}
use Rattle.verity_report.proofs.DescentLemmas.{down_start}
use Rattle.verity_report.proofs.descent.go_down.Goals as goal

pub loop-level-init : goal.loop-level-init
loop-level-init g c =
    let t = c.args.tree.now in
    let rows = c.args.rows.now in
    record {
      rows = c.requires.rows;
      down = subst (λ m. IsDownTo t c.args.n m rows) (sym c.levels-level.ensures.value) (down_start t c.args.n rows c.requires.before);
      low = omega (arith, c.levels-level.ensures.value);
      found = λ mark marked gave base other d. d;
      own = own_same g.H.BlockStore c.args.hash_store.now;
      counted = refl;
      most = omega (arith, c.levels-level.ensures.value);
      keeps = only_read_same g.H.BlockStore c.args.hash_store.now;
      block = c.requires.block;
      same = refl;
    }

pub loop-level-preserved : goal.loop-level-preserved
loop-level-preserved g c =
    let H = g.H.BlockStore in
    let t = c.args.tree.now in
    let inv = c.loop-level.invariant in
    let e = c.in_ok-step_down.ensures in
    let rows = c.loop-level.rows in
    let rows' = c.step_down.new.rows in
    let u = c.loop-level.unchecked in
    let u' = c.step_down.new.unchecked in
    let h = c.loop-level.hash_store in
    let h' = c.step_down.new.hash_store in
    let found = subst (λ (x : Table). (mark : ℕ) → mark ≤ length (H.given h) → (gave : List (ℕ × List ℕ)) (base other : ℕ)
    → IsSoFar x (listed_in x gave (drop mark (H.given h))) rows u base (other + H.failures h)
    → IsSoFar x (listed_in x gave (drop mark (H.given h'))) rows' u' base (other + H.failures h')) inv.same e.found in
    let counted : c.step_down.new.unchecked + H.reads c.step_down.new.hash_store + places c.args.tree.now c.loop-level.rows
    ≡ c.loop-level.unchecked + H.reads c.loop-level.hash_store + places c.args.tree.now c.step_down.new.rows =
    subst (λ (x : Table). u' + H.reads h' + places x rows ≡ u + H.reads h + places x rows') inv.same e.counted in
    record {
      rows = subst (λ (x : Table). AreRows x rows') inv.same e.rows;
      down = subst (λ (x : Table). IsDownTo x c.args.n (c.loop-level.level - 1) rows') inv.same e.down;
      low = omega (arith, inv.low);
      found = λ mark marked gave base other d.
          found mark (omega (arith, marked, goes_on_len _ _ inv.keeps.later.gave)) gave base other
          (inv.found mark marked gave base other d);
      own = own_then H _ _ _ inv.keeps e.keeps.later.gave inv.own e.own;
      counted = omega (arith, inv.counted, counted);
      most = omega (arith, inv.most, e.most, c.loop-level-test.true);
      keeps = only_read_then H _ _ _ inv.keeps e.keeps;
      block = c.step_down.auto.hash_block ∙ inv.block;
      same = e.same ∙ inv.same;
    }

pub returns-clause-path : goal.returns-clause-path
returns-clause-path g c =
    let none : c.loop-level.level ≡ 0 = omega (arith, c.loop-level-test.false) in
    subst (λ m. IsDownTo c.args.tree.now c.args.n m c.loop-level.rows) none c.loop-level.invariant.down

pub step_down-requires-clause-down : goal.step_down-requires-clause-down
step_down-requires-clause-down g c =
    let inv = c.loop-level.invariant in
    let turn : suc (c.loop-level.level - 1) ≡ c.loop-level.level = omega (arith, c.loop-level-test.true) in
    subst (λ (x : Table). IsDownTo x c.args.n (suc (c.loop-level.level - 1)) c.loop-level.rows) (sym inv.same)
    (subst (λ m. IsDownTo c.args.tree.now c.args.n m c.loop-level.rows) (sym turn) inv.down)

pub returns-in_err-step_down-clause-keeps : goal.returns-in_err-step_down-clause-keeps
returns-in_err-step_down-clause-keeps g c =
    only_read_then g.H.BlockStore _ _ _ c.loop-level.invariant.keeps c.in_err-step_down.ensures.keeps

pub returns-in_err-step_down-clause-own : goal.returns-in_err-step_down-clause-own
returns-in_err-step_down-clause-own g c =
    let inv = c.loop-level.invariant in
    let e = c.in_err-step_down.ensures in
    own_then g.H.BlockStore _ _ _ inv.keeps e.keeps.later.gave inv.own e.own
