use Rattle.std.proofs.Common.{◌≡◌, ℕ, suc, ◌+◌, List, length, sym, ap, subst, ◌∙◌, arith}
use Rattle.verity_store.specs.Stores.{IsLater}
use Rattle.verity_chain.specs.Table.{hash_place}
use Rattle.verity_chain.proofs.ChainLemmas.{ok_here, same_here, chain_here, Names-grows}
use Rattle.verity_report.specs.Descent.{Known, known, AreRows}
use Rattle.verity_pull.specs.Walk.{Came}
use Rattle.verity_pull.specs.Over.{OldTree, rooted, was_given, IsHeldAt, AreEnds}
use Rattle.verity_pull.proofs.TakeLemmas.{came_now}
use Rattle.verity_pull.proofs.OverLemmas.{whole_back, held_rows, ends_more, ends_grows, was_grows}
use Rattle.verity_pull.proofs.old.Old.look.Goals as goal

pub returns-then-is_err-clause-found : goal.returns-then-is_err-clause-found
returns-then-is_err-clause-found g c = λ mark marked ends names.
    let K = g.K.BlockStore in
    let t = c.args.tree.now in
    let e = c.read.ensures in
    let later : IsLater K c.args.local.now c.read.new.self =
    record {
      tells = e.tells;
      size = e.size;
      fixed = e.fixed;
      gave = e.gave;
      failures = e.failures;
      reads = omega (arith, e.counted);
      changes = omega (arith, e.changes);
      room = omega (arith, e.room);
    } in
    ends_grows (rooted t c.args.self.now.root) (was_given K t mark c.args.local.now) (was_given K t mark c.read.new.self)
    (was_grows K t mark c.args.local.now c.read.new.self later) c.args.self.now.rows ends

pub returns-then-not-matches-clause-found : goal.returns-then-not-matches-clause-found
returns-then-not-matches-clause-found g c = λ mark marked ends names.
    let K = g.K.BlockStore in
    let t = c.args.tree.now in
    let e = c.read.ensures in
    let later : IsLater K c.args.local.now c.read.new.self =
    record {
      tells = e.tells;
      size = e.size;
      fixed = e.fixed;
      gave = e.gave;
      failures = e.failures;
      reads = omega (arith, e.counted);
      changes = omega (arith, e.changes);
      room = omega (arith, e.room);
    } in
    ends_grows (rooted t c.args.self.now.root) (was_given K t mark c.args.local.now) (was_given K t mark c.read.new.self)
    (was_grows K t mark c.args.local.now c.read.new.self later) c.args.self.now.rows ends

pub hold-requires-clause-whole : goal.hold-requires-clause-whole
hold-requires-clause-whole g c =
    let turn : c.args.level + 1 ≡ suc c.args.level = omega arith in
    c.read.auto.out ∙ c.requires.block ∙ sym (c.requires.rows.whole c.args.level c.requires.level)
    ∙ ap (λ m. length (known c.args.self.now.rows m).block) (sym turn)
    ∙ ap (λ (rows : List Known). length (known rows (c.args.level + 1)).block) (sym (c.deref_mut.ensures.value
    ∙ ap (λ (o : OldTree). o.rows) c.self.view_is))

pub returns-clause-rows : goal.returns-clause-rows
returns-clause-rows g c =
    let t = c.args.tree.now in
    let turn : c.args.level + 1 ≡ suc c.args.level = omega arith in
    let rows = c.hold.new.rows in
    let held = subst (λ m. IsHeldAt m c.args.index c.read.new.out c.deref_mut.result.now rows) turn c.hold.ensures in
    let was : AreRows t c.deref_mut.result.now = subst (λ (xs : List Known). AreRows t xs) (sym (c.deref_mut.ensures.value
    ∙ ap (λ (o : OldTree). o.rows) c.self.view_is)) c.requires.rows in
    subst (λ (xs : List Known). AreRows t xs)
    (sym (whole_back c.self.inside.rows.len rows _ (c.hold.ensures.len ∙ c.deref_mut.ensures.len)))
    (held_rows t c.args.level c.args.index c.read.new.out c.deref_mut.result.now rows held (c.read.auto.out ∙ c.requires.block) was)

pub returns-clause-found : goal.returns-clause-found
returns-clause-found g c = λ mark marked ends names.
    let K = g.K.BlockStore in
    let t = c.args.tree.now in
    let e = c.read.ensures in
    let v : ℕ = c.args.level in
    let i : ℕ = c.args.index in
    let y : List ℕ = c.read.new.out in
    let root : List ℕ = c.args.self.now.root in
    let later : IsLater K c.args.local.now c.read.new.self =
    record {
      tells = e.tells;
      size = e.size;
      fixed = e.fixed;
      gave = e.gave;
      failures = e.failures;
      reads = omega (arith, e.counted);
      changes = omega (arith, e.changes);
      room = omega (arith, e.room);
    } in
    let was = was_given K t mark c.args.local.now in
    let now = was_given K t mark c.read.new.self in
    let grows = was_grows K t mark c.args.local.now c.read.new.self later in
    let turn : c.args.level + 1 ≡ suc c.args.level = omega arith in
    let rows = c.hold.new.rows in
    let held = subst (λ m. IsHeldAt m c.args.index c.read.new.out c.deref_mut.result.now rows) turn c.hold.ensures in
    let came : Came K mark c.read.new.self (hash_place t v i) y =
    subst (λ n. Came K mark c.read.new.self n y) c.hash_place-number.ensures.value
    (came_now K mark c.args.local.now c.read.new.self c.hash_place-number.result y
    (ok_here c.read.result _ e.given c.if-is_err.ensures.value) marked (c.read.auto.out ∙ c.requires.block ∙ sym c.requires.local_size)
    e.size) in
    let here = chain_here (rooted t root) now (suc v) i c.args.named.now y
    (Names-grows (rooted t root) was now grows (suc v) i c.args.named.now names) came
    (same_here c.matches.result _ c.matches.ensures.value c.if-not-matches.false) in
    let before : AreEnds (rooted t root) now c.deref_mut.result.now =
    subst (λ (xs : List Known). AreEnds (rooted t root) now xs) (sym (c.deref_mut.ensures.value
    ∙ ap (λ (o : OldTree). o.rows) c.self.view_is))
    (ends_grows (rooted t root) was now grows c.args.self.now.rows ends) in
    subst (λ (xs : List Known). AreEnds (rooted t root) now xs)
    (sym (whole_back c.self.inside.rows.len rows _ (c.hold.ensures.len ∙ c.deref_mut.ensures.len)))
    (ends_more (rooted t root) now v i y c.deref_mut.result.now rows held here before)
