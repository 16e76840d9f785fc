use Rattle.std.proofs.Common.{◌≡◌, ◌<◌, ◌+◌, ◌%◌, suc, true, false, Some, None, refl, sym, ap, subst, ◌∙◌, length, arith}
use Rattle.std.proofs.lemmas.List.{get_or_read}
use Rattle.verity_digest.specs.Tree.{slot}
use Rattle.verity_chain.specs.Table.{height, hashing_of, branching}
use Rattle.verity_report.specs.Descent.{Known, nothing_known, known, named_by}
use Rattle.verity_report.proofs.row.name_of.Goals as goal

pub digest_in-requires-clause-whole : goal.digest_in-requires-clause-whole
digest_in-requires-clause-whole g c =
    let low : c.args.row < height c.args.tree.now = omega (arith, c.if-row-levels.false, c.levels.ensures.value, c.requires.row) in
    let turn : c.args.row + 1 ≡ suc c.args.row = omega arith in
    let is = get_or_read c.args.rows.now (c.args.row + 1) c.index-rows-row.result (omega (arith, low, c.requires.rows.len))
    c.index-rows-row.is nothing_known in
    ap length (c.block.ensures ∙ ap (λ (k : Known). k.block) (is ∙ ap (known c.args.rows.now) turn)) ∙ c.requires.rows.whole c.args.row low

pub returns-then-is_good : goal.returns-then-is_good
returns-then-is_good g c =
    let t = c.args.tree.now in
    let rows = c.args.rows.now in
    let i = c.args.index in
    let low : c.args.row < height c.args.tree.now = omega (arith, c.if-row-levels.false, c.levels.ensures.value, c.requires.row) in
    let turn : c.args.row + 1 ≡ suc c.args.row = omega arith in
    let is = get_or_read c.args.rows.now (c.args.row + 1) c.index-rows-row.result (omega (arith, low, c.requires.rows.len))
    c.index-rows-row.is nothing_known in
    let here : c.index-rows-row.result ≡ known c.args.rows.now (suc c.args.row) = is ∙ ap (known c.args.rows.now) turn in
    let good : (known c.args.rows.now (suc c.args.row)).good ≡ true =
    ap (λ (k : Known). k.good) (sym here) ∙ sym c.is_good.ensures ∙ c.if-is_good.true in
    record {
      top = λ e. absurd (omega (arith, e, low));
      under = λ _. subst (λ b. Some c.digest_in.result ≡ named_by t i b (known rows (suc c.args.row)).block) (sym good)
          (ap (λ d. Some d) (c.digest_in.ensures ∙ ap (λ s. slot (hashing_of t) c.block.result.now s) c.slot_of.ensures.value
          ∙ ap (λ b. slot (hashing_of t) b (i % branching t)) (c.block.ensures ∙ ap (λ (k : Known). k.block) here)));
    }

pub returns-else-is_good : goal.returns-else-is_good
returns-else-is_good g c =
    let t = c.args.tree.now in
    let rows = c.args.rows.now in
    let i = c.args.index in
    let low : c.args.row < height c.args.tree.now = omega (arith, c.if-row-levels.false, c.levels.ensures.value, c.requires.row) in
    let turn : c.args.row + 1 ≡ suc c.args.row = omega arith in
    let is = get_or_read c.args.rows.now (c.args.row + 1) c.index-rows-row.result (omega (arith, low, c.requires.rows.len))
    c.index-rows-row.is nothing_known in
    let here : c.index-rows-row.result ≡ known c.args.rows.now (suc c.args.row) = is ∙ ap (known c.args.rows.now) turn in
    let bad : (known c.args.rows.now (suc c.args.row)).good ≡ false =
    ap (λ (k : Known). k.good) (sym here) ∙ sym c.is_good.ensures ∙ c.if-is_good.false in
    record {
      top = λ e. absurd (omega (arith, e, low));
      under = λ _. subst (λ b. None ≡ named_by t i b (known rows (suc c.args.row)).block) (sym bad) refl;
    }
