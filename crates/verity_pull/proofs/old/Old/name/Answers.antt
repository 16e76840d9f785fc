use Rattle.std.proofs.Common.{◌≡◌, ℕ, suc, ◌+◌, ◌/◌, List, sym, ap, subst, ◌∙◌, arith}
use Rattle.verity_chain.specs.Table.{branching, path_index}
use Rattle.verity_chain.proofs.ChainLemmas.{same_here}
use Rattle.verity_chain.proofs.TableLaws.{path_index-suc}
use Rattle.verity_report.specs.Descent.{Known, seen_in}
use Rattle.verity_pull.specs.Walk.{IsName}
use Rattle.verity_pull.specs.Over.{OldTree}
use Rattle.verity_pull.proofs.old.Old.name.Goals as goal

pub returns : goal.returns
returns g c =
    let t = c.args.tree.now in
    let r : ℕ = c.args.row in
    let n : ℕ = c.args.n in
    let turn : c.args.row + 1 ≡ suc c.args.row = omega arith in
    let first : c.deref.result.now ≡ c.args.self.now.rows = c.deref.ensures.value ∙ ap (λ (o : OldTree). o.rows) c.self.view_is in
    let second : c.deref-2.result.now ≡ c.args.self.now.rows = c.deref-2.ensures.value ∙ ap (λ (o : OldTree). o.rows) c.self.view_is in
    let name : IsName t r (path_index t n r) c.args.self.now.rows c.name_of.result =
    subst (λ (xs : List Known). IsName t r (path_index t n r) xs c.name_of.result) second
    (subst (λ i. IsName t r i c.deref-2.result.now c.name_of.result) c.path_index-index.ensures c.name_of.ensures) in
    record {
      name = record {
        top = λ e. absurd (c.if-row-levels.false (e ∙ sym c.levels.ensures.value));
        under = name.under;
      };
      parent = λ low.
          ap (λ (xs : List Known). seen_in xs (suc r)) (sym first)
          ∙ ap (seen_in c.deref.result.now) (sym turn)
          ∙ same_here c.holds.result _ c.holds.ensures c.if-not-holds.false
          ∙ ap (λ i. suc i) (c.above-parent.ensures.value ∙ path_index-suc t n r);
    }
