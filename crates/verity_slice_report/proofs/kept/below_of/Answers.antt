use Rattle.std.proofs.Common.{◌≡◌, true, sym, ap, ◌∙◌, subst}
use Rattle.verity_slice_report.specs.Sliced.{is_of_place, below_place}
use Rattle.verity_slice_report.proofs.PlaceLemmas.{test_hash}
use Rattle.verity_slice_report.proofs.kept.below_of.Goals as goal

pub count_below-requires-clause-level : goal.count_below-requires-clause-level
count_below-requires-clause-level c =
    (test_hash c.args.tree.now c.args.run c.in-Hash.level c.in-Hash.index
    (subst (λ p. is_of_place c.args.tree.now c.args.run p ≡ true) c.in-Hash.is c.requires.kept)).0

pub count_below-requires-clause-some : goal.count_below-requires-clause-some
count_below-requires-clause-some c =
    (test_hash c.args.tree.now c.args.run c.in-Hash.level c.in-Hash.index
    (subst (λ p. is_of_place c.args.tree.now c.args.run p ≡ true) c.in-Hash.is c.requires.kept)).1.some

pub count_below-requires-clause-index : goal.count_below-requires-clause-index
count_below-requires-clause-index c =
    (test_hash c.args.tree.now c.args.run c.in-Hash.level c.in-Hash.index
    (subst (λ p. is_of_place c.args.tree.now c.args.run p ≡ true) c.in-Hash.is c.requires.kept)).1.last

pub returns-in-Data : goal.returns-in-Data
returns-in-Data c = sym (ap (below_place c.args.tree.now c.args.run) c.in-Data.is)

pub returns-in-Hash : goal.returns-in-Hash
returns-in-Hash c = c.count_below.ensures ∙ sym (ap (below_place c.args.tree.now c.args.run) c.in-Hash.is)
