use Rattle.std.proofs.Common.{◌≤◌, arith, sym}
use Rattle.verity_geometry.specs.Laws.{Grows}
use Rattle.verity_geometry.proofs.OfShape.{starts_rise}
use Rattle.verity_plan.proofs.levels.move_tree.Goals as goal

pub grow_tree-requires-clause-old_fits : goal.grow_tree-requires-clause-old_fits
grow_tree-requires-clause-old_fits g c =
    let less : c.args.old.now.blocks ≤ c.args.new.now.blocks = omega arith in
    let grown : Grows c.args.old.now c.args.new.now =
    record { hash_size = c.requires.hash_size; digest_size = c.requires.digest_size; blocks = less } in
    let rise = starts_rise c.args.old.now c.args.new.now c.levels-old_levels.ensures.shaped grown in
    omega (arith, rise.total)

pub cut_tree-requires-clause-new_fits : goal.cut_tree-requires-clause-new_fits
cut_tree-requires-clause-new_fits g c =
    let less : c.args.new.now.blocks ≤ c.args.old.now.blocks = omega arith in
    let grown : Grows c.args.new.now c.args.old.now =
    record { hash_size = sym c.requires.hash_size; digest_size = sym c.requires.digest_size; blocks = less } in
    let rise = starts_rise c.args.new.now c.args.old.now c.levels-new_levels.ensures.shaped grown in
    omega (arith, rise.total)
