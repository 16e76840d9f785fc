use Rattle.std.proofs.Common.{◌≡◌, ◌+◌, length, sym, ap, ◌∙◌, arith}
use Rattle.verity_superblock.proofs.Splits.{cuts, cut-fields}
use Rattle.verity_superblock.proofs.line.cut.Goals as goal

pub unwrap-requires : goal.unwrap-requires
unwrap-requires c = cuts c.args.text.now c.split_once.result c.split_once.ensures.cases c.requires

pub returns-clause-fields : goal.returns-clause-fields
returns-clause-fields c = cut-fields c.args.text.now c.split_once.result c.unwrap.result c.split_once.ensures.cases c.unwrap.ensures

pub returns-clause-fewer : goal.returns-clause-fewer
returns-clause-fewer c = omega (arith, ap length (returns-clause-fields c))
