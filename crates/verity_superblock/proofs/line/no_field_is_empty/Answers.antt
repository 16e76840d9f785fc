use Rattle.std.proofs.Common.{◌<◌, nat_lt, length, lit<, rules, ℕ, List}
use Rattle.std.proofs.lemmas.Iterator.Search.{all_from_yields_List}
use Rattle.std.proofs.lemmas.Iterator.Splits.{YieldsList-from_str_split}
use Rattle.verity_superblock.proofs.line.no_field_is_empty.Goals as goal

pub returns : goal.returns
returns c =
    all_from_yields_List (λ (f : List ℕ). nat_lt 0 (length f)) _ _ c.all.result c.all.ensures.ran
    (YieldsList-from_str_split 32 c.args.text.now (lit< tt) c.split.ensures.text c.split.ensures.has_more c.split.ensures.pattern)
    (λ x b q k. search rules)
