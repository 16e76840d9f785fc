use Rattle.std.proofs.Common.{◌≡◌, ◌∷◌, sym, ap, ◌∙◌, lit<}
use Rattle.std.proofs.lemmas.Str.Pattern.{split_parts}
use Rattle.verity_superblock.proofs.Splits.{fields_of-one, cut-fields}
use Rattle.cli_script.specs.Script.{asked_of}
use Rattle.cli_script.proofs.line.read_arguments.Goals as goal

pub returns-in-Some : goal.returns-in-Some
returns-in-Some c =
    let cut = cut-fields c.args.rest.now c.split_once.result (c.in-Some.place, c.in-Some.rest) c.split_once.ensures.cases c.in-Some.is in
    c.read_block.ensures ∙ ap (λ ws. asked_of (c.args.word.now ∷ ws)) (sym cut)

pub returns-in-None : goal.returns-in-None
returns-in-None c =
    let parts = rw c.in-None.is at (split_parts 32 c.args.rest.now c.split_once.result c.split_once.ensures.cases (lit< tt)) in
    c.read_count.ensures ∙ ap (λ ws. asked_of (c.args.word.now ∷ ws)) (sym (fields_of-one c.args.rest.now parts))
