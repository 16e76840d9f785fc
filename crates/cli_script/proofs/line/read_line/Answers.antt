use Rattle.std.proofs.Common.{◌≡◌, sym, ap, ◌∙◌, lit<}
use Rattle.std.proofs.lemmas.Str.Pattern.{split_parts}
use Rattle.verity_superblock.proofs.Splits.{fields_of-one, cut-fields}
use Rattle.cli_script.specs.Script.{asked_of}
use Rattle.cli_script.proofs.line.read_line.Goals as goal

pub returns-in-Some : goal.returns-in-Some
returns-in-Some c =
    let cut = cut-fields c.args.text.now c.split_once.result (c.in-Some.word, c.in-Some.rest) c.split_once.ensures.cases c.in-Some.is in
    c.read_arguments.ensures ∙ ap asked_of (sym cut)

pub returns-in-None : goal.returns-in-None
returns-in-None c =
    let parts = rw c.in-None.is at (split_parts 32 c.args.text.now c.split_once.result c.split_once.ensures.cases (lit< tt)) in
    c.read_word.ensures ∙ ap asked_of (sym (fields_of-one c.args.text.now parts))
