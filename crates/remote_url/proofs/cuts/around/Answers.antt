use Rattle.std.proofs.lemmas.Str.Pattern.{split_parts}
use Rattle.remote_url.proofs.Marks.{parts_of, before_first_mark, no_mark}
use Rattle.remote_url.proofs.cuts.around.Goals as goal

pub returns-clause-parts : goal.returns-clause-parts
returns-clause-parts c = parts_of _ _ _ (split_parts c.args.mark c.args.text.now c.split_once.result c.split_once.ensures.cases c.requires)

pub returns-clause-before : goal.returns-clause-before
returns-clause-before c = before_first_mark _ _ _
    (split_parts c.args.mark c.args.text.now c.split_once.result c.split_once.ensures.cases c.requires)

pub returns-clause-none : goal.returns-clause-none
returns-clause-none c = no_mark _ _ _ (split_parts c.args.mark c.args.text.now c.split_once.result c.split_once.ensures.cases c.requires)
