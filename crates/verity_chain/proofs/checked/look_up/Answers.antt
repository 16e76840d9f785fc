use Rattle.std.proofs.Common.{◌≡◌, [], List, length, sym, ap, ◌∙◌}
use Rattle.std.proofs.lemmas.List.{get_or_default}
use Rattle.verity_chain.specs.Notes.{Note, note_at}
use Rattle.verity_chain.proofs.NoteLemmas.{note_here}
use Rattle.verity_chain.proofs.checked.look_up.Goals as goal

pub copy_from_slice-requires : goal.copy_from_slice-requires
copy_from_slice-requires g c =
    let tree = c.args.tree.now in
    let notes : List Note = c.fetch.new.notes.items in
    let r = c.in_ok-c.ensures in
    let here = note_here tree notes c.in_ok-c.c c.locate-level.result.0 c.locate-level.result.1 r.checked
    c.locate-level.ensures.level c.locate-level.ensures.index r.found in
    let is : c.block.result.now ≡ (note_at notes c.in_ok-c.c).block =
    c.block.ensures ∙ ap (λ n. n.block) (c.index.ensures ∙ get_or_default notes c.in_ok-c.c c.index.result.now
    (record { number = 0; block = [] }) r.found.0) in
    c.fetch.auto.block ∙ c.requires.sized ∙ sym (ap length is ∙ here.0.sized)

pub returns-in_err-c-clause-within : goal.returns-in_err-c-clause-within
returns-in_err-c-clause-within g c = λ set upward asks.
    let at = c.locate-level.ensures in
    c.fetch.ensures.within set upward (asks c.locate-level.result.0 c.locate-level.result.1 at.level at.index at.value)

pub returns-clause-within : goal.returns-clause-within
returns-clause-within g c = λ set upward asks.
    let at = c.locate-level.ensures in
    c.fetch.ensures.within set upward (asks c.locate-level.result.0 c.locate-level.result.1 at.level at.index at.value)

pub returns-in_err-c-clause-apart : goal.returns-in_err-c-clause-apart
returns-in_err-c-clause-apart g c = c.fetch.ensures.apart c.requires.apart

pub returns-clause-apart : goal.returns-clause-apart
returns-clause-apart g c = c.fetch.ensures.apart c.requires.apart
