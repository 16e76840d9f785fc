use Rattle.std.proofs.Common.{◌≡◌, ◌<◌, ◌/◌, ◌%◌, sym, subst, ap, ◌∙◌, arith, ℕ, List, []}
use Rattle.std.proofs.lemmas.List.{get_or_default}
use Rattle.verity_digest.specs.Tree.{slot}
use Rattle.verity_chain.specs.Table.{hashing_of, branching, row_len, hash_place}
use Rattle.verity_chain.specs.Chain.{Names}
use Rattle.verity_chain.specs.Notes.{Note, noted, note_at, IsNoteAt}
use Rattle.verity_chain.proofs.TableLaws.{row_len-first}
use Rattle.verity_chain.proofs.ChainLemmas.{names_below}
use Rattle.verity_chain.proofs.NoteLemmas.{note_here}
use Rattle.verity_update.proofs.NameLemmas.{checked_bounded, given_bounded}
use Rattle.verity_update.proofs.named.named_at.Goals as goal

pub parent_of-above-requires-clause-index : goal.parent_of-above-requires-clause-index
parent_of-above-requires-clause-index g c = omega (arith, c.requires.within, row_len-first c.args.tree.now)

pub fetch-requires-clause-checked : goal.fetch-requires-clause-checked
fetch-requires-clause-checked g c =
    checked_bounded c.args.tree.now c.args.notes.now.items c.bound.new.notes.items c.bound.ensures c.requires.checked

pub fetch-requires-clause-given : goal.fetch-requires-clause-given
fetch-requires-clause-given g c =
    given_bounded g.H.BlockStore c.args.since.now.steps c.args.store.now c.args.notes.now.items c.bound.new.notes.items
    c.bound.ensures c.requires.given

pub returns-clause-names : goal.returns-clause-names
returns-clause-names g c =
    let tree = c.args.tree.now in
    let i : ℕ = c.args.n in
    let r = c.in_ok-c.ensures in
    let notes : List Note = c.fetch.new.notes.items in
    let above : c.parent_of-above.result ≡ i / branching tree = c.parent_of-above.ensures.value in
    let found : IsNoteAt notes c.in_ok-c.c (hash_place tree 0 (i / branching tree)) =
    subst (λ j. IsNoteAt notes c.in_ok-c.c (hash_place tree 0 j)) above r.found in
    let inside : i / branching tree < row_len tree 1 =
    subst (λ j. j < row_len tree 1) above c.parent_of-above.ensures.within in
    let here = note_here tree notes c.in_ok-c.c 0 (i / branching tree) r.checked (omega arith) inside found in
    let names = names_below tree (noted tree notes) 0 i (note_at notes c.in_ok-c.c).block here.1 in
    let is : c.block.result.now ≡ (note_at notes c.in_ok-c.c).block =
    c.block.ensures ∙ ap (λ n. n.block) (c.index.ensures ∙ get_or_default notes c.in_ok-c.c c.index.result.now
    (record { number = 0; block = [] }) r.found.0) in
    let j : c.slot_of-slot.result ≡ i % branching tree = c.slot_of-slot.ensures.value ∙ ap (λ tr. i % branching tr) r.same in
    let digest : c.digest_in.result ≡ slot (hashing_of tree) (note_at notes c.in_ok-c.c).block (i % branching tree) =
    c.digest_in.ensures ∙ (λ a. slot (hashing_of (r.same a)) (is a) (j a)) in
    subst (λ d. Names tree (noted tree notes) 0 i d) (sym digest) names
