use Rattle.std.proofs.Common.{◌≡◌, ℕ, ◌-◌, [], ◌∷◌, ◌++◌, length, get_or, sym, ap, ◌∙◌}
use Rattle.std.proofs.lemmas.List.{map-append}
use Rattle.verity_pending.specs.declared.child.Child.{Child}
use Rattle.verity_pending.specs.Draft.{Draft, edits_of}
use Rattle.verity_pending.specs.Plan.{numbers_of}
use Rattle.verity_pending.proofs.Drafts.{length-working}
use Rattle.verity_plan.proofs.LevelMoves.{on_ok}
use Rattle.verity_plan.proofs.LastLemmas.{keeps_last_edited, cut_last, AreNamed-last}
use Rattle.verity_plan.proofs.last.add_fallen.Goals as goal

pub returns-then-keeps_last-clause-edited : goal.returns-then-keeps_last-clause-edited
returns-then-keeps_last-clause-edited g c = λ image len.
    c.requires.leaves image ∙ keeps_last_edited image c.args.pending.now c.facts.ensures len (sym c.keeps_last.ensures
    ∙ c.if-keeps_last.true)

pub returns-clause-edited : goal.returns-clause-edited
returns-clause-edited g c =
    let d : Draft = c.args.pending.now in
    on_ok c.add_last.result _ _
    (λ a image len.
    let cut = cut_last image d c.facts.ensures len (sym c.keeps_last.ensures ∙ c.if-keeps_last.false) in
    let last : c.args.change.now.new.blocks - 1 ≡ length (edits_of image d).working - 1 =
    ap (λ n. n - 1) (sym (length-working image d ∙ c.requires.working)) in
    let x : Child = record { number = c.args.change.now.new.blocks - 1; digest = a.digest } in
    ap numbers_of a.added
    ∙ map-append (λ child. child.number) c.args.leaves.now.items (x ∷ [])
    ∙ (λ i. c.requires.leaves image i ++ last i ∷ [])
    ∙ cut.numbers)
    c.add_last.ensures.added

pub returns-clause-named : goal.returns-clause-named
returns-clause-named g c =
    let d : Draft = c.args.pending.now in
    on_ok c.add_last.result _ _
    (λ names content shown h image ok block_size digest_size len stands before.
    let count : length image ≡ d.committed = len ∙ sym c.requires.committed in
    let cut = cut_last image d c.facts.ensures count (sym c.keeps_last.ensures ∙ c.if-keeps_last.false) in
    let b : ℕ = c.args.change.now.new.blocks - 1 in
    let last : b ≡ length (edits_of image d).working - 1 = ap (λ n. n - 1) (sym (length-working image d ∙ c.requires.working)) in
    let x : Child = record { number = b; digest = h.digest (get_or image b []) } in
    AreNamed-last (λ n. h.digest (get_or (edits_of image d).working n [])) c.args.leaves.now.items c.add_last.new.leaves.items x
    (names content shown h image ok block_size digest_size len stands)
    (ap h.digest (ap (λ n. get_or image n []) last ∙ sym cut.same ∙ ap (λ n. get_or (edits_of image d).working n []) (sym last)))
    before)
    c.add_last.ensures.named

pub returns-clause-gives : goal.returns-clause-gives
returns-clause-gives g c = c.add_last.ensures.gives
