use Rattle.std.proofs.Common.{◌≡◌, sym, subst, ◌∙◌, ◌++◌, ◌∷◌, [], ℕ, List, true, false}
use Rattle.verity_superblock.specs.Line.{Line, canonical}
use Rattle.verity_line_file.proofs.Settling.{fed, not_fed}
use Rattle.verity_line_file.specs.Lines.{HoldsWhole, is_one_line}
use Rattle.verity_line_file.proofs.text.text_for.Goals as goal

pub returns-clause-holds : goal.returns-clause-holds
returns-clause-holds c =
    let t = c.args.table.now in
    let line : List ℕ = c.as_bytes-2.result.now in
    let same : line ≡ canonical t = c.as_bytes-2.ensures.value ∙ (c.as_str-line.ensures.value ∙ c.in_ok-text.ensures.text) in
    let first : c.as_bytes.result.now ≡ line = c.as_bytes.ensures.value ∙ sym c.as_bytes-2.ensures.value in
    let one : is_one_line line ≡ true = subst (λ (l : List ℕ). is_one_line l ≡ true) first (sym c.if-not-is_line.ensures) in
    subst (λ (l : List ℕ). HoldsWhole l t) (sym c.in-Ok.ensures)
    (fed line t one c.as_bytes-2.ensures.utf8 (subst (λ (l : List ℕ). Line l t) (sym same) (c.spells_back.ensures t c.facts.ensures)))

pub returns-then-not-is_line-clause-refused : goal.returns-then-not-is_line-clause-refused
returns-then-not-is_line-clause-refused c =
    let t = c.args.table.now in
    let same : c.as_bytes.result.now ≡ canonical t = c.as_bytes.ensures.value ∙ (c.as_str-line.ensures.value ∙ c.in_ok-text.ensures.text) in
    λ _ one. not_fed (canonical t) (subst (λ (l : List ℕ). false ≡ is_one_line l) same c.if-not-is_line.ensures) one
