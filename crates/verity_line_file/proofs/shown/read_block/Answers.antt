use Rattle.std.proofs.Common.{◌≡◌, ◌∙◌, ℕ, List, [], ◌++◌, length, take, drop, ap, sym, subst, append-nil, arith}
use Rattle.std.proofs.lemmas.List.{drop_all, take_all}
use Rattle.verity_store.specs.Given.{GaveSince}
use Rattle.verity_store.proofs.GivenLemmas.{since_now}
use Rattle.verity_line_file.proofs.shown.read_block.Goals as goal

pub returns-in-Ok-read-clause-given : goal.returns-in-Ok-read-clause-given
returns-in-Ok-read-clause-given g c =
    let stores = g.S.BlockStore in
    let before : List (ℕ × List ℕ) = stores.given c.args.store.now in
    let out : List ℕ = c.read.new.out in
    let items : List ℕ = c.in-Ok.block.items in
    let count : ℕ = c.in-Ok.block.len in
    let long : length c.read.new.out ≡ length items = c.read.auto.out ∙ ap length c.deref_mut.ensures.value in
    let wide : length c.read.new.out ≡ count = c.read.auto.out ∙ c.deref_mut.ensures.len in
    let whole : take count (out ++ drop (length out) items) ≡ out =
    ap (λ (rest : List ℕ). take count (out ++ rest)) (drop_all (length out) items (omega (arith, long)))
    ∙ (ap (take count) (append-nil out) ∙ take_all count out (omega (arith, wide))) in
    subst (λ block. GaveSince (stores.given c.read.new.self) (length before) c.args.n block) (sym whole)
    (subst (λ log. GaveSince log (length before) c.args.n out) (sym c.in-Ok-read.ensures.given)
    (since_now before (length before) c.args.n out (omega arith)))
