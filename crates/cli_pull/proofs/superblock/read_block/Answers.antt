use Rattle.std.proofs.Common.{◌≡◌, ◌∙◌, ℕ, List, ◌++◌, length, take, drop, ap, sym, subst, append-nil, arith}
use Rattle.std.proofs.lemmas.List.{drop_all, take_all}
use Rattle.verity_store.specs.Given.{GaveSince}
use Rattle.verity_store.proofs.GivenLemmas.{since_now}
use Rattle.cli_pull.proofs.superblock.read_block.Goals as goal

pub returns-in-Ok-clause-given : goal.returns-in-Ok-clause-given
returns-in-Ok-clause-given g c =
    let stores = g.H.BlockStore in
    let before : List (ℕ × List ℕ) = stores.given c.args.hash_store.now in
    let out : List ℕ = c.read.new.out in
    let items : List ℕ = c.in_ok-block.block.items in
    let count : ℕ = c.in_ok-block.block.len in
    let long : length c.read.new.out ≡ length items = c.read.auto.out ∙ ap length c.deref_mut.ensures.value in
    let wide : length c.read.new.out ≡ count = c.read.auto.out ∙ c.deref_mut.ensures.len in
    let whole : take count (out ++ drop (length out) items) ≡ out =
    ap (λ (rest : List ℕ). take count (out ++ rest)) (drop_all (length out) items (omega (arith, long)))
    ∙ (ap (take count) (append-nil out) ∙ take_all count out (omega (arith, wide))) in
    subst (λ block. GaveSince (stores.given c.read.new.self) (length before) c.args.number block) (sym whole)
    (subst (λ log. GaveSince log (length before) c.args.number out) (sym c.in-Ok.ensures.given)
    (since_now before (length before) c.args.number out (omega arith)))
