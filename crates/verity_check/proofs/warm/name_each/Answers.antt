use Rattle.std.proofs.Common.{◌≡◌, ℕ, [], inl, inr, get_or, slice_set, sym, ap, ◌∙◌, subst, arith}
use Rattle.std.proofs.lemmas.Bool.{cases_lt}
use Rattle.std.proofs.lemmas.List.{get_or-set_same, get_or-set_other}
use Rattle.std.proofs.Math.Nat.{add-mul}
use Rattle.verity_store.proofs.StoreLemmas.{only_read_then}
use Rattle.verity_chain.specs.Table.{height}
use Rattle.verity_chain.specs.Chain.{Names}
use Rattle.verity_chain.specs.Stores.{hash_given}
use Rattle.verity_check.specs.Cache.{IsChained}
use Rattle.verity_chain.proofs.ChainLemmas.{Names-grows, hash_given-grows}
use Rattle.verity_check.proofs.warm.name_each.Goals as goal

pub name-requires-clause-chained : goal.name-requires-clause-chained
name-requires-clause-chained g c =
    let H = g.H.BlockStore in
    subst (λ tr. IsChained tr (hash_given H tr c.args.since.now.of_hash c.each.hash_store) c.each.cache) (sym c.each.invariant.same)
    c.each.invariant.chained

pub returns-in-Err-clause-chained : goal.returns-in-Err-clause-chained
returns-in-Err-clause-chained g c =
    let H = g.H.BlockStore in
    subst (λ tr. IsChained tr (hash_given H tr c.args.since.now.of_hash c.name.new.hash_store) c.name.new.cache) c.each.invariant.same
    c.in-Err.ensures.chained

pub returns-in-Err-clause-named : goal.returns-in-Err-clause-named
returns-in-Err-clause-named g c = λ k lt.
    let H = g.H.BlockStore in
    let t = c.args.tree.now in
    let mark : ℕ = c.args.since.now.of_hash in
    Names-grows t (hash_given H t mark c.each.hash_store) (hash_given H t mark c.name.new.hash_store)
    (hash_given-grows H t mark c.each.hash_store c.name.new.hash_store c.in-Err.ensures.keeps) 0 (get_or c.args.numbers.now k 0)
    (get_or c.each.names k []) (c.each.invariant.named k lt)

pub each-preserved : goal.each-preserved
each-preserved g c =
    let H = g.H.BlockStore in
    let t = c.args.tree.now in
    let mark : ℕ = c.args.since.now.of_hash in
    let inv = c.each.invariant in
    let e = c.in-Ok.ensures in
    let new = hash_given H t mark c.name.new.hash_store in
    let names = slice_set c.each.names c.each.j c.in-Ok.digest in
    let here : Names t new 0 (get_or c.args.numbers.now c.each.j 0) c.in-Ok.digest =
    subst (λ tr. Names tr (hash_given H tr mark c.name.new.hash_store) 0 (get_or c.args.numbers.now c.each.j 0) c.in-Ok.digest) inv.same
    e.ok in
    record {
      named = λ k upto. elim (cases_lt k c.each.j) [
        | inl lt ↦
            subst (λ d. Names t new 0 (get_or c.args.numbers.now k 0) d)
            (sym (get_or-set_other c.each.names c.each.j k c.in-Ok.digest [] (λ same. omega (arith, same, lt))))
            (Names-grows t (hash_given H t mark c.each.hash_store) new
            (hash_given-grows H t mark c.each.hash_store c.name.new.hash_store e.keeps) 0 (get_or c.args.numbers.now k 0)
            (get_or c.each.names k []) (inv.named k lt))
        | inr ge ↦
            let at : c.each.j ≡ k = omega (arith, ge, upto) in
            subst (λ i. Names t new 0 (get_or c.args.numbers.now i 0) (get_or names i [])) at
            (subst (λ d. Names t new 0 (get_or c.args.numbers.now c.each.j 0) d)
            (sym (get_or-set_same c.each.names c.each.j c.in-Ok.digest []
            (omega (arith, c.each-test.true, c.each.auto.names, c.requires.room)))) here)
      ];
      chained = subst (λ tr. IsChained tr (hash_given H tr mark c.name.new.hash_store) c.name.new.cache) inv.same e.chained;
      keeps = only_read_then H c.args.hash_store.now c.each.hash_store c.name.new.hash_store inv.keeps e.keeps;
      reads = omega (arith, e.reads, inv.reads, ap height inv.same, add-mul c.each.j 1 (height t));
      same = e.same ∙ inv.same;
      whole = c.name.auto.hash_block ∙ inv.whole;
    }
