use Rattle.std.proofs.Common.{◌≡◌, ℕ, ◌+◌, ◌*◌, ◌<◌, ◌≤◌, ◌++◌, List, [], inl, inr, length, take, drop, get_or, ap}
use Rattle.std.proofs.Common.{◌∙◌, sym, subst, arith}
use Rattle.std.proofs.lemmas.List.{length-take-le, length-append, length-drop, get_or-take}
use Rattle.std.proofs.Math.Nat.{mul-le-mul_right}
use Rattle.std.specs.Fork.{slice_chunk}
use Rattle.verity_store.specs.Given.{GaveSince}
use Rattle.verity_chain.specs.Table.{Table, hashing_of}
use Rattle.verity_chain.specs.Chain.{EndsChain}
use Rattle.verity_report.specs.Stores.{given_in}
use Rattle.verity_check.proofs.CacheLemmas.{kept_grows}
use Rattle.verity_check.proofs.RunLemmas.{chunk_front}
use Rattle.verity_check.proofs.WalkLemmas.{given_in-grows}
use Rattle.verity_check.proofs.WarmLemmas.{ends_here}
use Rattle.verity_check.proofs.warm.warm_blocks.Goals as goal

pub returns-clause-kept : goal.returns-clause-kept
returns-clause-kept g c = λ m b kept.
    let D = g.D.BlockStore in
    let H = g.H.BlockStore in
    let t = c.args.tree.now in
    let marks = c.args.since.now in
    let named : ℕ = c.name_each-named.result in
    let read : ℕ = c.read_each-read.result in
    let ahead = c.read_each-read.ensures in
    let d = c.read_each-read.new.store in
    let h = c.name_each-named.new.hash_store in
    let z : ℕ = t.data_block_size in
    let s : ℕ = c.data_block_size-size.result in
    let size : c.data_block_size-size.result ≡ t.data_block_size = c.data_block_size-size.ensures.value
    ∙ ap (λ (x : Table). x.data_block_size) c.table.ensures.value in
    let numbers : List ℕ = c.args.numbers.now in
    let part : List ℕ = c.read_each-read.new.out in
    let rest : List ℕ = drop (named * s) c.args.run.now in
    let out : List ℕ = part ++ rest in
    let fits : named * s ≤ length c.args.run.now =
    omega (arith, c.requires.room, size, mul-le-mul_right z c.name_each-named.ensures.most, ap (λ k. named * k) size) in
    let long : length part ≡ named * s = c.read_each-read.auto.out ∙ length-take-le (named * s) c.args.run.now fits in
    let few : length (take named numbers) ≡ named = length-take-le named numbers c.name_each-named.ensures.most in
    let most : read ≤ named = subst (λ k. read ≤ k) few ahead.most in
    let digests = c.digest_first.new.out in
    let low : c.read_each-read.result ≤ 8 = omega (arith, most, c.name_each-named.ensures.most, c.requires.few) in
    let made : length (take c.read_each-read.result digests) ≡ read = length-take-le c.read_each-read.result digests
    (let eight : length digests ≡ 8 = c.digest_first.auto.out in omega (arith, low, eight)) in
    let wide : read * s ≤ length out = omega (arith, long, mul-le-mul_right s most, length-append part rest) in
    elim (c.keep_each.ensures.kept m b kept) [
      | inl old ↦ kept_grows t (given_in D H t marks c.args.data_store.now c.args.hash_store.now) (given_in D H t marks d h)
          (given_in-grows D H t marks c.args.data_store.now d c.args.hash_store.now h ahead.read c.name_each-named.ensures.keeps)
          c.args.data_cache.now c.args.data_cache.now (λ _ _ x. x) c.requires.kept m b old
      | inr at ↦
          let j : ℕ = at.0 in
          let lt : j < read = omega (arith, at.1, made) in
          let chunk : List ℕ = slice_chunk out s j in
          let front : slice_chunk part s j ≡ chunk = chunk_front part rest s j named (omega (arith, lt, most)) long in
          let number : get_or (take named numbers) j 0 ≡ get_or numbers j 0 = get_or-take named numbers j 0 (omega (arith, lt, most)) in
          let next : (j + 1) * s ≤ read * s = mul-le-mul_right s (omega (arith, lt)) in
          let len : length chunk ≡ z = length-take-le s (drop (j * s) out)
          (omega (arith, wide, next, length-drop (j * s) out)) ∙ size in
          let digest : (hashing_of t).digest chunk ≡ get_or c.name_each-named.new.names j [] =
          sym (get_or-take read digests j [] lt ∙ c.digest_first.ensures.digests j lt
          ∙ ap (λ tr. (hashing_of tr).digest chunk) c.name_each-named.ensures.same) ∙ at.2 in
          let ends : EndsChain t (given_in D H t marks d h) 0 (get_or numbers j 0) chunk =
          ends_here D H t marks c.args.data_store.now d h (get_or numbers j 0) chunk (get_or c.name_each-named.new.names j []) ahead.read
          c.requires.data_store.size len
          (subst (λ i. GaveSince (D.given d) marks.of_data i chunk) number
          (subst (λ x. GaveSince (D.given d) marks.of_data (get_or (take named numbers) j 0) x) front
          (ahead.given marks.of_data c.requires.data_since j lt)))
          (λ told. ap (λ i. get_or (D.content c.args.data_store.now) i []) (sym number) ∙ ahead.right told j lt ∙ front)
          (c.name_each-named.ensures.named j (omega (arith, lt, most))) digest in
          subst (λ i. EndsChain t (given_in D H t marks d h) 0 i b) (sym at.3)
          (subst (λ x. EndsChain t (given_in D H t marks d h) 0 (get_or numbers j 0) x) (sym at.4) ends)
    ]
