use Rattle.std.proofs.Common.{[], length, sym, ap, ◌∙◌, arith}
use Rattle.std.proofs.lemmas.List.{get_or_past}
use Rattle.verity_build.proofs.comparing.holds.Goals as goal

pub returns-then-place-len-clause-same : goal.returns-then-place-len-clause-same
returns-then-place-len-clause-same g c = λ tells. (
  (λ yes. absurd (cc)),
  (λ is.
      let past = get_or_past (g.H.BlockStore.content c.args.hash_store.now) c.args.place []
      (omega (arith, c.len.ensures, c.if-place-len.true)) in
      let none = ap length (sym past ∙ is) in
      absurd (omega arith)),
)
