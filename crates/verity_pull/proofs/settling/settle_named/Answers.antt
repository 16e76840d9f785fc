use Rattle.std.proofs.Common.{◌≡◌, ◌+◌, ◌<◌, ◌≤◌, suc, ℕ, inl, inr, [], length, get_or, refl, sym, ap, subst, ◌∙◌, arith}
use Rattle.verity_chain.specs.Table.{Table}
use Rattle.verity_chain.proofs.ChainLemmas.{same_here}
use Rattle.verity_profile.proofs.Bounds.{block_count_high}
use Rattle.verity_pull.specs.Walk.{IsName}
use Rattle.verity_pull.specs.Over.{rooted, IsOldName}
use Rattle.verity_pull.proofs.StepLemmas.{err_back, err_here, wrong_weaker}
use Rattle.verity_pull.proofs.TakeLemmas.{taken_fetched}
use Rattle.verity_pull.proofs.SettleLemmas.{parent_one, above_same, stood_rows, stood_path, taken_by, mixed_by, wrong_by, kept_one}
use Rattle.verity_pull.proofs.settling.settle_named.Goals as goal

pub returns-then-are_same-clause-taken : goal.returns-then-are_same-clause-taken
returns-then-are_same-clause-taken g c = λ local_mark source_mark marked.
    inr (
      subst (λ d. IsName c.args.tree.now 0 c.args.n c.args.rows.now d) (sym
          (same_here c.are_same.result _ c.are_same.ensures c.if-are_same.true))
          c.name_of-named.ensures,
      refl,
    )

pub returns-clause-taken : goal.returns-clause-taken
returns-clause-taken g c = λ local_mark source_mark marked.
    let e = c.in_ok-fetch.ensures in
    inl (taken_fetched g.L.BlockStore g.S.BlockStore c.args.tree.now local_mark source_mark c.args.local.now c.fetch.new.local
    c.fetch.new.source c.args.rows.now c.args.n c.fetch.new.block c.name_of-named.result c.name_of-named.ensures
    (e.came source_mark marked) e.digest e.written e.stays.local_keeps.tells (omega (arith, c.requires.within, c.requires.there)))

pub returns-in_err-fetch-clause-wrong : goal.returns-in_err-fetch-clause-wrong
returns-in_err-fetch-clause-wrong g c =
    let back = err_back c.from_residual.result c.in_err-fetch.field-0.0 c.from_residual.ensures.1 in
    err_here c.from_residual.result c.in_err-fetch.field-0.0 _ back
    (wrong_weaker c.in_err-fetch.field-0.0 _ _ (λ here w mark marked. record {
      m = c.args.n;
      is = w.0;
      from = omega arith;
      upto = omega arith;
      wrong = record {
        y = c.fetch.new.block;
        digest = c.name_of-named.result;
        came = w.1 mark marked;
        name = c.name_of-named.ensures;
        differs = w.2;
      };
    }) c.in_err-fetch.ensures.wrong)
