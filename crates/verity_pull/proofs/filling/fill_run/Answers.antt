use Rattle.std.proofs.Common.{◌≡◌, ℕ, ◌+◌, ◌<◌, List, [], inl, inr, length, take, get_or, sym, subst, ◌∙◌, arith}
use Rattle.std.proofs.lemmas.Bool.{cases_lt}
use Rattle.std.proofs.lemmas.List.{length-take-le, get_or-take}
use Rattle.verity_pull.specs.Walk.{IsName}
use Rattle.verity_pull.proofs.StepLemmas.{err_back, err_here, wrong_weaker}
use Rattle.verity_pull.proofs.TakeLemmas.{taken_zeros}
use Rattle.verity_pull.proofs.RunLemmas.{wrong_wider}
use Rattle.verity_pull.proofs.filling.fill_run.Goals as goal

pub returns-then-blank-gt0-clause-taken : goal.returns-then-blank-gt0-clause-taken
returns-then-blank-gt0-clause-taken g c = λ rows local_mark source_mark marked named j lt.
    let low : j < length c.args.names.now = omega (arith, lt, c.zeros_ahead-blank.ensures.most) in
    taken_zeros g.L.BlockStore g.S.BlockStore c.args.tree.now local_mark source_mark c.args.local.now c.args.source.now rows (c.args.n + j)
    (get_or c.args.names.now j []) (named j low) (c.zeros_ahead-blank.ensures.same j lt ∙ c.requires.zeros) (c.requires.blank j low)

pub returns-clause-taken : goal.returns-clause-taken
returns-clause-taken g c = λ rows local_mark source_mark marked named j lt.
    let e = c.in_ok-fetch_run.ensures in
    let filled : ℕ = c.others_ahead-filled.result in
    let names : List (List ℕ) = c.args.names.now in
    let low : j < length c.args.names.now = omega (arith, lt, c.others_ahead-filled.ensures.most) in
    let len : length (take c.others_ahead-filled.result c.args.names.now) ≡ c.others_ahead-filled.result =
    length-take-le filled names c.others_ahead-filled.ensures.most in
    let under : j < length (take c.others_ahead-filled.result c.args.names.now) = omega (arith, lt, len) in
    let same = e.digests j under ∙ get_or-take filled names j [] lt in
    record {
      y = _;
      came = inl (inr (e.came source_mark marked j under));
      name = record { top = λ x. same ∙ (named j low).top x; under = λ x. same ∙ (named j low).under x };
      held = λ told. e.written (sym e.stays.local_keeps.tells ∙ told) j under;
    }

pub returns-in_err-fetch_run-clause-wrong : goal.returns-in_err-fetch_run-clause-wrong
returns-in_err-fetch_run-clause-wrong g c =
    let S = g.S.BlockStore in
    let t = c.args.tree.now in
    let n : ℕ = c.args.n in
    let s' = c.fetch_run.new.source in
    let filled : ℕ = c.others_ahead-filled.result in
    let names : List (List ℕ) = c.args.names.now in
    let most = c.others_ahead-filled.ensures.most in
    let len : length (take c.others_ahead-filled.result c.args.names.now) ≡ c.others_ahead-filled.result = length-take-le filled
    names most in
    let back = err_back c.from_residual.result c.in_err-fetch_run.field-0.0 c.from_residual.ensures.1 in
    err_here c.from_residual.result c.in_err-fetch_run.field-0.0 _ back
    (wrong_weaker c.in_err-fetch_run.field-0.0 _ _ (λ here w mark marked rows named.
    wrong_wider S t mark s' rows n (length (take filled names)) n (length names) here (omega arith) (omega (arith, len, most))
    (w mark marked rows (λ j lt.
    let low : j < c.others_ahead-filled.result = omega (arith, lt, len) in
    subst (λ d. IsName t 0 (n + j) rows d) (sym (get_or-take filled names j [] low)) (named j (omega (arith, low, most))))))
    c.in_err-fetch_run.ensures.wrong)

pub returns-clause-some : goal.returns-clause-some
returns-clause-some g c = elim (cases_lt 0 c.others_ahead-filled.result) [
  | inl some ↦ some
  | inr none ↦
      let names : List (List ℕ) = c.args.names.now in
      let zeros : List ℕ = c.args.zeros.now in
      let z : c.others_ahead-filled.result ≡ 0 = omega (arith, none) in
      let b : c.zeros_ahead-blank.result ≡ 0 = omega (arith, c.if-blank-gt0.false) in
      let same = c.others_ahead-filled.ensures.same (omega (arith, z, c.requires.some)) in
      absurd (c.zeros_ahead-blank.ensures.differs (omega (arith, b, c.requires.some))
      (subst (λ m. get_or names m [] ≡ zeros) (z ∙ sym b) same))
]

pub returns-clause-spared : goal.returns-clause-spared
returns-clause-spared g c = λ same.
    let names : List (List ℕ) = c.args.names.now in
    let zeros : List ℕ = c.args.zeros.now in
    let b : c.zeros_ahead-blank.result ≡ 0 = omega (arith, c.if-blank-gt0.false) in
    absurd (c.zeros_ahead-blank.ensures.differs (omega (arith, b, c.requires.some))
    (subst (λ m. get_or names m [] ≡ zeros) (sym b) same))

pub returns-in_err-fetch_run-clause-spared : goal.returns-in_err-fetch_run-clause-spared
returns-in_err-fetch_run-clause-spared g c = λ same.
    let names : List (List ℕ) = c.args.names.now in
    let zeros : List ℕ = c.args.zeros.now in
    let b : c.zeros_ahead-blank.result ≡ 0 = omega (arith, c.if-blank-gt0.false) in
    absurd (c.zeros_ahead-blank.ensures.differs (omega (arith, b, c.requires.some))
    (subst (λ m. get_or names m [] ≡ zeros) (sym b) same))
