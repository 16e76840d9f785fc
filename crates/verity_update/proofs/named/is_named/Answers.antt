use Rattle.std.proofs.Common.{sym, ap, ◌∙◌}
use Rattle.std.proofs.lemmas.Bool.{true≢false}
use Rattle.verity_chain.specs.Table.{Table, hashing_of}
use Rattle.verity_update.proofs.named.is_named.Goals as goal

pub returns-clause-other : goal.returns-clause-other
returns-clause-other g c = λ no low. record {
  named = c.in_ok-named.named;
  names = c.in_ok-named.ensures.names;
  other = λ same. absurd (true≢false (sym (c.matches.ensures.value.1
      (ap (λ (t : Table). (hashing_of t).digest c.args.bytes.now) c.in_ok-named.ensures.same ∙ sym same)) ∙ no));
}
