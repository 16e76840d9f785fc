use Rattle.std.proofs.Common.{◌≡◌, ◌∙◌, inr, subst, ℕ, List, string_bytes}
use Rattle.std.proofs.lemmas.Result.{on_ok_weaker, IfErr-weaker}
use Rattle.cli_line_file.specs.Apart.{next_of, AreOne, AreTwo, IsBeside}
use Rattle.cli_line_file.proofs.Parting.{not_two}
use Rattle.cli_line_file.proofs.apart.check_apart_from.Goals as goal

pub returns-clause-apart : goal.returns-clause-apart
returns-clause-apart g c =
    let s = c.args.system.now in
    let other = c.args.other.now in
    let own : List ℕ = string_bytes c.in_ok-own.own in
    let first : AreTwo g.S.System s own other =
    subst (λ (p : List ℕ). AreTwo g.S.System s p other) c.deref.ensures c.in_ok-check_two.ensures.two in
    let next : c.deref-2.result.now ≡ next_of own = c.deref-2.ensures ∙ c.in_ok-push_str.ensures.bytes in
    on_ok_weaker c.check_two-2.result
    (λ (second : AreTwo g.S.System s c.deref-2.result.now other).
    (own, c.in_ok-own.ensures.leads, first, subst (λ (p : List ℕ). AreTwo g.S.System s p other) next second)) c.check_two-2.ensures.two

pub returns-clause-refused : goal.returns-clause-refused
returns-clause-refused g c =
    let s = c.args.system.now in
    let other = c.args.other.now in
    let own : List ℕ = string_bytes c.in_ok-own.own in
    let next : c.deref-2.result.now ≡ next_of own = c.deref-2.ensures ∙ c.in_ok-push_str.ensures.bytes in
    IfErr-weaker c.check_two-2.result _ _
    (not_two g.S.System s (AreOne g.S.System s c.deref-2.result.now other) (IsBeside g.S.System s c.args.path.now other)
    (λ (one : AreOne g.S.System s c.deref-2.result.now other).
    (own, c.in_ok-own.ensures.leads, inr (subst (λ (p : List ℕ). AreOne g.S.System s p other) next one)))) c.check_two-2.ensures.refused
