use Rattle.std.proofs.Common.{◌+◌, ◌≤◌, ◌++◌, nat_eq, List, ℕ, length, take, drop, sym, ap, ◌∙◌, subst}
use Rattle.verity_check.proofs.CacheLemmas.{same_number, cached_from_lookup, cached_before_get}
use Rattle.verity_check.proofs.data_cache.append_part.Goals as goal

pub append_slice-requires-clause-within : goal.append_slice-requires-clause-within
append_slice-requires-clause-within g c =
    subst (λ (b : List ℕ). c.args.skip + c.args.len ≤ length b) (sym c.deref.ensures.value)
    (c.requires.whole c.in-Some.block.now.items
    (cached_from_lookup nat_eq same_number c.args.cache.now c.args.n c.in-Some.block.now (sym c.in-Some.ensures.value)))

pub returns-in-Some-clause-found : goal.returns-in-Some-clause-found
returns-in-Some-clause-found g c = λ _. (
  c.in-Some.block.now.items,
  cached_from_lookup nat_eq same_number c.args.cache.now c.args.n c.in-Some.block.now (sym c.in-Some.ensures.value),
  c.append_slice.ensures ∙ ap (λ b. c.args.out.now.items ++ take c.args.len (drop c.args.skip b)) c.deref.ensures.value,
)

pub returns-in-Some-clause-keeps : goal.returns-in-Some-clause-keeps
returns-in-Some-clause-keeps g c = cached_before_get nat_eq same_number c.args.cache.now c.get.follows.lender-at-none c.args.n
    c.get.follows.holds-at-none

pub returns-in-None-clause-keeps : goal.returns-in-None-clause-keeps
returns-in-None-clause-keeps g c = cached_before_get nat_eq same_number c.args.cache.now c.get.follows.lender-at-none c.args.n
    c.get.follows.holds-at-none
