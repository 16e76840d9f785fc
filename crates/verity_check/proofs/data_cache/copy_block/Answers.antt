use Rattle.std.proofs.Common.{nat_eq, length, sym, ap, ◌∙◌, subst}
use Rattle.verity_check.specs.Cache.{IsCached}
use Rattle.verity_check.proofs.CacheLemmas.{same_number, number_passes, cached_from_lookup, cached_before_get, uncached_from_lookup}
use Rattle.verity_check.proofs.data_cache.copy_block.Goals as goal

pub copy_from_slice-requires : goal.copy_from_slice-requires
copy_from_slice-requires g c =
    sym (ap length c.deref.ensures.value ∙ c.requires c.in-Some.block.now.items
    (cached_from_lookup nat_eq same_number c.args.cache.now c.args.n c.in-Some.block.now (sym c.in-Some.ensures.value)))

pub returns-in-Some-clause-found : goal.returns-in-Some-clause-found
returns-in-Some-clause-found g c = λ _.
    subst (λ b. IsCached c.args.cache.now c.args.n b) (sym (c.copy_from_slice.ensures.after ∙ c.deref.ensures.value))
    (cached_from_lookup nat_eq same_number c.args.cache.now c.args.n c.in-Some.block.now (sym c.in-Some.ensures.value))

pub returns-in-Some-clause-keeps : goal.returns-in-Some-clause-keeps
returns-in-Some-clause-keeps g c = cached_before_get nat_eq same_number c.args.cache.now c.get.follows.lender-at-none c.args.n
    c.get.follows.holds-at-none

pub returns-in-None-clause-missing : goal.returns-in-None-clause-missing
returns-in-None-clause-missing g c = λ _ b cached.
    uncached_from_lookup (nat_eq c.args.n) c.args.cache.now c.args.n b (number_passes c.args.n) (sym c.in-None.ensures.value) cached

pub returns-in-None-clause-keeps : goal.returns-in-None-clause-keeps
returns-in-None-clause-keeps g c = cached_before_get nat_eq same_number c.args.cache.now c.get.follows.lender-at-none c.args.n
    c.get.follows.holds-at-none
