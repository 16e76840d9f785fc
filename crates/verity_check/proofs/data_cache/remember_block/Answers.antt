use Rattle.std.proofs.Common.{◌≡◌, ◌⊎◌, sym, subst}
use Rattle.verity_check.specs.Cache.{IsKept}
use Rattle.verity_check.proofs.data_cache.remember_block.Goals as goal

pub returns-in-Some : goal.returns-in-Some
returns-in-Some g c = λ m b cached.
    subst (λ d. IsKept d m b ⊎ ((m ≡ c.args.n) × (b ≡ c.args.block.now))) (sym c.in-Some.is) (c.put_block.ensures m b cached)
