-- What making a store longer leaves.
use Rattle.std.proofs.Common.{◌≡◌, ◌≢◌, ℕ, ◌+◌, ◌<◌, ◌≤◌, max, List, [], length, get_or, refl, sym, ap, ◌∙◌, subst, arith}
use Rattle.verity_store.specs.Blocks.{resized, ResizedToward}
use Rattle.verity_store.specs.Given.{GoesOn}
use Rattle.verity_store.specs.Stores.{IsLater}
use Rattle.verity_store.specs.declared.store.BlockStore as store
use Rattle.verity_store.specs.declared.fault.StoreFault.{StoreFault}
use Rattle.verity_store.specs.declared.fault.StoreFault.TheVariants.{Device, Ragged, NoMemory, BlockSize}
use Rattle.verity_build.proofs.Finishes.{length-resized, get_or-resized_old}

pub later_cut : {S : Type 0} (facts : store.Ghosts S) (old new : S) → facts.tells new ≡ facts.tells old → facts.size new ≡ facts.size old
    → facts.fixed new ≡ facts.fixed old → GoesOn (facts.given old) (facts.given new) → facts.failures old ≤ facts.failures new
    → facts.reads new ≡ facts.reads old → facts.changes new ≡ facts.changes old + 1 → facts.room old ≤ facts.room new
    → IsLater facts old new
later_cut facts old new tells size fixed gave failures reads changes room = record {
  tells = tells;
  size = size;
  fixed = fixed;
  gave = gave;
  failures = failures;
  reads = omega (arith, reads);
  changes = omega (arith, changes);
  room = room;
}

-- where there is room, it fails by a failure of the device
pub cut_failed : {room blocks : ℕ} (fault : StoreFault) (failed : Type 0)
    → (fault ≢ Device → (fault ≡ NoMemory) × (room < blocks)) → (fault ≡ Device → failed) → blocks ≤ room → failed
cut_failed Device failed why by_device there = by_device refl
cut_failed NoMemory failed why by_device there = absurd (omega (arith, (why (λ is. cc)).1))
cut_failed Ragged failed why by_device there = absurd (omega (arith, (why (λ is. cc)).1))
cut_failed BlockSize failed why by_device there = absurd (omega (arith, (why (λ is. cc)).1))

-- a store that is made longer, or was to be, is no shorter, and what was there stays
pub toward_longer : (size count : ℕ) (old new : List (List ℕ)) → length old ≤ count → ResizedToward size count old new
    → length old ≤ length new
toward_longer size count old new longer toward =
    omega (arith, longer, toward.1, ap length toward.3, length-resized size toward.0 old)

pub toward_kept : (size count : ℕ) (old new : List (List ℕ)) (q : ℕ) → length old ≤ count → ResizedToward size count old new
    → q < length old → get_or new q [] ≡ get_or old q []
toward_kept size count old new q longer toward inside =
    ap (λ c. get_or c q []) toward.3 ∙ get_or-resized_old size toward.0 old q (omega (arith, inside, longer, toward.1)) inside
