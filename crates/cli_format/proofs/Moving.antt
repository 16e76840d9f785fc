-- What was made in slices, of more and with the same.
use Rattle.std.proofs.Common.{◌≡◌, ℕ, List, subst}
use Rattle.verity_slice.specs.Slices.{Sliced}
use Rattle.verity_slice.specs.declared.run.Run.{Run}
use Rattle.verity_store.specs.declared.store.BlockStore as store
use Rattle.verity_build.specs.Parameters.{Parameters}
use Rattle.cli_format.specs.Sliced.{IsJoinMade, IsSliceMade}

module _ {D : Type 0} (facts : store.Ghosts D) where
  -- a slice that was made of a store was made of one of which more holds
  pub slice_moved : (lies lies' : D → Type 0) (leaves leaves' : D → D → Type 0) (p p' : Parameters) (offset : ℕ) (slice : Sliced)
      (run : Run) → ((s : D) → lies s → lies' s) → ((s s' : D) → leaves s s' → leaves' s s') → p ≡ p'
      → IsSliceMade facts lies leaves p offset slice run → IsSliceMade facts lies' leaves' p' offset slice run
  slice_moved lies lies' leaves leaves' p p' offset slice run more leaving same m =
      subst (λ q. IsSliceMade facts lies' leaves' q offset slice run) same (record {
        source = m.source;
        source' = m.source';
        target = m.target;
        target' = m.target';
        there = more m.source m.there;
        left = leaving m.target m.target' m.left;
        read = m.read;
        later = m.later;
        made = m.made;
        stored = m.stored;
        given = m.given;
        grows = m.grows;
        synced = m.synced;
      })

  -- and so was a join
  pub join_moved : (lies lies' : D → Type 0) (leaves leaves' : D → D → Type 0) (p p' : Parameters) (offset : ℕ) (runs : List Run)
      (blocks blocks' : ℕ) (digest : List ℕ) → ((s : D) → lies s → lies' s) → ((s s' : D) → leaves s s' → leaves' s s') → p ≡ p'
      → blocks ≡ blocks' → IsJoinMade facts lies leaves p offset runs blocks digest
      → IsJoinMade facts lies' leaves' p' offset runs blocks' digest
  join_moved lies lies' leaves leaves' p p' offset runs blocks blocks' digest more leaving same counted m =
      subst (λ q. IsJoinMade facts lies' leaves' q offset runs blocks' digest) same
      (subst (λ n. IsJoinMade facts lies' leaves' p offset runs n digest) counted (record {
        source = m.source;
        source' = m.source';
        target = m.target;
        target' = m.target';
        there = more m.source m.there;
        left = leaving m.target m.target' m.left;
        read = m.read;
        later = m.later;
        count = m.count;
        covered = m.covered;
        joined = m.joined;
        given = m.given;
        given_single = m.given_single;
        synced = m.synced;
      }))
