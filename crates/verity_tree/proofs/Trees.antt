-- The open blocks of a tree and its levels.
use Rattle.std.proofs.Common.{◌≡◌, ℕ, List, length, ◌∙◌, subst}
use Rattle.std.specs.Prelude.{Option}
use Rattle.verity_digest.specs.Tree.{Hashing}
use Rattle.verity_geometry.specs.Geometry.{levels_of}
use Rattle.verity_tree.specs.Open.{Open}
use Rattle.verity_tree.specs.Climb.{Closes}
use Rattle.verity_tree.specs.Opens.{hashing_of, opens}
use Rattle.verity_tree.specs.declared.open_tree.OpenTree.{OpenTree}
use Rattle.verity_tree.proofs.Comings.{length-opens_from}

pub levels_of_opens : {A : Type 0} → (tree : OpenTree A) → length (opens tree) ≡ levels_of tree.geometry
levels_of_opens tree = length-opens_from (hashing_of tree) tree.waiting.items 0 tree.blocks.items ∙ tree.levels

-- a block is closed, and the open blocks did not change before
pub closes_as : (h h' : Hashing) (level : ℕ) (same old new : List Open) (same_root old_root new_root : Option (List ℕ)) → h' ≡ h
    → same ≡ old → same_root ≡ old_root → Closes h' level same new same_root new_root → Closes h level old new old_root new_root
closes_as h h' level same old new same_root old_root new_root hashes opens root closes =
    subst (λ r. Closes h level old new r new_root) root
    (subst (λ o. Closes h level o new same_root new_root) opens
    (subst (λ x. Closes x level same new same_root new_root) hashes closes))
