-- What a pull has done.
use Rattle.std.proofs.Common.{zero, suc, ℕ, ◌+◌, ◌≤◌, ◌≡◌, List, length, refl, arith}
use Rattle.std.proofs.lemmas.List.{length-set}
use Rattle.verity_store.specs.Blocks.{resized}
use Rattle.verity_pull.specs.Pull.{laid}
use Rattle.verity_pull.proofs.LayLemmas.{length-resized}

laid_len : (start : ℕ) (superblock : List ℕ) (content : List (List ℕ)) → length (laid start superblock content) ≡ length content
laid_len zero superblock content = refl
laid_len (suc start) superblock content = length-set content start superblock

-- what stands in front of the tree stands in what is laid
pub front_room : (start size tree : ℕ) (superblock : List ℕ) (content : List (List ℕ))
    → start ≤ length (laid start superblock (resized size (start + tree) content))
front_room start size tree superblock content =
    omega (arith, laid_len start superblock (resized size (start + tree) content), length-resized size (start + tree) content)
