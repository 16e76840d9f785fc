-- How closing an open block changes the open blocks of a tree.
use Rattle.std.proofs.Common.{◌≡◌, ◌≢◌, ℕ, suc, ◌+◌, ◌<◌, List, [], ◌∷◌, ◌++◌, length, set, sym, ap, ◌∙◌, arith}
use Rattle.std.specs.Prelude.{Option, Some}
use Rattle.std.proofs.Math.Numerals.{add-one}
use Rattle.std.proofs.lemmas.List.{get_or-set_same, get_or-set_other, length-set}
use Rattle.verity_digest.specs.Tree.{Hashing, hash_block}
use Rattle.verity_tree.specs.Open.{Open}
use Rattle.verity_tree.specs.Climb.{open_at, nothing_open, Comes, Closes}

-- the level's next block is opened, and then the digest comes to the next level
pub closes_by : (h : Hashing) (level : ℕ) (old new : List Open) (next : Open) (digest : List ℕ) (old_root new_root : Option (List ℕ))
    → level < length old
    → next ≡ record (open_at old level) { digests = []; index = (open_at old level).index + 1 }
    → digest ≡ h.digest (hash_block h (open_at old level).digests)
    → Comes (level + 1) digest (set old level next) new old_root new_root
    → Closes h level old new old_root new_root
closes_by h level old new next digest old_root new_root there opened is comes =
    let mid : List Open = set old level next in
    let len : length mid ≡ length old = length-set old level next in
    let at : level + 1 ≡ suc level = add-one level in
    let apart : level ≢ level + 1 = λ e. absurd (omega arith) in
    let other : level + 1 ≢ level = λ e. absurd (omega arith) in
    let up : open_at mid (level + 1) ≡ open_at old (level + 1) = get_or-set_other old level (level + 1) next nothing_open other in
    record {
      len = comes.len ∙ len;
      here = comes.others level apart ∙ get_or-set_same old level next nothing_open there ∙ opened;
      above = λ below.
          ap (λ l. open_at new l) (sym at)
          ∙ comes.here (omega arith)
          ∙ ap {A = Open} {B = Open} (λ o. record o { digests = o.digests ++ digest ∷ [] }) (up ∙ ap (λ l. open_at old l) at)
          ∙ ap {A = List ℕ} {B = Open} (λ d. record (open_at old (suc level)) { digests = (open_at old (suc level)).digests ++ d ∷ [] }) is;
      others = λ l a b.
          comes.others l (λ e. b (e ∙ at)) ∙ get_or-set_other old level l next nothing_open a;
      kept = λ below. comes.kept (omega arith);
      root = λ top. comes.root (omega arith) ∙ ap (λ d. Some d) is;
    }
