-- The hash device of an image is whole blocks.
use Rattle.std.proofs.Common.{◌≡◌, ℕ, zero, suc, ◌+◌, ◌<◌, ◌≤◌, List, [], ◌∷◌, ◌++◌, length, take, drop, replicate, refl, sym, ap}
use Rattle.std.proofs.Common.{◌∙◌, arith}
use Rattle.std.specs.Prelude.{slice_index_or, All}
use Rattle.std.specs.List.{concat}
use Rattle.std.proofs.lemmas.List.{length-append, take_at, drop_at}
use Rattle.std.proofs.Math.Seq.{drop-append-add}
use Rattle.std.proofs.lemmas.List.Folds.{concat-append}
use Rattle.std.proofs.lemmas.List.Elements.{All-nil, All-cons, All-head, All-tail, All-append}
use Rattle.verity_digest.specs.Hash.{hashing}
use Rattle.verity_digest.proofs.Sha.{IsHashing-hashing}
use Rattle.verity_digest.proofs.Sized.{AllSized-tree}
use Rattle.verity_profile.specs.Profile.{AllSized}
use Rattle.verity_profile.proofs.Bounds.{block_size_low}
use Rattle.verity_superblock.specs.Superblock.{Params, IsProfile, salted, superblock}
use Rattle.verity_superblock.specs.Image.{hash_image, hash_blocks, superblock_block, tree_of}
use Rattle.verity_superblock.specs.Laws.{IsInBlocks}
use Rattle.verity_superblock.proofs.Fields.{length-superblock, length-zero_filled}

abbrev Sized : ℕ → List ℕ → Type 0
Sized size block = length block ≡ size

-- blocks of one size, some bytes each, are known by what they make joined
same_blocks : (size : ℕ) (xs ys : List (List ℕ)) → 0 < size → AllSized size xs → AllSized size ys → concat xs ≡ concat ys → xs ≡ ys
same_blocks size [] [] some hx hy e = refl
same_blocks size [] (y ∷ ys) some hx hy e =
    let len : length y ≡ size = All-head (Sized size) y ys hy in
    absurd (omega (arith, ap length e, length-append y (concat ys)))
same_blocks size (x ∷ xs) [] some hx hy e =
    let len : length x ≡ size = All-head (Sized size) x xs hx in
    absurd (omega (arith, ap length e, length-append x (concat xs)))
same_blocks size (x ∷ xs) (y ∷ ys) some hx hy e =
    let x_len : length x ≡ size = All-head (Sized size) x xs hx in
    let y_len : length y ≡ size = All-head (Sized size) y ys hy in
    let heads : x ≡ y = sym (take_at x (concat xs) size x_len) ∙ ap (λ t. take size t) e ∙ take_at y (concat ys) size y_len in
    let tails : concat xs ≡ concat ys = sym (drop_at x (concat xs) size x_len) ∙ ap (λ t. drop size t) e
    ∙ drop_at y (concat ys) size y_len in
    ap (λ b. b ∷ xs) heads ∙ ap (λ t. y ∷ t) (same_blocks size xs ys some (All-tail (Sized size) x xs hx)
    (All-tail (Sized size) y ys hy) tails)

at_front : (front rest : List (List ℕ)) (block : List ℕ) → slice_index_or (front ++ (block ∷ rest)) (length front) [] ≡ block
at_front [] rest block = refl
at_front (f ∷ front) rest block = at_front front rest block

behind_front : (front rest : List (List ℕ)) (block : List ℕ) → drop (length front + 1) (front ++ (block ∷ rest)) ≡ rest
behind_front front rest block = drop-append-add front (block ∷ rest) 1

pub in_blocks : (p : Params) (image front : List (List ℕ)) → IsProfile p (length image) → AllSized p.hash_block_size front →
    IsInBlocks p image front
in_blocks p image front ok sized_front =
    let low : 512 ≤ p.hash_block_size = block_size_low p.hash_block_size ok.hash_size in
    let size : length (superblock p (length image)) ≡ 512 = length-superblock p (length image) ok in
    let block_sized : length (superblock_block p (length image)) ≡ p.hash_block_size =
    length-zero_filled p.hash_block_size (superblock p (length image)) (omega arith) in
    let tree_sized : AllSized p.hash_block_size (tree_of p image) =
    AllSized-tree (hashing (salted p) p.hash_block_size) image (IsHashing-hashing (salted p) p.hash_block_size low) in
    let joins = concat-append front (superblock_block p (length image) ∷ tree_of p image) in
    let sized : AllSized p.hash_block_size (hash_blocks p image front) =
    All-append (Sized p.hash_block_size) front (superblock_block p (length image) ∷ tree_of p image) sized_front
    (All-cons (Sized p.hash_block_size) (superblock_block p (length image)) (tree_of p image) block_sized tree_sized) in
    record {
      joins = joins;
      sized = sized;
      only = λ content all e. same_blocks p.hash_block_size content (hash_blocks p image front) (omega arith) all sized (e ∙ sym joins);
      superblock = at_front front (tree_of p image) (superblock_block p (length image));
      tree = behind_front front (tree_of p image) (superblock_block p (length image));
    }
