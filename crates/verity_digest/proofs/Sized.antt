-- The size of hash blocks, and what they leave free.
-- For the layers above: `AllSized-row`, `AllSized-tree`, `AllSized-tree_above`, `drop-held` (zeros).
use Rattle.std.proofs.Common.{◌≡◌, ℕ, zero, suc, ◌-◌, ◌*◌, ◌<◌, min, List, [], ◌∷◌, ◌++◌, length, map, drop, replicate, get_or, sym}
use Rattle.std.proofs.Common.{ap, ◌∙◌, subst, arith}
use Rattle.std.specs.Prelude.{All}
use Rattle.std.specs.Fork.{slice_chunk}
use Rattle.std.proofs.lemmas.List.{length-map, length-take, length-drop}
use Rattle.std.proofs.lemmas.List.Elements.{All-nil, All-head, All-tail, All-append, All-same, All-get_or, All-from_get_or}
use Rattle.verity_digest.specs.Tree.{Hashing, per_block, pack, rounds, digests_at, tree, tree_above, IsHashing}
use Rattle.verity_digest.specs.Shape.{row_len, level_len, held}
use Rattle.verity_digest.specs.Rows.{row, block_at}
use Rattle.verity_digest.proofs.Packing.{length-pack, get_or-pack}
use Rattle.verity_digest.proofs.Levels.{digests_at-suc, get_or-rounds}
use Rattle.verity_digest.proofs.Slots.{AreSized, AreSized-run, AreSized-digests, length-hash_block, drop-hash_block}
use Rattle.verity_digest.proofs.Places.{joined_from_last, joined_from_last-append}
use Rattle.verity_digest.proofs.Rows.{length-row, block_at-run}

-- the same by std's word
pub AreSized-All : (size : ℕ) (digests : List (List ℕ)) → All (λ d. length d ≡ size) digests → AreSized size digests
AreSized-All size digests all = record { each = λ i below. All-get_or (λ d. length d ≡ size) digests i [] below all }

pub length-run : {X : Type 0} (xs : List X) (w i : ℕ) → length (slice_chunk xs w i) ≡ min w (length xs - i * w)
length-run xs w i = length-take w (drop (i * w) xs) ∙ ap (λ n. min w n) (length-drop (i * w) xs)

pub AllSized-pack : (h : Hashing) (digests : List (List ℕ)) → AreSized h.digest_size digests →
    All (λ b. length b ≡ h.block_size) (pack h digests)
AllSized-pack h digests sized = All-from_get_or (λ b. length b ≡ h.block_size) (pack h digests) []
    (λ i below.
    let w : ℕ = per_block h in
    let short : length (slice_chunk digests w i) ≡ min w (length digests - i * w) = length-run digests w i in
    ap length (get_or-pack h digests i (rw length-pack at below))
    ∙ length-hash_block h (slice_chunk digests w i) (AreSized-run h.digest_size digests w i sized) (omega arith))

-- each hash block of a row has the block size
pub AllSized-row : (h : Hashing) (image : List (List ℕ)) (r : ℕ) → IsHashing h → All (λ b. length b ≡ h.block_size) (row h image (suc r))
AllSized-row h image r ok = AllSized-pack h (map h.digest (row h image r)) (AreSized-digests h (row h image r) ok)

AreSized-digests_at : (h : Hashing) (digests : List (List ℕ)) (l : ℕ) → IsHashing h → AreSized h.digest_size digests →
    AreSized h.digest_size (digests_at h l digests)
unfolding digests_at
AreSized-digests_at h digests zero ok sized = sized
AreSized-digests_at h digests (suc l) ok sized =
    let P : List (List ℕ) → Type 0 = λ ds. AreSized h.digest_size ds in
    subst P (sym (digests_at-suc h l digests)) (AreSized-digests h (pack h (digests_at h l digests)) ok)

pub All-joined_from_last : (P : List ℕ → Type 0) (levels : List (List (List ℕ))) → All (λ level. All P level) levels →
    All P (joined_from_last levels)
All-joined_from_last P [] all = All-nil P
All-joined_from_last P (x ∷ levels) all =
    All-same P (joined_from_last (x ∷ levels)) (joined_from_last levels ++ (x ++ [])) (joined_from_last-append (x ∷ []) levels)
    (All-append P (joined_from_last levels) (x ++ [])
    (All-joined_from_last P levels (All-tail (λ level. All P level) x levels all))
    (All-append P x [] (All-head (λ level. All P level) x levels all) (All-nil P)))

pub AllSized-rounds : (h : Hashing) (digests : List (List ℕ)) → IsHashing h → AreSized h.digest_size digests
    → All (λ level. All (λ b. length b ≡ h.block_size) level) (rounds h digests)
AllSized-rounds h digests ok sized =
    let P : List ℕ → Type 0 = λ b. length b ≡ h.block_size in
    All-from_get_or (λ level. All P level) (rounds h digests) []
    (λ l below. All-same P (get_or (rounds h digests) l []) (pack h (digests_at h l digests)) (get_or-rounds h l digests ok.branching below)
    (AllSized-pack h (digests_at h l digests) (AreSized-digests_at h digests l ok sized)))

-- each block of the tree above these digests has the block size
pub AllSized-tree_above : (h : Hashing) (digests : List (List ℕ)) → IsHashing h → AreSized h.digest_size digests →
    All (λ b. length b ≡ h.block_size) (tree_above h digests)
AllSized-tree_above h digests ok sized =
    All-joined_from_last (λ b. length b ≡ h.block_size) (rounds h digests) (AllSized-rounds h digests ok sized)

pub AllSized-tree : (h : Hashing) (image : List (List ℕ)) → IsHashing h → All (λ b. length b ≡ h.block_size) (tree h image)
AllSized-tree h image ok = AllSized-tree_above h (map h.digest image) ok (AreSized-digests h image ok)

-- behind the digests that a block holds stand zeros
pub drop-held : (h : Hashing) (image : List (List ℕ)) (l i : ℕ) → IsHashing h → i < level_len (per_block h) (length image) l
    → drop (held (per_block h) (length image) l i * h.digest_size) (block_at h image (suc l) i)
    ≡ replicate (h.block_size - held (per_block h) (length image) l i * h.digest_size) 0
drop-held h image l i ok below =
    let w : ℕ = per_block h in
    let some : 0 < w = omega (arith, ok.branching) in
    let digests : List (List ℕ) = map h.digest (row h image l) in
    let run : List (List ℕ) = slice_chunk digests w i in
    let long : length digests ≡ row_len w (length image) l = length-map (row h image l) h.digest ∙ length-row h image l some in
    let holds : length run ≡ held w (length image) l i = length-run digests w i ∙ ap (λ n. min w (n - i * w)) long in
    let P : ℕ → Type 0 = λ m. drop (m * h.digest_size) (block_at h image (suc l) i) ≡ replicate (h.block_size - m * h.digest_size) 0 in
    subst P holds (ap (λ b. drop (length run * h.digest_size) b) (block_at-run h image l i some below)
    ∙ drop-hash_block h run (AreSized-run h.digest_size digests w i (AreSized-digests h (row h image l) ok)))
