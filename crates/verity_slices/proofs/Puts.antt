-- A hash block of level 0 that is filled digest by digest.
use Rattle.std.proofs.Common.{◌≡◌, ℕ, ◌+◌, ◌-◌, ◌*◌, ◌<◌, ◌≤◌, inl, inr, min, List, [], ◌∷◌, ◌++◌, length, map, take, drop}
use Rattle.std.proofs.Common.{replicate, get_or, true, refl, sym, ap, ◌∙◌, subst, arith}
use Rattle.std.specs.List.{concat}
use Rattle.std.specs.Fork.{slice_chunk}
use Rattle.std.proofs.Math.Nat.{add-mul}
use Rattle.std.proofs.lemmas.Bool.{cases_lt}
use Rattle.std.proofs.lemmas.List.{append-nil, append_assoc, length-append, length-map, drop-drop, drop-replicate, take_at, drop_at}
use Rattle.std.proofs.lemmas.List.{ext_get_or, get_or-take, get_or-drop, get_or-map, get_or_push, get_or_append_left, length_push, map_push}
use Rattle.std.proofs.lemmas.List.Folds.{concat-append}
use Rattle.verity_digest.specs.Tree.{Hashing, per_block, hash_block, IsHashing}
use Rattle.verity_digest.specs.Shape.{row_len}
use Rattle.verity_digest.specs.Rows.{row, block_at}
use Rattle.verity_digest.proofs.Rows.{block_at-run}
use Rattle.verity_digest.proofs.Sized.{length-run}
use Rattle.verity_digest.proofs.Slots.{AreSized, AreSized-digests, length-concat}
use Rattle.verity_store.specs.Given.{GoesOn, GaveSince}
use Rattle.verity_store.specs.declared.store.BlockStore as store
use Rattle.verity_slices.specs.Given.{AreGivenFrom, IsGivenLeaf}
use Rattle.verity_slices.specs.Filling.{Filling}
use Rattle.verity_slices.proofs.Givens.{given_nothing, given_on, given_then, given_one}

-- one digest more
pub put_next : (h : Hashing) (ds : List (List ℕ)) (d : List ℕ) (at : ℕ) → AreSized h.digest_size ds → length ds * h.digest_size ≡ at
    → take at (hash_block h ds) ++ (d ++ drop (at + length d) (hash_block h ds)) ≡ hash_block h (ds ++ d ∷ [])
put_next h ds d at sized place =
    let bytes : List ℕ = concat ds in
    let zeros : List ℕ = replicate (h.block_size - length bytes) 0 in
    let whole : length bytes ≡ at = length-concat h.digest_size ds sized ∙ place in
    let front : take at (bytes ++ zeros) ≡ bytes = take_at bytes zeros at whole in
    let back : drop (at + length d) (bytes ++ zeros) ≡ replicate (h.block_size - length bytes - length d) 0 =
    sym (drop-drop (length d) at (bytes ++ zeros)) ∙ ap (λ r. drop (length d) r) (drop_at bytes zeros at whole)
    ∙ drop-replicate (length d) (h.block_size - length bytes) 0 in
    let more : concat (ds ++ d ∷ []) ≡ bytes ++ d = concat-append ds (d ∷ []) ∙ ap (λ t. bytes ++ t) (append-nil d) in
    let left : h.block_size - length bytes - length d ≡ h.block_size - length (concat (ds ++ d ∷ [])) =
    omega (arith, ap length more, length-append bytes d) in
    ap (λ f. f ++ (d ++ drop (at + length d) (bytes ++ zeros))) front
    ∙ ap (λ b. bytes ++ (d ++ b)) (back ∙ ap (λ m. replicate m 0) left)
    ∙ sym (append_assoc bytes d (replicate (h.block_size - length (concat (ds ++ d ∷ []))) 0))
    ∙ ap (λ f. f ++ replicate (h.block_size - length (concat (ds ++ d ∷ []))) 0) (sym more)

module _ {S : Type 0} (facts : store.Ghosts S) (h : Hashing) where
  -- nothing yet
  pub fill_none : (old : S) (first : ℕ) (block : List ℕ) → block ≡ replicate h.block_size 0 → Filling facts old old h first first block
  fill_none old first block zeros = record {
    made = [];
    count = omega arith;
    given = given_nothing facts old old first;
    bytes = zeros ∙ ap (λ m. replicate m 0) (let e : h.block_size ≡ h.block_size - 0 = omega arith in e);
    right = λ tells j below. absurd (omega (arith, below));
  }

  -- one data block more
  pub fill_more : (old now new : S) (first n at : ℕ) (block digest data_block : List ℕ) → IsHashing h
      → digest ≡ h.digest data_block → length data_block ≡ facts.size old
      → GaveSince (facts.given new) (length (facts.given old)) n data_block → GoesOn (facts.given now) (facts.given new)
      → (facts.tells old ≡ true → digest ≡ h.digest (get_or (facts.content old) n []))
      → (n - first) * h.digest_size ≡ at
      → Filling facts old now h first n block
      → Filling facts old new h first (n + 1) (take at block ++ (digest ++ drop (at + length digest) block))
  fill_more old now new first n at block digest data_block ok is sized gave on right place f = record {
    made = f.made ++ data_block ∷ [];
    count = omega (arith, f.count, length_push f.made data_block);
    given = given_then facts old new first f.made (data_block ∷ []) (given_on facts old now new first f.made on f.given)
        (subst (λ m. AreGivenFrom facts old new m (data_block ∷ [])) (sym f.count) (given_one facts old new n data_block sized gave));
    bytes =
        let ds : List (List ℕ) = map h.digest f.made in
        let count : length ds * h.digest_size ≡ at =
        ap (λ m. m * h.digest_size) (length-map f.made h.digest ∙ (let e : length f.made ≡ n - first = omega (arith, f.count) in e))
        ∙ place in
        ap (λ b. take at b ++ (digest ++ drop (at + length digest) b)) f.bytes
        ∙ put_next h ds digest at (AreSized-digests h f.made ok) count
        ∙ ap (λ d. hash_block h (ds ++ d ∷ [])) is
        ∙ ap (λ x. hash_block h x) (sym (map_push h.digest f.made data_block));
    right = λ tells j below. elim (cases_lt j (length f.made)) [
      | inl early ↦ ap h.digest (get_or_append_left f.made (data_block ∷ []) [] j early) ∙ f.right tells j early
      | inr late ↦
          let last : length f.made ≡ j = omega (arith, late, below, length_push f.made data_block) in
          let here : n ≡ first + j = omega (arith, last, f.count) in
          ap h.digest (get_or_push f.made data_block [] j last) ∙ sym is ∙ right tells
          ∙ ap (λ m. h.digest (get_or (facts.content old) m [])) here
    ];
  }

  -- all of them
  pub fill_given : (old now : S) (first count n : ℕ) (block : List ℕ) → n ≡ first + count → Filling facts old now h first n block
      → IsGivenLeaf facts old now h first count block
  fill_given old now first count n block end f = record {
    made = f.made;
    len = omega (arith, f.count, end);
    given = f.given;
    is = f.bytes;
  }

  pub fill_right : (old now : S) (image : List (List ℕ)) (index n : ℕ) (block : List ℕ) → 0 < per_block h
      → index < row_len (per_block h) (length image) 1 → facts.content old ≡ image → facts.tells old ≡ true
      → n ≡ index * per_block h + min (per_block h) (length image - index * per_block h)
      → Filling facts old now h (index * per_block h) n block
      → block ≡ block_at h image 1 index
  fill_right old now image index n block some below content tells end f =
      let k : ℕ = per_block h in
      let first : ℕ = index * per_block h in
      let ds : List (List ℕ) = map h.digest image in
      let count : length f.made ≡ min k (length image - first) = omega (arith, f.count, end) in
      let long : length (slice_chunk ds k index) ≡ min k (length image - first) =
      length-run ds k index ∙ ap (λ m. min k (m - first)) (length-map image h.digest) in
      let same : map h.digest f.made ≡ slice_chunk ds k index =
      ext_get_or [] (map h.digest f.made) (slice_chunk ds k index) (length-map f.made h.digest ∙ count ∙ sym long)
      (λ j inside.
      let there : j < length f.made = omega (arith, inside, length-map f.made h.digest) in
      let low : j < k = omega (arith, there, count) in
      let within : first + j < length image = omega (arith, there, count) in
      get_or-map h.digest f.made j [] [] there
      ∙ f.right tells j there
      ∙ ap (λ c. h.digest (get_or c (first + j) [])) content
      ∙ sym (get_or-map h.digest image (first + j) [] [] within)
      ∙ sym (get_or-take k (drop first ds) j [] low ∙ get_or-drop first ds j [])) in
      f.bytes ∙ ap (λ r. hash_block h r) same ∙ sym (block_at-run h image 0 index some below)
