-- The open blocks hold the image's digests, and a block that is closed is the image's own.
use Rattle.std.proofs.Common.{◌≡◌, ℕ, zero, suc, ◌+◌, ◌*◌, ◌<◌, ◌≤◌, List, [], ◌∷◌, ◌++◌, length, map, take, drop, get_or}
use Rattle.std.proofs.Common.{⊎_elim, refl, sym, ap, ◌∙◌, subst, arith}
use Rattle.std.specs.Prelude.{Option, Some, None}
use Rattle.std.specs.Fork.{slice_chunk}
use Rattle.std.proofs.lemmas.Bool.{cases_lt, cases_eq}
use Rattle.std.proofs.lemmas.List.{length-append, length-map, length-drop, get_or-map, get_or-drop, take_more, take_all}
use Rattle.verity_digest.specs.Tree.{Hashing, per_block, hash_block}
use Rattle.verity_digest.specs.Rows.{row, block_at}
use Rattle.verity_digest.specs.Shape.{row_len}
use Rattle.verity_digest.proofs.Rows.{length-row, block_at-run}
use Rattle.verity_digest.proofs.Counts.{row_len-zero}
use Rattle.verity_tree.specs.Open.{Open}
use Rattle.verity_tree.specs.Climb.{open_at, AreEmpty, Comes, Closes}
use Rattle.verity_build.specs.Progress.{came, Growing, Settling, IsRight}
use Rattle.verity_build.proofs.Settles.{index_below, settling_all}

-- an open block holds a run of these digests
abbrev HoldsRun : ℕ → List (List ℕ) → Open → Type 0
HoldsRun k all o = o.digests ≡ take (length o.digests) (drop (o.index * k) all)

holds_by : (k : ℕ) (all : List (List ℕ)) (o o' : Open) → o' ≡ o → HoldsRun k all o → HoldsRun k all o'
holds_by k all o o' e h = subst (λ x. HoldsRun k all x) (sym e) h

-- the next digest
holds_push : (k c : ℕ) (all : List (List ℕ)) (o o' : Open) (d : List ℕ) → HoldsRun k all o → c ≡ o.index * k + length o.digests →
    c < length all → d ≡ get_or all c []
    → o' ≡ record o { digests = o.digests ++ d ∷ [] } → HoldsRun k all o'
holds_push k c all o o' d run order below is pushed =
    let n : ℕ = length o.digests in
    let rest : List (List ℕ) = drop (o.index * k) all in
    let next : d ≡ get_or rest n [] = is ∙ ap (λ i. get_or all i []) order ∙ sym (get_or-drop (o.index * k) all n []) in
    let inside : n < length rest = rw length-drop (omega arith) in
    let len : length o'.digests ≡ n + 1 = ap (λ x. length x.digests) pushed ∙ length-append o.digests (d ∷ []) in
    let index : o'.index ≡ o.index = ap (λ x. x.index) pushed in
    ap (λ x. x.digests) pushed
    ∙ ap (λ ds. ds ++ d ∷ []) run
    ∙ ap (λ x. take n rest ++ x ∷ []) next
    ∙ sym (take_more rest n [] inside)
    ∙ (λ i. take (sym len i) (drop (sym index i * k) all))

-- a data block's digest comes to level 0
module _ (h : Hashing) (image : List (List ℕ)) (n : ℕ) (d : List ℕ) (old new : List Open) (old_root new_root : Option (List ℕ))
    (one : row_len (per_block h) (length image) (length old) ≡ 1)
    (growing : Growing (per_block h) n old old_root) (comes : Comes 0 d old new old_root new_root) (below : n < length image)
    (is : d ≡ h.digest (get_or image n []))
    (right : IsRight h image old old_root) where
  come_holds : (l : ℕ) → l < length old → HoldsRun (per_block h) (map h.digest (row h image l)) (open_at new l)
  come_holds zero there =
      holds_push (per_block h) n (map h.digest image) (open_at old 0) (open_at new 0) d (right.holds 0 there) (growing.order 0 there)
      (rw length-map below) (is ∙ sym (get_or-map h.digest image n [] [] below)) (comes.here there)
  come_holds (suc l) there =
      holds_by (per_block h) (map h.digest (row h image (suc l))) (open_at old (suc l)) (open_at new (suc l))
      (comes.others (suc l) (λ e. absurd (omega arith))) (right.holds (suc l) there)

  come_rooted : (digest : List ℕ) → new_root ≡ Some digest → digest ≡ h.digest (block_at h image (length new) 0)
  come_rooted digest known =
      ⊎_elim
      (λ some. right.rooted digest (sym (comes.kept some) ∙ known) ∙ ap (λ l. h.digest (block_at h image l 0)) (sym comes.len))
      (λ no.
      let bottom : length old ≡ 0 = omega arith in
      let single : row_len (per_block h) (length image) 0 ≡ 1 = ap (λ l. row_len (per_block h) (length image) l) (sym bottom) ∙ one in
      let first : n ≡ 0 = omega (arith, row_len-zero (per_block h) (length image)) in
      let same : Some digest ≡ Some d = sym known ∙ comes.root no in
      let e : digest ≡ d = cc in
      e ∙ is ∙ ap (λ i. h.digest (get_or image i [])) first ∙ ap (λ l. h.digest (block_at h image l 0)) (sym (comes.len ∙ bottom)))
      (cases_lt 0 (length old))

  pub right_come : IsRight h image new new_root
  right_come = record { holds = λ l there. come_holds l (let len = comes.len in omega arith); rooted = come_rooted }

module _ (h : Hashing) (image : List (List ℕ)) (n j : ℕ) (old : List Open) (old_root : Option (List ℕ)) (some : 0 < per_block h)
    (few : n ≤ length image)
    (settling : Settling (per_block h) n (length image) j old old_root) (there : j < length old) (done : n < length image →
    length (open_at old j).digests ≡ per_block h)
    (right : IsRight h image old old_root) where
  closed_below : (open_at old j).index < row_len (per_block h) (length image) (suc j)
  closed_below = index_below (per_block h) n (length image) j old old_root some few settling there

  digest_count : length (map h.digest (row h image j)) ≡ row_len (per_block h) (length image) j
  digest_count = length-map (row h image j) h.digest ∙ length-row h image j some

  closed_run : (open_at old j).digests ≡ slice_chunk (map h.digest (row h image j)) (per_block h) (open_at old j).index
  closed_run =
      let k : ℕ = per_block h in
      let o : Open = open_at old j in
      let rest : List (List ℕ) = drop (o.index * k) (map h.digest (row h image j)) in
      right.holds j there
      ∙ ⊎_elim
      (λ more. ap (λ m. take m rest) (done more))
      (λ last.
      let end : n ≡ length image = omega arith in
      let P : ℕ → Type 0 = λ m. Settling k m (length image) j old old_root in
      let all : came (length image) old j ≡ row_len k (length image) j =
      settling_all k (length image) j old old_root some (subst P end settling) (omega arith) in
      let order : came (length image) old j ≡ o.index * k + length o.digests = ap (λ m. came m old j) (sym end)
      ∙ settling.order j (omega arith) there in
      let left : length rest ≤ length o.digests = rw length-drop (omega (arith, digest_count)) in
      let most : length o.digests ≤ k = settling.most there in
      take_all (length o.digests) rest left ∙ sym (take_all k rest (omega arith)))
      (cases_lt n (length image))

  -- the bytes of the block that is closed are the image's own
  pub closed_block : hash_block h (open_at old j).digests ≡ block_at h image (suc j) (open_at old j).index
  closed_block = ap (λ run. hash_block h run) closed_run ∙ sym (block_at-run h image j (open_at old j).index some closed_below)

  module _ (new : List Open) (new_root : Option (List ℕ)) (closes : Closes h j old new old_root new_root)
      (one : row_len (per_block h) (length image) (length old) ≡ 1) where
    close_holds : (l : ℕ) → l < length old → HoldsRun (per_block h) (map h.digest (row h image l)) (open_at new l)
    close_holds l inside =
        let k : ℕ = per_block h in
        let o : Open = open_at old j in
        let up : List (List ℕ) = map h.digest (row h image (suc j)) in
        ⊎_elim
        (λ e. let P : ℕ → Type 0 = λ m. HoldsRun k (map h.digest (row h image m)) (open_at new m) in
        subst P (sym e) (holds_by k (map h.digest (row h image j)) (record o { digests = []; index = o.index + 1 }) (open_at new j)
        closes.here refl))
        (λ apart. ⊎_elim
        (λ e. let P : ℕ → Type 0 = λ m. HoldsRun k (map h.digest (row h image m)) (open_at new m) in
        let next : suc j < length old = omega arith in
        let count : o.index < length (row h image (suc j)) = rw (length-row h image (suc j) some) closed_below in
        subst P (sym e)
        (holds_push k o.index up (open_at old (suc j)) (open_at new (suc j)) (h.digest (hash_block h o.digests)) (right.holds (suc j) next)
        (settling.order (suc j) (omega arith) next) (rw length-map count)
        (ap h.digest closed_block ∙ sym (get_or-map h.digest (row h image (suc j)) o.index [] [] count))
        (closes.above next)))
        (λ other. holds_by k (map h.digest (row h image l)) (open_at old l) (open_at new l) (closes.others l apart other)
        (right.holds l inside))
        (cases_eq l (suc j)))
        (cases_eq l j)

    close_rooted : (digest : List ℕ) → new_root ≡ Some digest → digest ≡ h.digest (block_at h image (length new) 0)
    close_rooted digest known =
        ⊎_elim
        (λ inner. right.rooted digest (sym (closes.kept inner) ∙ known) ∙ ap (λ l. h.digest (block_at h image l 0)) (sym closes.len))
        (λ top.
        let last : length old ≡ suc j = omega arith in
        let single : row_len (per_block h) (length image) (suc j) ≡ 1 = ap (λ l. row_len (per_block h) (length image) l) (sym last) ∙ one in
        let first : (open_at old j).index ≡ 0 = (let b = closed_below in omega arith) in
        let same : Some digest ≡ Some (h.digest (hash_block h (open_at old j).digests)) = sym known ∙ closes.root top in
        let e : digest ≡ h.digest (hash_block h (open_at old j).digests) = cc in
        e ∙ ap h.digest closed_block ∙ ap (λ i. h.digest (block_at h image (suc j) i)) first
        ∙ ap (λ l. h.digest (block_at h image l 0)) (sym (closes.len ∙ last)))
        (cases_lt (suc j) (length old))

    pub right_close : IsRight h image new new_root
    right_close = record { holds = λ l there'. close_holds l (let len = closes.len in omega arith); rooted = close_rooted }

-- before the first data block
pub right_empty : (h : Hashing) (image : List (List ℕ)) (opens : List Open) → AreEmpty opens → IsRight h image opens None
right_empty h image opens empty = record {
  holds = λ l inside. (empty l inside).0 ∙ ap
      (λ ds. take (length ds) (drop ((open_at opens l).index * per_block h) (map h.digest (row h image l)))) (sym (empty l inside).0);
  rooted = λ digest known. absurd (cc);
}
