-- Steps over the volume of an old line.
use Rattle.std.proofs.Common.{suc, zero, ℕ, ◌+◌, ◌*◌, ◌/◌, ◌%◌, ◌^◌, ◌<◌, ◌≤◌, ◌≡◌, ◌≢◌, ◌⊎◌, true, List, [], ◌∷◌, ◌++◌, length, take, drop}
use Rattle.std.proofs.Common.{◌-◌, get_or, set, inl, inr, ⊎_elim, refl, sym, ap, subst, ◌∙◌, arith}
use Rattle.std.proofs.lemmas.Bool.{cases_lt, cases_eq}
use Rattle.std.proofs.lemmas.List.{get_or-set_same}
use Rattle.std.proofs.lemmas.Nat.{le-div}
use Rattle.std.proofs.Math.Nat.{add-mul, one-le-pow, div-mul-le_self, mul-div_cancel, mul-le-mul_right}
use Rattle.std.proofs.Math.Seq.{take-append_seam}
use Rattle.verity_store.specs.Blocks.{ChangesAt}
use Rattle.verity_store.specs.Stores.{IsLater}
use Rattle.verity_store.specs.declared.store.BlockStore as store
use Rattle.verity_store.proofs.GivenLemmas.{since_on}
use Rattle.verity_digest.proofs.Counts.{IsCeil-row_len}
use Rattle.verity_chain.specs.Table.{Table, IsTable, hashing_of, branching, height, row_len, hash_place, path_index}
use Rattle.verity_chain.specs.Chain.{Given, EndsChain, Names}
use Rattle.verity_chain.proofs.ChainLemmas.{Grows, EndsChain-grows, Names-grows, names_top, names_below}
use Rattle.verity_chain.proofs.TableLaws.{path_index-suc, path_below, some_branch}
use Rattle.verity_report.specs.Descent.{Known, known, seen_in, AreRows}
use Rattle.verity_pull.specs.Walk.{IsName, IsVouched, IsHashMixed, IsTaken, KeepsFront}
use Rattle.verity_pull.specs.Steps.{IfDown, IfKept}
use Rattle.verity_pull.specs.declared.over.Step.{Step}
use Rattle.verity_pull.specs.declared.over.Step.TheVariants as step
use Rattle.verity_pull.proofs.LayLemmas.{place_from}
use Rattle.verity_pull.specs.Over.{rooted, was_given, IsHeldAt, IsOldName, AreEnds, IsFollowed, IsOnPath, NamesBoth, NamesAbove, IsAlike}
use Rattle.verity_pull.specs.Over.{IsKeptTo, IsKeptBelow, IsSettled}
use Rattle.verity_pull.proofs.VouchLemmas.{vouched_stays}
use Rattle.verity_pull.proofs.WalkLemmas.{places_apart}

-- what is written back to a vector whose elements a slice lent
pub whole_back : {A : Type 0} (n : ℕ) (xs ys : List A) → length xs ≡ n → take n (xs ++ ys) ≡ xs
whole_back n xs ys e = subst (λ m. take m (xs ++ ys) ≡ xs) e (take-append_seam xs ys)

-- a level's block is kept
pub held_rows : (t : Table) (l i : ℕ) (block : List ℕ) (old new : List Known) → IsHeldAt (suc l) i block old new
    → length block ≡ t.hash_block_size → AreRows t old → AreRows t new
held_rows t l i block old new held long rows = record {
  len = held.len ∙ rows.len;
  whole = λ q low. elim (cases_eq (suc q) (suc l)) [
    | inl e ↦ ap (λ m. length (known new m).block) e ∙ ap length held.kept ∙ long
    | inr ne ↦ ap (λ (k : Known). length k.block) (held.others (suc q) ne) ∙ rows.whole q low
  ];
}

-- the digest that is named for a place, by a chain of given blocks
pub named_by_ends : (t : Table) (given : Given) (rows : List Known) (r i : ℕ) (digest : List ℕ) → r ≤ height t → AreEnds t given rows
    → (r < height t → seen_in rows (suc r) ≡ suc (i / branching t)) → IsName t r i rows digest → Names t given r i digest
named_by_ends t given rows r i digest low ends parent name = elim (cases_lt r (height t)) [
  | inl under ↦
      subst (λ x. Names t given r i x) (sym (name.under under))
      (names_below t given r i (known rows (suc r)).block (ends r (i / branching t) under (parent under)))
  | inr over ↦
      let top : r ≡ height t = omega (arith, low, over) in
      subst (λ x. Names t given r i x) (sym (name.top top))
      (subst (λ m. Names t given m i t.root) (sym top) (names_top t given i))
]

-- more was given
pub ends_grows : (t : Table) (given more : Given) → Grows given more → (rows : List Known) → AreEnds t given rows → AreEnds t more rows
ends_grows t given more grows rows ends v i low e = EndsChain-grows t given more grows (suc v) i (known rows (suc v)).block (ends v i low e)

-- one more block that ends a chain is kept
pub ends_more : (t : Table) (given : Given) (v i : ℕ) (block : List ℕ) (old new : List Known) → IsHeldAt (suc v) i block old new
    → EndsChain t given (suc v) i block → AreEnds t given old → AreEnds t given new
ends_more t given v i block old new held here ends w j wlow e = elim (cases_eq w v) [
  | inl is ↦
      let now : seen_in new (suc w) ≡ seen_in new (suc v) = ap (λ m. seen_in new (suc m)) is in
      let index_is : j ≡ i = omega (arith, e, now, held.seen) in
      subst (λ m. EndsChain t given (suc m) j (known new (suc m)).block) (sym is)
      (subst (λ m. EndsChain t given (suc v) m (known new (suc v)).block) (sym index_is)
      (subst (λ b. EndsChain t given (suc v) i b) (sym held.kept) here))
  | inr ne ↦
      let same = held.others (suc w) (λ z. ne (omega (arith, z))) in
      subst (λ (k : Known). EndsChain t given (suc w) j k.block) (sym same)
      (ends w j wlow (ap (λ (k : Known). k.seen) (sym same) ∙ e))
]

-- nothing is kept
pub ends_none : (t : Table) (given : Given) (rows : List Known) → ((r : ℕ) → r ≤ height t → seen_in rows r ≡ 0) → AreEnds t given rows
ends_none t given rows none v i low e = absurd (omega (arith, e, none (suc v) (omega (arith, low))))

-- what the local hash store gave stays so
pub was_grows : {K : Type 0} (facts : store.Ghosts K) (t : Table) (mark : ℕ) (old new : K) → IsLater facts old new
    → Grows (was_given facts t mark old) (was_given facts t mark new)
was_grows facts t mark old new later zero i y gave = absurd gave
was_grows facts t mark old new later (suc l) i y gave =
    (since_on (facts.given old) (facts.given new) later.gave mark (hash_place t l i) y gave.0, gave.1 ∙ sym later.size)

module _ (t : Table) (root : List ℕ) (given more was later : Given) (grows : Grows given more) (grown : Grows was later) where
  pub both_grows : (r i : ℕ) → NamesBoth t root given was r i → NamesBoth t root more later r i
  both_grows r i n = record {
    digest = n.digest;
    new = Names-grows t given more grows r i n.digest n.new;
    old = Names-grows (rooted t root) was later grown r i n.digest n.old;
  }

  pub above_grows : (m r i : ℕ) → NamesAbove t root given was m r i → NamesAbove t root more later m r i
  above_grows zero r i n = both_grows r i n
  above_grows (suc m) r i n = above_grows m (suc r) (i / branching t) n

  pub alike_grows : (r i : ℕ) → IsAlike t root given was r i → IsAlike t root more later r i
  alike_grows r i a = record { rows = a.rows; names = above_grows a.rows r i a.names }

  pub kept_grows : (n next row : ℕ) → IsKeptTo t root given was n next row → IsKeptTo t root more later n next row
  kept_grows n next row k = record {
    low = k.low;
    high = k.high;
    names = both_grows row (path_index t n row) k.names;
    span = k.span;
  }

-- paths that meet stay together
pub path_up : (t : Table) (j n r m : ℕ) → path_index t j r ≡ path_index t n r → path_index t j (m + r) ≡ path_index t n (m + r)
path_up t j n r zero e =
    let same : zero + r ≡ r = omega arith in
    subst (λ q. path_index t j q ≡ path_index t n q) (sym same) e
path_up t j n r (suc m) e =
    let same : suc m + r ≡ suc (m + r) = omega arith in
    subst (λ q. path_index t j q ≡ path_index t n q) (sym same)
    (path_index-suc t j (m + r) ∙ ap (λ i. i / branching t) (path_up t j n r m e) ∙ sym (path_index-suc t n (m + r)))

pub path_from : (t : Table) (j n r q : ℕ) → r ≤ q → path_index t j r ≡ path_index t n r → path_index t j q ≡ path_index t n q
path_from t j n r q high e =
    let same : q - r + r ≡ q = omega (arith, high) in
    subst (λ m. path_index t j m ≡ path_index t n m) same (path_up t j n r (q - r) e)

-- the path of a later data block is no further in front
pub path_le : (t : Table) → IsTable t → (n j r : ℕ) → n ≤ j → path_index t n r ≤ path_index t j r
path_le t ok n j zero le = le
path_le t ok n j (suc l) le =
    let d : ℕ = branching t ^ suc l in
    let some : 0 < branching t ^ suc l = one-le-pow (suc l) (branching t) (some_branch t ok) in
    le-div (n / d) j d some (omega (arith, div-mul-le_self n (branching t ^ suc l), le))

-- a data block below a hash block of the tree
pub data_below : (t : Table) → IsTable t → (r i : ℕ) → i < row_len t (suc r)
    → (j : ℕ) × (j < t.data_blocks) × (path_index t j (suc r) ≡ i)
data_below t ok r i low =
    let d : ℕ = branching t ^ suc r in
    let some : 0 < branching t ^ suc r = one-le-pow (suc r) (branching t) (some_branch t ok) in
    let is = IsCeil-row_len (branching t) t.data_blocks (suc r) (some_branch t ok) in
    let next : i + 1 ≤ row_len t (suc r) = omega (arith, low) in
    let fits : (i + 1) * branching t ^ suc r ≤ row_len t (suc r) * branching t ^ suc r = mul-le-mul_right (branching t ^ suc r) next in
    let more : (i + 1) * branching t ^ suc r ≡ i * branching t ^ suc r + 1 * branching t ^ suc r = add-mul i 1 (branching t ^ suc r) in
    (i * d, omega (arith, is.below, fits, more), mul-div_cancel i some)

-- both lines name alike what is above a data block, and so what is on the way down to it
pub alike_path : (t : Table) (root : List ℕ) (given was : Given) (j m q : ℕ) → NamesBoth t root given was (q + m) (path_index t j (q + m))
    → NamesAbove t root given was m q (path_index t j q)
alike_path t root given was j zero q names =
    let same : q + zero ≡ q = omega arith in
    subst (λ r. NamesBoth t root given was r (path_index t j r)) same names
alike_path t root given was j (suc m) q names =
    let same : q + suc m ≡ suc q + m = omega arith in
    subst (λ i. NamesAbove t root given was m (suc q) i) (path_index-suc t j q)
    (alike_path t root given was j m (suc q) (subst (λ r. NamesBoth t root given was r (path_index t j r)) same names))

pub alike_below : (t : Table) (root : List ℕ) (given was : Given) (n next row j q : ℕ) → IsKeptTo t root given was n next row → n ≤ j
    → j < next → q ≤ row → IsAlike t root given was q (path_index t j q)
alike_below t root given was n next row j q kept from upto low =
    let up : q + (row - q) ≡ row = omega (arith, low) in
    let here : NamesBoth t root given was row (path_index t j row) =
    subst (λ i. NamesBoth t root given was row i) (sym (kept.span j from upto)) kept.names in
    record {
      rows = row - q;
      names = alike_path t root given was j (row - q) q (subst (λ r. NamesBoth t root given was r (path_index t j r)) (sym up) here);
    }

-- a block on the way that the rows keep is vouched for
pub vouched_on_path : {K : Type 0} (facts : store.Ghosts K) (t : Table) → IsTable t → (root : List ℕ) (given was : Given) (k : K)
    (rows olds : List Known) → IsFollowed facts t root given was k rows olds → (n v : ℕ) → n < t.data_blocks → v < height t
    → seen_in rows (suc v) ≡ suc (path_index t n (suc v))
    → IsVouched facts t given (suc v) (path_index t n (suc v)) (hash_place t v (path_index t n (suc v))) k
vouched_on_path facts t ok root given was k rows olds f n v low vlow seen =
    let i : ℕ = path_index t n (suc v) in
    record {
      y = (known rows (suc v)).block;
      chain = f.path v i vlow seen;
      held = λ told. f.held v i vlow (path_below t ok n (suc v) low) seen told;
    }

-- what is vouched for, or alike, stays so where the local store's tree was but written
pub done_stays : {K : Type 0} (facts : store.Ghosts K) (t : Table) (root : List ℕ) (given more was later : Given) → Grows given more
    → Grows was later → (k k' : K) → facts.tells k' ≡ facts.tells k → IsHashMixed facts t more k k' → (v i : ℕ) → v < height t
    → i < row_len t (suc v)
    → IsVouched facts t given (suc v) i (hash_place t v i) k ⊎ IsAlike t root given was (suc v) i
    → IsVouched facts t more (suc v) i (hash_place t v i) k' ⊎ IsAlike t root more later (suc v) i
done_stays facts t root given more was later grows grown k k' tells mixed v i low lt done = ⊎_elim
    (λ vouched. ⊎_elim
    (λ same. inl (vouched_stays facts t given more grows (suc v) i (hash_place t v i) k k' tells same vouched))
    inl
    (mixed v i low lt))
    (λ alike. inr (alike_grows t root given more was later grows grown (suc v) i alike))
    done

-- .. and is settled where it is what it was, or vouched for
pub settled_now : {K : Type 0} (facts : store.Ghosts K) (t : Table) (root : List ℕ) (given more was : Given) → Grows given more → (k k' : K)
    → IsHashMixed facts t given k k' → (v i : ℕ) → v < height t → i < row_len t (suc v)
    → IsVouched facts t more (suc v) i (hash_place t v i) k' ⊎ IsAlike t root more was (suc v) i
    → IsSettled facts t root more was (suc v) i (hash_place t v i) (facts.content k) k'
settled_now facts t root given more was grows k k' mixed v i low lt done = ⊎_elim inl
    (λ alike. ⊎_elim
    (λ same. inr (alike, same))
    (λ vouched. inl (record {
      y = vouched.y;
      chain = EndsChain-grows t given more grows (suc v) i vouched.y vouched.chain;
      held = vouched.held;
    }))
    (mixed v i low lt))
    done

-- the rows of hash blocks name the same
pub name_rows : (t : Table) (rows rows' : List Known) → ((v : ℕ) → known rows' (suc v) ≡ known rows (suc v)) → (r i : ℕ)
    (digest : List ℕ) → IsName t r i rows' digest → IsName t r i rows digest
name_rows t rows rows' same r i digest name = record {
  top = name.top;
  under = λ low. subst (λ (k : Known). digest ≡ Rattle.verity_digest.specs.Tree.slot (hashing_of t) k.block (i % branching t)) (same r)
      (name.under low);
}

module _ {K : Type 0} (facts : store.Ghosts K) (t : Table) (root : List ℕ) (given more was later : Given) (v i : ℕ) (block : List ℕ)
    (rows rows' olds : List Known) (held : IsHeldAt (suc v) i block rows rows') (low : v < height t) (index : i < row_len t (suc v))
    (k k' : K) (tells : facts.tells k' ≡ facts.tells k)
    (written : facts.tells k ≡ true → facts.content k' ≡ set (facts.content k) (hash_place t v i) block)
    (others : ChangesAt (hash_place t v i) (facts.content k) (facts.content k'))
    (there : hash_place t v i < length (facts.content k)) (here : EndsChain t more (suc v) i block) where
  now_held : facts.tells k' ≡ true → get_or (facts.content k') (hash_place t v i) [] ≡ block
  now_held told =
      ap (λ blocks. get_or blocks (hash_place t v i) []) (written (sym tells ∙ told))
      ∙ get_or-set_same (facts.content k) (hash_place t v i) block [] there

  -- one more block was checked, kept and written
  pub followed_more : Grows given more → Grows was later → IsFollowed facts t root given was k rows olds
      → IsFollowed facts t root more later k' rows' olds
  followed_more grows grown f = record {
    path = ends_more t more v i block rows rows' held here (ends_grows t given more grows rows f.path);
    held = λ w j wlow jlow e told. elim (cases_eq w v) [
      | inl is ↦
          let now : seen_in rows' (suc w) ≡ seen_in rows' (suc v) = ap (λ m. seen_in rows' (suc m)) is in
          let index_is : j ≡ i = omega (arith, e, now, held.seen) in
          let at : hash_place t w j ≡ hash_place t v i = ap (λ m. hash_place t m j) is ∙ ap (hash_place t v) index_is in
          ap (λ m. get_or (facts.content k') m []) at ∙ now_held told
          ∙ sym held.kept ∙ ap (λ m. (known rows' (suc m)).block) (sym is)
      | inr ne ↦
          let same = held.others (suc w) (λ z. ne (omega (arith, z))) in
          let apart : hash_place t w j ≢ hash_place t v i = λ z. ne ((places_apart t w j v i wlow jlow low index z).0) in
          others.1 (hash_place t w j) apart
          ∙ f.held w j wlow jlow (ap (λ (x : Known). x.seen) (sym same) ∙ e) (sym tells ∙ told)
          ∙ ap (λ (x : Known). x.block) (sym same)
    ];
    old = ends_grows (rooted t root) was later grown olds f.old;
  }

  -- it alone has changed
  pub mixed_one : IsHashMixed facts t more k k'
  mixed_one w j wlow jlow = elim (cases_eq (hash_place t w j) (hash_place t v i)) [
    | inl is ↦
        let both = places_apart t w j v i wlow jlow low index is in
        inr (record {
          y = block;
          chain =
              subst (λ m. EndsChain t more (suc m) j block) (sym both.0)
              (subst (λ m. EndsChain t more (suc v) m block) (sym both.1) here);
          held = λ told. ap (λ m. get_or (facts.content k') m []) is ∙ now_held told;
        })
    | inr ne ↦ inl (others.1 (hash_place t w j) ne)
  ]

-- the local store was but read, and more is kept of the old tree
pub followed_read : {K : Type 0} (facts : store.Ghosts K) (t : Table) (root : List ℕ) (given was later : Given) (k k' : K)
    (rows olds olds' :
    List Known)
    → facts.content k' ≡ facts.content k → facts.tells k' ≡ facts.tells k → AreEnds (rooted t root) later olds'
    → IsFollowed facts t root given was k rows olds → IsFollowed facts t root given later k' rows olds'
followed_read facts t root given was later k k' rows olds olds' same tells ends f = record {
  path = f.path;
  held = λ v i low lt e told. ap (λ blocks. get_or blocks (hash_place t v i) []) same ∙ f.held v i low lt e (sym tells ∙ told);
  old = ends;
}

-- the blocks in front of the tree stay where one of its blocks has changed
pub front_place : (t : Table) (v i : ℕ) (old new : List (List ℕ)) → ChangesAt (hash_place t v i) old new
    → KeepsFront t.hash_start_block old new
front_place t v i old new changes = (changes.0, λ q lt. changes.1 q (λ z. omega (arith, z, lt, place_from t v i)))

-- what a step did
pub held_down : (s : Step) (P : Type 0) → s ≡ step.Held → IfDown s P → P
held_down s P is d = subst (λ x. IfDown x P) is d

pub fetched_down : (s : Step) (P : Type 0) → s ≡ step.Fetched → IfDown s P → P
fetched_down s P is d = subst (λ x. IfDown x P) is d

pub kept_next : (s : Step) (next : ℕ) (P : ℕ → Type 0) → s ≡ step.Kept next → IfKept s P → P next
kept_next s next P is k = subst (λ x. IfKept x P) is k
