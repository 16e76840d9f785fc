-- What a pull over the volume of an old line leaves is the image and its tree, if what was kept was the old line's; or there is a clash.
use Rattle.std.proofs.Common.{suc, zero, ℕ, ◌+◌, ◌/◌, ◌%◌, ◌<◌, ◌≤◌, ◌≡◌, ◌≢◌, ◌⊎◌, true, List, [], ◌∷◌, ◌++◌, length, take, get_or}
use Rattle.std.proofs.Common.{inl, inr, ⊎_elim, refl, sym, ap, ◌∙◌, subst, arith}
use Rattle.std.proofs.lemmas.List.{ext_get_or}
use Rattle.std.proofs.lemmas.List.Elements.{All-get_or}
use Rattle.verity_store.specs.declared.store.BlockStore as store
use Rattle.verity_digest.specs.Tree.{slot, tree}
use Rattle.verity_digest.proofs.Sized.{AllSized-row}
use Rattle.verity_chain.specs.Table.{Table, IsTable, hashing_of, branching, height, row_len, hash_place, tree_len}
use Rattle.verity_chain.specs.Chain.{Given, AreSized, Names, Above, named}
use Rattle.verity_chain.specs.Right.{Fits, own, Clash}
use Rattle.verity_chain.proofs.ChainLaw.{own_or_clash, own_named, own_root, parent_below, same_or_not}
use Rattle.verity_chain.proofs.TableLaws.{is_hashing, row_len-first, length-own_row}
use Rattle.verity_pull.specs.Walk.{IsVouched, Came}
use Rattle.verity_pull.specs.Over.{rooted, was_given, NamesBoth, NamesAbove, IsAlike, IsSettled, IsPulledOver, Twins, TwinsAt}
use Rattle.verity_pull.proofs.PullLaw.{all_or, device}

pub sized_was : {K : Type 0} (facts : store.Ghosts K) (t : Table) (mark : ℕ) (k : K) (root : List ℕ) → facts.size k ≡ t.hash_block_size
    → AreSized (rooted t root) (was_given facts t mark k)
sized_was facts t mark k root size = record {
  data_blocks = λ i y from. absurd from;
  hash_blocks = λ v i y came. came.1 ∙ size;
}

-- the digest that a chain names is that of the image's own block
named_own : (t : Table) (image : List (List ℕ)) → IsTable t → Fits t image → (given : Given) → AreSized t given → (r i : ℕ) (d : List ℕ)
    → i < row_len t r → Names t given r i d → (d ≡ (hashing_of t).digest (own t image r i)) ⊎ Clash t given image
named_own t image ok fits given sized r i d low names = by_above names.above names.above_it names.is where
  by_above : (above : List (List ℕ)) → Above t given r i above → d ≡ named t i above
      → (d ≡ (hashing_of t).digest (own t image r i)) ⊎ Clash t given image
  by_above [] top is = inl (is ∙ own_root t image ok fits r i top low)
  by_above (p ∷ above) a is = ⊎_elim
      (λ same. inl (is ∙ ap (λ b. slot (hashing_of t) b (i % branching t)) same ∙ own_named t image ok fits r i low))
      inr
      (own_or_clash t image ok fits given sized (suc r) (i / branching t) above p (parent_below t ok r i low) a.1 a.0)

above_within : (t : Table) (given : Given) (r i : ℕ) (above : List (List ℕ)) → Above t given r i above → r ≤ height t
above_within t given r i [] a = omega (arith, a)
above_within t given r i (p ∷ above) a = omega (arith, above_within t given (suc r) (i / branching t) above a.1)

names_within : (t : Table) (root : List ℕ) (given was : Given) (m r i : ℕ) → NamesAbove t root given was m r i → r ≤ height t
names_within t root given was zero r i names = above_within t given r i names.new.above names.new.above_it
names_within t root given was (suc m) r i names = omega (arith, names_within t root given was m (suc r) (i / branching t) names)

-- the bytes of a block of a row
size_at : Table → ℕ → ℕ
size_at t zero = t.data_block_size
size_at t (suc l) = t.hash_block_size

own_size : (t : Table) (image : List (List ℕ)) → IsTable t → Fits t image → (r i : ℕ) → i < row_len t r
    → length (own t image r i) ≡ size_at t r
unfolding size_at
own_size t image ok fits zero i low =
    All-get_or (λ b. length b ≡ t.data_block_size) image i [] (omega (arith, length-own_row t ok image fits 0, low)) fits.sized
own_size t image ok fits (suc l) i low =
    All-get_or (λ b. length b ≡ t.hash_block_size) _ i [] (omega (arith, length-own_row t ok image fits (suc l), low))
    (AllSized-row (hashing_of t) image l (is_hashing t ok))

module _ (t : Table) (root : List ℕ) (image old : List (List ℕ)) (ok : IsTable t) (fits : Fits t image) (old_fits : Fits
    (rooted t root) old)
    (given was : Given) (sized : AreSized t given) (was_sized : AreSized (rooted t root) was) where
  old_ok : IsTable (rooted t root)
  old_ok = record { data_size = ok.data_size; hash_size = ok.hash_size; blocks = ok.blocks; start = ok.start }

  -- a way out
  abbrev Out : Type 0
  Out = Clash t given image ⊎ (Clash (rooted t root) was old ⊎ Twins t (hashing_of t).digest image old)

  one_digest : (r i : ℕ) → r ≤ height t → i < row_len t r
      → (hashing_of t).digest (own t image r i) ≡ (hashing_of t).digest (own t old r i) → (own t image r i ≡ own t old r i) ⊎ Out
  unfolding size_at
  one_digest r i row low same = ⊎_elim inl
      (λ differ. inr (inr (inr (
        r,
        i,
        record {
          row = row;
          index = low;
          differ = differ;
          same_length = own_size t image ok fits r i low ∙ sym (own_size (rooted t root) old old_ok old_fits r i low);
          same_digest = same;
        },
      ))))
      (same_or_not (own t image r i) (own t old r i))

  -- the images have the same block where both lines name its digest alike
  alike_own : (m r i : ℕ) → i < row_len t r → NamesAbove t root given was m r i → (own t image r i ≡ own t old r i) ⊎ Out
  alike_own zero r i low names = ⊎_elim
      (λ new. ⊎_elim
      (λ before. one_digest r i (names_within t root given was zero r i names) low (sym new ∙ before))
      (λ clash. inr (inr (inl clash)))
      (named_own (rooted t root) old old_ok old_fits was was_sized r i names.digest low names.old))
      (λ clash. inr (inl clash))
      (named_own t image ok fits given sized r i names.digest low names.new)
  alike_own (suc m) r i low names = ⊎_elim
      (λ same. one_digest r i (omega (arith, names_within t root given was m (suc r) (i / branching t) names)) low
      (sym (own_named t image ok fits r i low) ∙ ap (λ b. slot (hashing_of t) b (i % branching t)) same
      ∙ own_named (rooted t root) old old_ok old_fits r i low))
      inr
      (alike_own m (suc r) (i / branching t) (parent_below t ok r i low) names)

  -- a place that is settled has the image's own block; or what it had, and then both images have one block there
  pub settled_own : {S : Type 0} (facts : store.Ghosts S) (r i number : ℕ) (before : List (List ℕ)) (s : S) → i < row_len t r
      → facts.tells s ≡ true → IsSettled facts t root given was r i number before s
      → ((get_or (facts.content s) number [] ≡ own t image r i)
      ⊎ ((get_or (facts.content s) number [] ≡ get_or before number []) × (own t image r i ≡ own t old r i))) ⊎ Out
  settled_own facts r i number before s low told settled = ⊎_elim
      (λ v. ⊎_elim
      (λ same. inl (inl (v.held told ∙ same)))
      (λ clash. inr (inl clash))
      (own_or_clash t image ok fits given sized r i v.chain.0 v.y low v.chain.1.above_it v.chain.1.link))
      (λ alike. ⊎_elim
      (λ same. inl (inr (alike.1, same)))
      inr
      (alike_own alike.0.rows r i low alike.0.names))
      settled

  -- so it's the image's own where it had the old image's
  now_own : {S : Type 0} (facts : store.Ghosts S) (r i number : ℕ) (before : List (List ℕ)) (s : S) → i < row_len t r
      → facts.tells s ≡ true → get_or before number [] ≡ own t old r i → IsSettled facts t root given was r i number before s
      → (get_or (facts.content s) number [] ≡ own t image r i) ⊎ Out
  now_own facts r i number before s low told had settled = ⊎_elim
      (λ found. ⊎_elim inl (λ kept. inl (kept.0 ∙ had ∙ sym kept.1)) found)
      inr
      (settled_own facts r i number before s low told settled)

  pub volume_over : {L K : Type 0} (data_facts : store.Ghosts L) (hash_facts : store.Ghosts K) (front old_data old_hash : List (List ℕ))
      (l : L) (k : K) → t.hash_start_block ≤ length front
      → IsPulledOver data_facts hash_facts t root given was front old_data old_hash l k → data_facts.tells l ≡ true
      → hash_facts.tells k ≡ true
      → ((n : ℕ) → n < t.data_blocks → get_or old_data n [] ≡ own t old 0 n)
      → ((v i : ℕ) → v < height t → i < row_len t (suc v) → get_or old_hash (hash_place t v i) [] ≡ own t old (suc v) i)
      → ((data_facts.content l ≡ image) × (hash_facts.content k ≡ take t.hash_start_block front ++ tree (hashing_of t) image)) ⊎ Out
  volume_over data_facts hash_facts front old_data old_hash l k room p told hash_told had had_hash = ⊎_elim
      (λ blocks. ⊎_elim
      (λ hashes. inl (
        ext_get_or [] (data_facts.content l) image (p.data_len ∙ sym fits.blocks) (λ n lt. blocks n (omega (arith, lt, p.data_len))),
        device t image ok fits given sized front (hash_facts.content k) room p.hash_len (p.hash_front hash_told) hashes,
      ))
      inr
      (all_or (λ v. (i : ℕ) → i < row_len t (suc v) → get_or (hash_facts.content k) (hash_place t v i) [] ≡ own t image (suc v) i)
      (height t)
      (λ v low. all_or (λ i. get_or (hash_facts.content k) (hash_place t v i) [] ≡ own t image (suc v) i) (row_len t (suc v))
      (λ i lt. now_own hash_facts (suc v) i (hash_place t v i) old_hash k lt hash_told (had_hash v i low lt) (p.hash_blocks v i low lt)))))
      inr
      (all_or (λ n. get_or (data_facts.content l) n [] ≡ own t image 0 n) t.data_blocks
      (λ n lt. now_own data_facts 0 n n old_data l (omega (arith, lt, row_len-first t)) told (had n lt) (p.data_blocks n lt)))
