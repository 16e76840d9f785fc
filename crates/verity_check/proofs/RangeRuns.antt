-- Steps of a read through a range, a run of data blocks at a time.
use Rattle.std.proofs.Common.{suc, zero, arith, ◌≡◌, ◌<◌, ◌≤◌, ◌+◌, ◌-◌, ◌*◌, ◌/◌, ◌%◌, ◌^◌, ℕ, List, [], ◌∷◌, ◌++◌, length, take, drop}
use Rattle.std.proofs.Common.{sym, refl, ap, ◌∙◌, subst, mul-le-mul_right}
use Rattle.std.specs.List.{concat}
use Rattle.std.proofs.Math.Nat.{add-mul}
use Rattle.std.proofs.lemmas.Nat.{mod_below, div-add-mod', le-div}
use Rattle.std.proofs.lemmas.List.{append_assoc, length-append, length-drop, length-take, drop-append-le, take-append-le}
use Rattle.verity_profile.proofs.Bounds.{block_size_high, block_count_high}
use Rattle.verity_store.specs.Blocks.{cut}
use Rattle.verity_store.proofs.BlockLemmas.{length-cut, concat-cut}
use Rattle.verity_chain.specs.Table.{Table, IsTable}
use Rattle.verity_chain.specs.Chain.{Given}
use Rattle.verity_check.specs.Range.{Touches, touched, Served}
use Rattle.verity_check.specs.Refusal.{RefusesAfter, RefusesOneOf}
use Rattle.verity_check.specs.declared.fault.CheckFault.{CheckFault}
use Rattle.verity_chain.proofs.ChainLemmas.{Grows}
use Rattle.verity_check.proofs.RangeLemmas.{IsDone, Served-grows, take_piece, below_blocks, Explains-more, refuses_next}

module _ (t : Table) (given : Given) where
  -- blocks that are served, and those behind them
  pub Served-append : (n : ℕ) (xs ys : List (List ℕ)) (m : ℕ) → m ≡ n + length xs → Served t given n xs → Served t given m ys
      → Served t given n (xs ++ ys)
  Served-append n [] ys m e s after = subst (λ i. Served t given i ys) (let at : m ≡ n = omega (arith, e) in at) after
  Served-append n (x ∷ xs) ys m e s after = (s.0, s.1, Served-append (suc n) xs ys m (omega (arith, e)) s.2 after)

concat_both : (xs ys : List (List ℕ)) (c : List ℕ) → concat (xs ++ ys) ++ c ≡ concat xs ++ (concat ys ++ c)
concat_both [] ys c = refl
concat_both (x ∷ xs) ys c = append_assoc x (concat (xs ++ ys)) c ∙ ap (λ l. x ++ l) (concat_both xs ys c)
    ∙ sym (append_assoc x (concat xs) (concat ys ++ c))

-- a run of blocks more
pub done_run : (t : Table) (given more : Given) → Grows given more → (offset len n skip left : ℕ) (done : List ℕ)
    → IsDone t given offset len n skip left done → (size count : ℕ) (x : List ℕ) → length x ≡ count * size
    → Served t more n (cut size count x) → skip ≤ length x → (piece : ℕ) → piece ≡ Prim.Native.Nat.min left (length x - skip)
    → IsDone t more offset len (n + count) 0 (left - piece) (done ++ take piece (drop skip x))
done_run t given more g offset len n skip left done d size count x whole served l piece e = record {
  blocks = d.blocks ++ cut size count x;
  served = Served-append t more (offset / t.data_block_size) d.blocks (cut size count x) n d.at
      (Served-grows t given more g (offset / t.data_block_size) d.blocks d.served) served;
  at = omega (arith, d.at, length-append d.blocks (cut size count x), length-cut size count x);
  count =
      let part = length-take piece (drop skip x) ∙ ap (Prim.Native.Nat.min piece) (length-drop skip x) in
      omega (arith, d.count, length-append done (take piece (drop skip x)), part, e);
  split = λ c.
      ap (λ l. take len (drop (offset % t.data_block_size) l))
      (concat_both d.blocks (cut size count x) c ∙ ap (λ b. concat d.blocks ++ (b ++ c)) (concat-cut size count x whole))
      ∙ d.split (x ++ c) ∙ ap (λ l. done ++ l) (take_piece left skip x c l piece e)
      ∙ sym (append_assoc done (take piece (drop skip x)) (take (left - piece) c));
}

-- a piece of what stands in front of more bytes
pub piece_front : (front back : List ℕ) (skip piece : ℕ) → skip + piece ≤ length front
    → take piece (drop skip (front ++ back)) ≡ take piece (drop skip front)
piece_front front back skip piece fits =
    ap (take piece) (drop-append-le skip front back (omega (arith, fits)))
    ∙ take-append-le piece (drop skip front) back (omega (arith, fits, length-drop skip front))

-- the blocks of a run begin before the end of the range
pub run_within : (n count size skip left end j : ℕ) → 0 < size → 0 < left → count ≤ (skip + left - 1) / size + 1
    → n * size + skip + left ≡ end → j < count → (n + j) * size < end
run_within n count size skip left end j some more most at lt =
    let up : j * size ≤ (skip + left - 1) / size * size = mul-le-mul_right size (omega (arith, most, lt)) in
    omega (arith, up, div-add-mod' (skip + left - 1) size, add-mul n j size, more, at)

-- a block that begins before the end of the range, and not before its first, is one of it
pub touches_at : (t : Table) (offset len m : ℕ) → 0 < t.data_block_size → 0 < len → offset / t.data_block_size ≤ m
    → m * t.data_block_size < offset + len → Touches t offset len m
touches_at t offset len m size some from before =
    let low = mod_below offset t.data_block_size size in
    let split : offset / t.data_block_size * t.data_block_size + offset % t.data_block_size ≡ offset =
    div-add-mod' offset t.data_block_size in
    let up : (suc (offset / t.data_block_size)) * t.data_block_size ≤ suc m * t.data_block_size =
    mul-le-mul_right t.data_block_size (omega (arith, from)) in
    let one : suc (offset / t.data_block_size) * t.data_block_size ≡ offset / t.data_block_size * t.data_block_size + t.data_block_size =
    (let e : suc (offset / t.data_block_size) ≡ offset / t.data_block_size + 1 = omega arith in ap (λ x. x * t.data_block_size) e
    ∙ add-mul (offset / t.data_block_size) 1 t.data_block_size ∙ omega arith) in
    record { some = some; begins = before; ends = omega (arith, low, split, up, one) }

-- the blocks up to it are no more than the range has
pub touched_at : (t : Table) (offset len m : ℕ) → 0 < t.data_block_size → 0 < len → m * t.data_block_size < offset + len
    → m + 1 ≤ offset / t.data_block_size + touched t offset len
touched_at t offset zero m size some before = absurd (omega (arith, some))
touched_at t offset (suc len) m size some before =
    let last = le-div m (offset + len) t.data_block_size size (omega (arith, before)) in
    omega (arith, last)

-- a run ends inside the volume
pub run_below : (n count size skip left end blocks : ℕ) → 0 < size → 0 < left → 0 < count → count ≤ (skip + left - 1) / size + 1
    → n * size + skip + left ≡ end → end ≤ blocks * size → n + count ≤ blocks
run_below n count size skip left end blocks some more few most at inside =
    let last = run_within n count size skip left end (count - 1) some more most at (omega (arith, few)) in
    let below = below_blocks (n + (count - 1)) size 1 blocks (omega arith) (omega (arith, last, inside)) in
    omega (arith, below, few)

pub run_few : (t : Table) (offset len n count skip left : ℕ) → 0 < t.data_block_size → 0 < left → left ≤ len → 0 < count
    → count ≤ (skip + left - 1) / t.data_block_size + 1 → n * t.data_block_size + skip + left ≡ offset + len
    → n + count ≤ offset / t.data_block_size + touched t offset len
run_few t offset len n count skip left some more part few most at =
    let last = run_within n count t.data_block_size skip left (offset + len) (count - 1) some more most at (omega (arith, few)) in
    let all = touched_at t offset len (n + (count - 1)) some (omega (arith, more, part)) last in
    omega (arith, all, few)

-- a range has fewer bytes than a number can say
pub end_small : (t : Table) → IsTable t → (end : ℕ) → end ≤ t.data_blocks * t.data_block_size → end ≤ 2 ^ 59
end_small t ok end inside =
    let wide : t.data_blocks * t.data_block_size ≤ 2 ^ 40 * t.data_block_size =
    mul-le-mul_right t.data_block_size (block_count_high t.data_blocks ok.blocks) in
    let high = block_size_high t.data_block_size ok.data_size in
    omega (arith, inside, wide, high)

-- a refusal of a block of a run is one of the range
pub refuses_run : (t : Table) (given more : Given) → Grows given more → (p q p' q' : Type 0) → (p → p') → (q → q')
    → (offset len n skip left : ℕ) (done : List ℕ) → IsDone t given offset len n skip left done → (count : ℕ)
    → 0 < t.data_block_size → 0 < left → count ≤ (skip + left - 1) / t.data_block_size + 1
    → n * t.data_block_size + skip + left ≡ offset + len
    → (fault : CheckFault) → RefusesOneOf t more p q n count fault → RefusesAfter t more p' q' offset len fault
refuses_run t given more g p q p' q' f h offset len n skip left done d count size some most at fault why =
    let before = run_within n count t.data_block_size skip left (offset + len) (length why.0) size some most at why.2 in
    let first : offset / t.data_block_size ≤ n = omega (arith, d.at) in
    refuses_next t more p' q' offset len (n + length why.0) (d.blocks ++ why.0)
    (Served-append t more (offset / t.data_block_size) d.blocks why.0 n d.at
    (Served-grows t given more g (offset / t.data_block_size) d.blocks d.served) why.1)
    (omega (arith, d.at, length-append d.blocks why.0))
    (touches_at t offset len (n + length why.0) size (omega (arith, some, d.count)) (omega (arith, first)) before)
    fault (Explains-more t more more (λ r i y gave. gave) p p' q q' f h (n + length why.0) fault why.3)
