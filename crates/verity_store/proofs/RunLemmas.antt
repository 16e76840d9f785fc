-- Blocks that stand one after the other in a buffer, one of which is written, and what a log of given blocks holds of them.
use Rattle.std.proofs.Common.{◌≡◌, ℕ, zero, suc, ◌+◌, ◌*◌, ◌<◌, ◌≤◌, List, [], ◌∷◌, ◌++◌, inl, inr, ◌∙◌, length, take, drop, arith}
use Rattle.std.proofs.Common.{refl, sym, ap, subst}
use Rattle.std.proofs.lemmas.Bool.{cases_lt}
use Rattle.std.proofs.lemmas.List.{append_assoc}
use Rattle.std.proofs.Math.Seq.{take-append_seam}
use Rattle.std.proofs.lemmas.List.{drop-take, drop_at, length-take-le}
use Rattle.std.proofs.lemmas.Slice.{take-put_mid, take-put_mid_below}
use Rattle.std.proofs.Math.Nat.{mul-le-mul_left}
use Rattle.std.specs.Fork.{slice_chunk}
use borrow.Rule.Slice.PartMut.{put_mid}
use Rattle.verity_store.specs.Given.{GoesOn, GaveSince, run_of, GivesPart}
use Rattle.verity_store.proofs.GivenLemmas.{goes_on_len, since_on, since_now}

-- the blocks in front of the one that is written stay
pub chunk_below : (room ys : List ℕ) (size j k s : ℕ) → j < k → k * size ≤ length room →
    slice_chunk (put_mid (k * size) s room ys) size j ≡ slice_chunk room size j
chunk_below room ys size j k s lt fits =
    let next : j + 1 ≤ k = omega arith in
    let e : j * size + size ≤ k * size = omega (arith, mul-le-mul_left size next) in
    let cut : (l : List ℕ) → drop (j * size) (take (j * size + size) l) ≡ slice_chunk l size j = λ l. drop-take (j * size) size l in
    sym (cut (put_mid (k * size) s room ys))
    ∙ ap (drop (j * size)) (take-put_mid_below (k * size) s room ys (j * size + size) e fits) ∙ cut room

-- the one that is written holds what was written
pub chunk_here : (room ys : List ℕ) (size k s : ℕ) → length ys ≡ size → k * size ≤ length room →
    slice_chunk (put_mid (k * size) s room ys) size k ≡ ys
chunk_here room ys size k s len fits =
    let m : ℕ = k * size in
    let front : length (take m room) ≡ m = length-take-le m room fits in
    let cut : drop m (take (m + size) (put_mid m s room ys)) ≡ slice_chunk (put_mid m s room ys) size k =
    drop-take m size (put_mid m s room ys) in
    sym cut
    ∙ ap (drop m) (take-put_mid m s room ys (m + size) (omega arith) fits)
    ∙ drop_at (take m room) ys m front

-- a run is the blocks of its buffer and nothing else of it
pub run_same : (first size count : ℕ) (xs ys : List ℕ) → ((k : ℕ) → k < count → slice_chunk xs size k ≡ slice_chunk ys size k) →
    run_of first size count xs ≡ run_of first size count ys
run_same first size zero xs ys same = refl
run_same first size (suc count) xs ys same =
    ap (λ rows. rows ++ (first + count, slice_chunk xs size count) ∷ []) (run_same first size count xs ys (λ k lt. same k (omega arith)))
    ∙ ap (λ block. run_of first size count ys ++ (first + count, block) ∷ []) (same count (omega arith))

-- a log that goes on by a run goes on by one block more of it
pub run_step : (log : List (ℕ × List ℕ)) (first size count : ℕ) (xs ys block : List ℕ)
    → ((k : ℕ) → k < count → slice_chunk ys size k ≡ slice_chunk xs size k) → slice_chunk ys size count ≡ block
    → (log ++ run_of first size count xs) ++ (first + count, block) ∷ [] ≡ log ++ run_of first size (count + 1) ys
run_step log first size count xs ys block below here =
    let next : suc count ≡ count + 1 = omega arith in
    append_assoc log (run_of first size count xs) ((first + count, block) ∷ [])
    ∙ ap (λ rows. log ++ (rows ++ (first + count, block) ∷ [])) (sym (run_same first size count ys xs below))
    ∙ ap (λ b. log ++ (run_of first size count ys ++ (first + count, b) ∷ [])) (sym here)
    ∙ ap (λ n. log ++ run_of first size n ys) next

-- where the next block of a run fails, whatever it left in its place, the log holds the blocks in front of it
pub run_part : (old new : List (ℕ × List ℕ)) (first size count m : ℕ) (xs ys : List ℕ) → m ≤ count
    → ((k : ℕ) → k < m → slice_chunk ys size k ≡ slice_chunk xs size k) → new ≡ old ++ run_of first size m xs →
    GivesPart first size count ys old new
run_part old new first size count m xs ys most below is = (m, most, is ∙ ap (λ rows. old ++ rows) (sym (run_same first size m ys xs below)))

pub goes_on_more : (old new more : List (ℕ × List ℕ)) → new ≡ old ++ more → GoesOn old new
goes_on_more old new more is = subst (λ rows. GoesOn old rows) (sym is) (take-append_seam old more)

-- each block of a run by which a log goes on was given since any mark that was made before
pub since_run : (old : List (ℕ × List ℕ)) (mark first size count : ℕ) (out : List ℕ) → mark ≤ length old → (j : ℕ) → j < count
    → GaveSince (old ++ run_of first size count out) mark (first + j) (slice_chunk out size j)
since_run old mark first size zero out inside j below = absurd (omega arith)
since_run old mark first size (suc count) out inside j below =
    let front : List (ℕ × List ℕ) = old ++ run_of first size count out in
    let last : List (ℕ × List ℕ) = (first + count, slice_chunk out size count) ∷ [] in
    let whole : front ++ last ≡ old ++ run_of first size (suc count) out = append_assoc old (run_of first size count out) last in
    let on : GoesOn old front = take-append_seam old (run_of first size count out) in
    subst (λ rows. GaveSince rows mark (first + j) (slice_chunk out size j)) whole
    (elim (cases_lt j count) [
      | inl lt ↦ since_on front (front ++ last) (take-append_seam front last) mark (first + j) (slice_chunk out size j)
          (since_run old mark first size count out inside j lt)
      | inr ge ↦
          let e : count ≡ j = omega arith in
          subst (λ i. GaveSince (front ++ last) mark (first + i) (slice_chunk out size i)) e
          (since_now front mark (first + count) (slice_chunk out size count) (omega (arith, goes_on_len old front on)))
    ])
