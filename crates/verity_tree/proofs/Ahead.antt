-- Digests that are made ahead, as they are made and taken.
use Rattle.std.proofs.Common.{◌≡◌, ℕ, ◌+◌, ◌*◌, ◌<◌, ◌≤◌, List, [], ◌++◌, true, length, get_or, sym, ap, ◌∙◌, subst, arith}
use Rattle.std.proofs.Math.Nat.{mul-le-mul_right, add-mul}
use Rattle.std.proofs.lemmas.List.{get_or_append_left}
use Rattle.std.specs.Fork.{slice_chunk}
use Rattle.verity_digest.specs.Hash.{Salted, salted_digest}
use Rattle.verity_digest.proofs.Sha.{length-digest_of}
use Rattle.verity_digest.proofs.Sized.{length-run}
use Rattle.verity_store.specs.Given.{GaveSince, run_of}
use Rattle.verity_store.proofs.RunLemmas.{since_run}
use Rattle.verity_store.specs.declared.store.BlockStore as store
use Rattle.std.specs.Prelude.{Option}
use Rattle.verity_tree.specs.Open.{Open}
use Rattle.verity_tree.specs.Climb.{Comes}
use Rattle.verity_tree.specs.Ahead.{AreAhead, AreOfGiven, IsOfGiven}

-- those of a run of blocks from n on, in front of what is left of older ones
pub ahead_made : {S : Type 0} (facts : store.Ghosts S) (salted : Salted) (n : ℕ) (s : S) (made old : List (List ℕ)) (run : List ℕ)
    (size count : ℕ) → length made ≡ count → n + count ≤ length (facts.content s)
    → ((j : ℕ) → j < count → get_or made j [] ≡ salted_digest salted (slice_chunk run size j))
    → (facts.tells s ≡ true → (j : ℕ) → j < count → get_or (facts.content s) (n + j) [] ≡ slice_chunk run size j)
    → AreAhead facts salted n s (made ++ old) 0 count
ahead_made facts salted n s made old run size count len within digests right =
    let front : (j : ℕ) → j < count → get_or (made ++ old) (0 + j) [] ≡ salted_digest salted (slice_chunk run size j) = λ j below.
    let place : 0 + j ≡ j = omega arith in
    ap (λ k. get_or (made ++ old) k []) place ∙ get_or_append_left made old [] j (omega arith) ∙ digests j below in
    record {
      order = omega arith;
      within = omega arith;
      sized = λ j below. ap length (front j (omega arith)) ∙ length-digest_of salted.algorithm (salted.salt ++ slice_chunk run size j);
      right = λ tells j below. front j (omega arith) ∙ ap (salted_digest salted) (sym (right tells j (omega arith)));
    }

-- the first of them is taken
pub ahead_taken : {S : Type 0} (facts : store.Ghosts S) (salted : Salted) (n : ℕ) (s : S) (digests : List (List ℕ)) (taken held : ℕ)
    → taken < held
    → AreAhead facts salted n s digests taken held → AreAhead facts salted (n + 1) s digests (taken + 1) held
ahead_taken facts salted n s digests taken held some ahead =
    record {
      order = omega arith;
      within = omega (arith, ahead.within);
      sized = λ j below.
          let place : taken + 1 + j ≡ taken + (j + 1) = omega arith in
          ap (λ k. length (get_or digests k [])) place ∙ ahead.sized (j + 1) (omega arith);
      right = λ tells j below.
          let place : taken + 1 + j ≡ taken + (j + 1) = omega arith in
          let block : n + (j + 1) ≡ n + 1 + j = omega arith in
          ap (λ k. get_or digests k []) place ∙ ahead.right tells (j + 1) (omega arith)
          ∙ ap (λ k. salted_digest salted (get_or (facts.content s) k [])) block;
    }

-- nothing is ahead
pub ahead_none : {S : Type 0} (facts : store.Ghosts S) (salted : Salted) (n : ℕ) (s : S) (digests : List (List ℕ)) (taken held : ℕ)
    → taken ≡ held → n ≤ length (facts.content s) → AreAhead facts salted n s digests taken held
ahead_none facts salted n s digests taken held none within =
    record {
      order = omega arith;
      within = omega arith;
      sized = λ j below. absurd (omega arith);
      right = λ tells j below. absurd (omega arith);
    }

-- a digest comes, and the open blocks were not touched before
pub comes_now : (digest : List ℕ) (old same new : List Open) (old_root same_root new_root : Option (List ℕ)) → same ≡ old →
    same_root ≡ old_root
    → Comes 0 digest same new same_root new_root → Comes 0 digest old new old_root new_root
comes_now digest old same new old_root same_root new_root opens root comes =
    subst (λ r. Comes 0 digest old new r new_root) root (subst (λ o. Comes 0 digest o new same_root new_root) opens comes)

-- a block of a run has its size
length_chunk : (run : List ℕ) (size j count : ℕ) → length run ≡ count * size → j < count → length (slice_chunk run size j) ≡ size
length_chunk run size j count whole below =
    let next : j + 1 ≤ count = omega (arith, below) in
    let fits : (j + 1) * size ≤ count * size = mul-le-mul_right size next in
    let more : (j + 1) * size ≡ j * size + 1 * size = add-mul j 1 size in
    let least = length-run run size j in
    omega (arith, least, whole, fits, more)

-- those of a run of blocks that was read are of given ones
pub given_made : {S : Type 0} (facts : store.Ghosts S) (salted : Salted) (mark n : ℕ) (before s : S) (made old : List (List ℕ))
    (run : List ℕ) (size count : ℕ) → length made ≡ count → mark ≤ length (facts.given before)
    → facts.given s ≡ facts.given before ++ run_of n size count run → length run ≡ count * size → facts.size s ≡ size
    → ((j : ℕ) → j < count → get_or made j [] ≡ salted_digest salted (slice_chunk run size j))
    → AreOfGiven facts salted mark n s (made ++ old) 0 count
given_made facts salted mark n before s made old run size count len marked log whole sized digests j held =
    let place : 0 + j ≡ j = omega arith in
    let below : j < count = omega (arith, held) in
    record {
      block = slice_chunk run size j;
      is = ap (λ k. get_or (made ++ old) k []) place ∙ get_or_append_left made old [] j (omega (arith, len, below)) ∙ digests j below;
      sized = length_chunk run size j count whole below ∙ sym sized;
      gave = subst (λ rows. GaveSince rows mark (n + j) (slice_chunk run size j)) (sym log)
          (since_run (facts.given before) mark n size count run marked j below);
    }

-- the first of them is taken
pub given_taken : {S : Type 0} (facts : store.Ghosts S) (salted : Salted) (mark n : ℕ) (s : S) (digests : List (List ℕ)) (taken held : ℕ)
    → taken < held → AreOfGiven facts salted mark n s digests taken held
    → IsOfGiven facts salted mark n s (get_or digests taken []) × AreOfGiven facts salted mark (n + 1) s digests (taken + 1) held
given_taken facts salted mark n s digests taken held some given =
    let first : taken + 0 ≡ taken = omega arith in
    let number : n + 0 ≡ n = omega arith in (
      subst (λ k. IsOfGiven facts salted mark k s (get_or digests taken [])) number
          (subst (λ k. IsOfGiven facts salted mark (n + 0) s (get_or digests k [])) first (given 0 (omega (arith, some)))),
      λ j below.
          let place : taken + (j + 1) ≡ taken + 1 + j = omega arith in
          let block : n + (j + 1) ≡ n + 1 + j = omega arith in
          subst (λ k. IsOfGiven facts salted mark k s (get_or digests (taken + 1 + j) [])) block
          (subst (λ k. IsOfGiven facts salted mark (n + (j + 1)) s (get_or digests k [])) place (given (j + 1) (omega (arith, below)))),
    )
