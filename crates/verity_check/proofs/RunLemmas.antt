-- Runs of data blocks that were read, hashed and compared.
use Rattle.std.proofs.Common.{suc, zero, arith, true, ◌≡◌, ◌≢◌, ◌<◌, ◌≤◌, ◌+◌, ◌*◌, ℕ, List, [], ◌++◌, length, take, drop, get_or, sym}
use Rattle.std.proofs.Common.{ap, ◌∙◌, subst}
use Rattle.std.proofs.Math.Nat.{suc-mul, mul-le-mul_right}
use Rattle.std.proofs.Math.Seq.{take-append_seam}
use Rattle.verity_digest.proofs.Groups.{block_in_group}
use Rattle.std.proofs.lemmas.List.{drop-drop, length-take-le, length-drop}
use Rattle.std.specs.Fork.{slice_chunk}
use Rattle.verity_store.specs.Blocks.{cut}
use Rattle.verity_store.specs.Given.{GaveSince}
use Rattle.verity_store.specs.Stores.{IsOnlyRead}
use Rattle.verity_store.specs.declared.store.BlockStore as store
use Rattle.verity_chain.specs.Table.{Table, hashing_of}
use Rattle.verity_chain.specs.Chain.{Given, Names, EndsChain, WrongAt}
use Rattle.verity_check.specs.Range.{Served}
use Rattle.verity_chain.specs.Stores.{Gave, hash_given}
use Rattle.verity_report.specs.Stores.{Marks, given_in}
use Rattle.verity_chain.proofs.ChainLemmas.{Names-grows, chain_here, wrong_here}
use Rattle.verity_check.proofs.WalkLemmas.{given_in-more}

-- the blocks in front of more bytes
pub chunk_front : (front back : List ℕ) (size j m : ℕ) → j < m → length front ≡ m * size
    → slice_chunk front size j ≡ slice_chunk (front ++ back) size j
chunk_front front back size j m lt len =
    let none : 0 + j ≡ j = omega arith in
    let seam : take (m * size) (front ++ back) ≡ front = ap (λ k. take k (front ++ back)) (sym len) ∙ take-append_seam front back in
    ap (λ l. slice_chunk l size j) (sym seam) ∙ block_in_group (front ++ back) size 0 j m 0 lt (omega arith)
    ∙ ap (slice_chunk (front ++ back) size) none

-- the blocks of a run, each at the end of a chain
pub served_cut : (t : Table) (given : Given) (size n m : ℕ) (bytes : List ℕ) → n + m ≤ t.data_blocks
    → ((j : ℕ) → j < m → EndsChain t given 0 (n + j) (slice_chunk bytes size j)) → Served t given n (cut size m bytes)
served_cut t given size n zero bytes below each = tt
served_cut t given size n (suc m) bytes below each =
    let none : 0 * size ≡ 0 = omega arith in
    let here : n + 0 ≡ n = omega arith in (
      omega (arith, below),
      subst (λ i. EndsChain t given 0 i (take size bytes)) here
          (subst (λ o. EndsChain t given 0 (n + 0) (take size (drop o bytes))) none (each 0 (omega arith))),
      served_cut t given size (suc n) m (drop size bytes) (omega (arith, below)) (λ j lt.
          let next : size + j * size ≡ suc j * size = omega (arith, suc-mul j size) in
          let at : n + suc j ≡ suc n + j = omega arith in
          let same : slice_chunk bytes size (suc j) ≡ slice_chunk (drop size bytes) size j =
          ap (take size) (sym (drop-drop (j * size) size bytes ∙ ap (λ o. drop o bytes) next)) in
          subst (λ i. EndsChain t given 0 i (slice_chunk (drop size bytes) size j)) at
          (subst (λ b. EndsChain t given 0 (n + suc j) b) same (each (suc j) (omega (arith, lt))))),
    )

-- so many blocks were read from n on and hashed, and the digests that are named for them are known
pub record IsHashed {D H : Type 0} (data_facts : store.Ghosts D) (hash_facts : store.Ghosts H) (t : Table) (marks : Marks) (d new : D)
    (h : H) (n count : ℕ) (out : List ℕ) (digests names : List (List ℕ)) : Type 0 where
  pub keeps : IsOnlyRead data_facts d new
  pub size : data_facts.size d ≡ t.data_block_size
  pub room : count * t.data_block_size ≤ length out
  pub below : n + count ≤ t.data_blocks
  pub gave : (j : ℕ) → j < count → GaveSince (data_facts.given new) marks.of_data (n + j) (slice_chunk out t.data_block_size j)
  pub right : data_facts.tells d ≡ true → (j : ℕ) → j < count
      → get_or (data_facts.content d) (n + j) [] ≡ slice_chunk out t.data_block_size j
  pub digest : (j : ℕ) → j < count → get_or digests j [] ≡ (hashing_of t).digest (slice_chunk out t.data_block_size j)
  pub named : (j : ℕ) → j < count → Names t (hash_given hash_facts t marks.of_hash h) 0 (n + j) (get_or names j [])

module _ {D H : Type 0} (data_facts : store.Ghosts D) (hash_facts : store.Ghosts H) (t : Table) (marks : Marks) (d new : D) (h : H)
    (n count : ℕ) (out : List ℕ) (digests names : List (List ℕ))
    (is : IsHashed data_facts hash_facts t marks d new h n count out digests names) where
  chunk_len : (j : ℕ) → j < count → length (slice_chunk out t.data_block_size j) ≡ t.data_block_size
  chunk_len j lt =
      let up : suc j * t.data_block_size ≤ count * t.data_block_size = mul-le-mul_right t.data_block_size (omega (arith, lt)) in
      length-take-le t.data_block_size (drop (j * t.data_block_size) out)
      (omega (arith, up, is.room, suc-mul j t.data_block_size, length-drop (j * t.data_block_size) out))

  given_at : (j : ℕ) → j < count → Gave data_facts marks.of_data new (n + j) (slice_chunk out t.data_block_size j)
  given_at j lt = (
    is.gave j lt,
    chunk_len j lt ∙ sym (is.keeps.later.size ∙ is.size),
    λ told. ap (λ blocks. get_or blocks (n + j) []) is.keeps.content ∙ is.right (sym is.keeps.later.tells ∙ told) j lt,
  )

  named_at : (j : ℕ) → j < count → Names t (given_in data_facts hash_facts t marks new h) 0 (n + j) (get_or names j [])
  named_at j lt = Names-grows t (hash_given hash_facts t marks.of_hash h) (given_in data_facts hash_facts t marks new h)
      (given_in-more data_facts hash_facts t marks new h) 0 (n + j) (get_or names j []) (is.named j lt)

  -- those whose digest is the one that is named were checked
  pub run_served : (good : ℕ) → good ≤ count → ((j : ℕ) → j < good → get_or digests j [] ≡ get_or names j [])
      → Served t (given_in data_facts hash_facts t marks new h) n (cut t.data_block_size good out)
  run_served good most same = served_cut t (given_in data_facts hash_facts t marks new h) t.data_block_size n good out
      (omega (arith, most, is.below))
      (λ j lt. chain_here t (given_in data_facts hash_facts t marks new h) 0 (n + j) (get_or names j [])
      (slice_chunk out t.data_block_size j) (named_at j (omega (arith, lt, most))) (given_at j (omega (arith, lt, most)))
      (sym (is.digest j (omega (arith, lt, most))) ∙ same j lt))

  -- one whose digest isn't is wrong
  pub run_wrong : (j : ℕ) → j < count → get_or digests j [] ≢ get_or names j []
      → WrongAt t (given_in data_facts hash_facts t marks new h) 0 (n + j)
  run_wrong j lt differs = wrong_here t (given_in data_facts hash_facts t marks new h) 0 (n + j) (get_or names j [])
      (slice_chunk out t.data_block_size j) (named_at j lt) (given_at j lt) (λ e. differs (is.digest j lt ∙ e))
