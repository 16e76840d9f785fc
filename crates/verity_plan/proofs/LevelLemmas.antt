-- One block of a level that is made again.
use Rattle.std.proofs.Common.{◌≡◌, ℕ, ◌+◌, ◌-◌, ◌*◌, ◌/◌, ◌<◌, ◌≤◌, min, List, [], length, drop, get_or, Option, ⊎_elim, sym, ap}
use Rattle.std.proofs.Common.{◌∙◌, subst, arith, lit<}
use Rattle.std.specs.Prelude.{IfSome}
use Rattle.std.specs.Fork.{slice_chunk}
use Rattle.std.proofs.Math.Nat.{mul-le-mul_right}
use Rattle.std.proofs.lemmas.Bool.{cases_lt}
use Rattle.std.proofs.lemmas.List.{get_or-take, get_or-drop, length-take, length-drop}
use Rattle.verity_digest.specs.Tree.{Hashing, per_block, hash_block}
use Rattle.verity_digest.specs.declared.algorithm.Algorithm.{Algorithm}
use Rattle.verity_digest.specs.declared.algorithm.Algorithm.TheVariants.{Sha256, Sha512}
use Rattle.verity_digest.specs.Hash.{size_of}
use Rattle.verity_digest.proofs.Slots.{AreSized, slot-hash_block}
use Rattle.verity_store.proofs.BlockLemmas.{get_or-cut}
use Rattle.verity_pending.specs.declared.child.Child.{Child}
use Rattle.verity_plan.specs.declared.level.OldLevel.{OldLevel}
use Rattle.verity_pending.specs.Slots.{slots}
use Rattle.verity_plan.specs.Remade.{CanRemake}
use Rattle.verity_plan.specs.Level.{Holds, Renews}
use Rattle.verity_pending.proofs.Untouched.{div_of}

-- the slots of a hash block are its run of digests
pub slot_of_run : (h : Hashing) (old : List (List ℕ)) (k i r : ℕ) →
    ((j : ℕ) → j < length old → length (get_or old j []) ≡ h.digest_size) → r < k → i * k + r < length old
    → get_or (slots h.digest_size k (hash_block h (slice_chunk old k i))) r [] ≡ get_or old (i * k + r) []
slot_of_run h old k i r sized low inside =
    let run : List (List ℕ) = slice_chunk old k i in
    let short : length run ≡ min k (length old - i * k) = length-take k (drop (i * k) old) ∙ ap (λ n. min k n) (length-drop (i * k) old) in
    let at : (a : ℕ) → a < k → get_or run a [] ≡ get_or old (i * k + a) [] = λ a l. get_or-take k (drop (i * k) old) a [] l
    ∙ get_or-drop (i * k) old a [] in
    let run_sized : AreSized h.digest_size run = record {
      each = λ a l. let b : a < k = omega arith in
          ap length (at a b) ∙ sized (i * k + a) (omega arith);
    } in
    get_or-cut h.digest_size k (hash_block h run) r low
    ∙ slot-hash_block h run r run_sized (omega arith)
    ∙ at r low

pub can_remake : (h : Hashing) (old new : List (List ℕ)) (k i digests len : ℕ) (level : OldLevel) (content : List (List ℕ))
    (children : List Child) (before : List ℕ)
    → h.block_size ≡ length before → per_block h ≡ k → 0 < k → i * k < digests → len ≡ min (digests - i * k) k
    → (i < level.len → before ≡ get_or content (level.start + i) [])
    → (level.len ≤ i → i ≡ 0 → IfSome level.first (λ digest. get_or (slots h.digest_size k before) 0 [] ≡ digest))
    → length new ≡ digests → Holds h old level content → Renews h.digest_size old new children → CanRemake h new k i len children before
can_remake h old new k i digests len level content children before bytes width p inside whole read first count holds renews =
    let run : List (List ℕ) = slice_chunk new k i in
    let short : length run ≡ min k (length new - i * k) = length-take k (drop (i * k) new) ∙ ap (λ n. min k n) (length-drop (i * k) new) in
    record {
      block_size = bytes;
      inside = omega arith;
      whole = omega arith;
      sized = renews.sized;
      named = renews.named;
      rising = renews.rising;
      kept = λ r low none.
          let r_low : r < k = omega arith in
          let j : ℕ = i * k + r in
          let other = renews.others j (omega arith) none in
          let old_j : j < length old = other.0 in
          let at : j / k ≡ i = div_of i k j (omega arith) (omega arith) in
          ⊎_elim
          (λ there.
          let block : before ≡ hash_block h (slice_chunk old k i) = read there ∙ holds.blocks i there
          ∙ ap (λ w. hash_block h (slice_chunk old w i)) width in
          ap (λ b. get_or (slots h.digest_size k b) r []) block ∙ slot_of_run h old k i r renews.old_sized r_low old_j ∙ sym other.1)
          (λ far.
          let kept_first = ⊎_elim
          (λ l. let m : i < level.len = subst (λ (q : ℕ). q < level.len) (ap (λ w. j / w) width ∙ at) l in absurd (omega arith))
          (λ f. f) (holds.rest j old_j) in
          let r_zero : r ≡ 0 = (let z = kept_first.0 in omega arith) in
          let i_zero : i ≡ 0 = ⊎_elim (λ some. let w : 1 * k ≤ i * k = mul-le-mul_right k some in let z = kept_first.0 in
          absurd (omega arith)) (λ z. omega arith) (cases_lt 0 i) in
          let P : Option (List ℕ) → Type 0 = λ o. IfSome o (λ digest. get_or (slots h.digest_size k before) 0 [] ≡ digest) in
          let root : get_or (slots h.digest_size k before) 0 [] ≡ get_or old 0 [] = subst P kept_first.1 (first far i_zero) in
          ap (λ n. get_or (slots h.digest_size k before) n []) r_zero ∙ root ∙ ap (λ n. get_or old n []) (sym kept_first.0) ∙ sym other.1)
          (cases_lt i level.len);
    }

-- a digest has bytes
pub size_some : (algorithm : Algorithm) → 0 < size_of algorithm
size_some Sha256 = lit< tt
size_some Sha512 = lit< tt
