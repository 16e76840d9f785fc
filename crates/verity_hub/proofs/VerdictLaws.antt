-- What reads leave of a verifier's facts, and what its answers say as an export's.
use Rattle.std.proofs.Common.{◌≡◌, ◌≢◌, ◌⊎◌, ◌<◌, ◌≤◌, ◌+◌, ◌-◌, ◌*◌, ℕ, true, List, length, take, drop, inl, inr, sym, ap, ◌∙◌}
use Rattle.std.proofs.Common.{subst, arith}
use Rattle.verity_digest.specs.Tree.{tree}
use Rattle.verity_store.specs.declared.store.BlockStore as store
use Rattle.verity_check.specs.declared.fault.CheckFault.{CheckFault}
use Rattle.verity_check.specs.declared.fault.CheckFault.TheVariants as faults
use Rattle.verity_chain.specs.Table.{Table, hashing_of, height, path_index}
use Rattle.verity_chain.specs.Right.{Fits, AreRight}
use Rattle.verity_check.specs.Range.{ServesBytes, Wrong, touched}
use Rattle.verity_check.specs.Refusal.{Refuses}
use Rattle.verity_report.specs.Stores.{Marks, given_in}
use Rattle.verity_check.specs.Holds.{Holds}
use Rattle.verity_check.specs.Verifier.{Verifying, given_to, IsOnlyReading, IsVerifier, DataFailed, HashFailed, MayServe, MayRefuse}
use Rattle.verity_chain.proofs.ChainLemmas.{Grows, WrongAt-grows}
use Rattle.verity_check.proofs.WalkLemmas.{given_in-grows}
use Rattle.verity_check.proofs.RangeLemmas.{Served-grows}
use Rattle.verity_check.proofs.RangeLaw.{bytes_right}
use Rattle.verity_check.proofs.VerifierLemmas.{sized, verifier_after}
use Rattle.verity_check.proofs.HoldsLaws.{bytes_exact, refusal_failed}
use Rattle.nbd_session.specs.Export.{Costs, Keeps, Served, Failed}
use Rattle.nbd_session.specs.Talk.{Verdict, Bytes, Refused}
use Rattle.nbd_hub.specs.After.{Given as GivenBy}
use Rattle.verity_hub.specs.Verdicts.{HoldsFor, failures_of, reads_of, facts_of, IsRightFor}

module _ {D H : Type 0} (data_facts : store.Ghosts D) (hash_facts : store.Ghosts H) where
  module _ (v w : Verifying D H) (reads : IsOnlyReading data_facts hash_facts v w) where
    -- what was given under a table line stays given
    given_grows : Grows (given_in data_facts hash_facts v.table v.since v.data_store v.hash_store)
        (given_in data_facts hash_facts v.table v.since w.data_store w.hash_store)
    given_grows = given_in-grows data_facts hash_facts v.table v.since v.data_store w.data_store v.hash_store w.hash_store
        reads.data_store reads.hash_store

    serves : (offset : ℕ) (bytes : List ℕ) → MayServe data_facts hash_facts v offset bytes → MayServe data_facts hash_facts w offset bytes
    serves offset bytes s =
        let P : Table → Type 0 = λ t. ServesBytes t (given_in data_facts hash_facts t w.since w.data_store w.hash_store) offset
        (length bytes) bytes in
        let Q : Marks → Type 0 = λ m. ServesBytes v.table (given_in data_facts hash_facts v.table m w.data_store w.hash_store)
        offset (length bytes) bytes in
        subst P (sym reads.table) (subst Q (sym reads.since) (record {
          blocks = s.blocks;
          served = Served-grows v.table (given_in data_facts hash_facts v.table v.since v.data_store v.hash_store)
              (given_in data_facts hash_facts v.table v.since w.data_store w.hash_store) given_grows _ s.blocks s.served;
          cut = s.cut;
          whole = s.whole;
        }))

    refuses : (offset len : ℕ) → MayRefuse data_facts hash_facts v offset len → MayRefuse data_facts hash_facts w offset len
    refuses offset len (inl x) =
        let P : Table → Type 0 = λ t. Wrong t (given_in data_facts hash_facts t w.since w.data_store w.hash_store) offset len in
        let Q : Marks → Type 0 = λ m. Wrong v.table (given_in data_facts hash_facts v.table m w.data_store w.hash_store) offset len in
        inl (subst P (sym reads.table) (subst Q (sym reads.since) (
          x.0,
          x.1,
          x.2,
          WrongAt-grows v.table (given_in data_facts hash_facts v.table v.since v.data_store v.hash_store)
              (given_in data_facts hash_facts v.table v.since w.data_store w.hash_store) given_grows x.1 (path_index v.table x.0 x.1) x.3,
        )))
    refuses offset len (inr (inl f)) = let m = reads.data_mark in let l = reads.data_store.later.failures in inr (inl (omega arith))
    refuses offset len (inr (inr f)) = let m = reads.hash_mark in let l = reads.hash_store.later.failures in inr (inr (omega arith))

    holds : (image : List (List ℕ)) → HoldsFor data_facts hash_facts v image → HoldsFor data_facts hash_facts w image
    holds image h =
        let P : Table → Type 0 = λ t. Holds t (data_facts.tells w.data_store) (data_facts.content w.data_store)
        (hash_facts.tells w.hash_store) (hash_facts.content w.hash_store) image in
        subst P (sym reads.table) (record {
          data_tell = reads.data_store.later.tells ∙ h.data_tell;
          hash_tell = reads.hash_store.later.tells ∙ h.hash_tell;
          fits = h.fits;
          data_begins = ap (take (length image)) reads.data_store.content ∙ h.data_begins;
          tree_begins = ap (λ c. take (length (tree (hashing_of v.table) image)) (drop v.table.hash_start_block c))
              reads.hash_store.content ∙ h.tree_begins;
        })

    pub facts_keep : Keeps (facts_of data_facts hash_facts v) (facts_of data_facts hash_facts w)
    facts_keep = record {
      size = ap (λ (t : Table). t.data_blocks * t.data_block_size) reads.table;
      block = ap (λ (t : Table). t.data_block_size) reads.table;
      serve = serves;
      refuse = refuses;
      lack = λ offset len x. tt;
      steady = λ content c. (c.0, holds c.0 c.1, c.2);
      failures = let d = reads.data_store.later.failures in let h = reads.hash_store.later.failures in omega arith;
      reads = let d = reads.data_store.later.reads in let h = reads.hash_store.later.reads in omega arith;
      cost = λ offset len n x. subst (λ (t : Table). n ≤ touched t offset len + touched t offset len * height t) (sym reads.table) x;
    }

  -- what stores hold that tell, and are known by their contents
  pub holds_at : (v : Verifying D H) (image : List (List ℕ)) → data_facts.tells v.data_store ≡ true →
      hash_facts.tells v.hash_store ≡ true → data_facts.content v.data_store ≡ image
      → Holds v.table true image true (hash_facts.content v.hash_store) image → HoldsFor data_facts hash_facts v image
  holds_at v image data_tell hash_tell content h =
      record {
        data_tell = data_tell;
        hash_tell = hash_tell;
        fits = h.fits;
        data_begins = ap (take (length image)) content
            ∙ h.data_begins;
        tree_begins = h.tree_begins;
      }

  -- bytes that a verifier served are right for each image that fits its table line
  pub serves_right : (v : Verifying D H) → IsVerifier data_facts hash_facts v → (image : List (List ℕ)) → Fits v.table image →
      (offset len : ℕ) (bytes : List ℕ)
      → ServesBytes v.table (given_to data_facts hash_facts v) offset len bytes →
      AreRight v.table (given_to data_facts hash_facts v) image offset len bytes
  serves_right v ok image fits offset len bytes s =
      bytes_right v.table image ok.table fits (given_to data_facts hash_facts v) (sized data_facts hash_facts v ok) offset len bytes s

  -- so each verdict that it gave is right
  pub given_right : (v : Verifying D H) → IsVerifier data_facts hash_facts v → (image : List (List ℕ)) → Fits v.table image →
      (offset len : ℕ) (verdict : Verdict)
      → GivenBy (facts_of data_facts hash_facts v) offset len verdict → IsRightFor data_facts hash_facts v image offset len verdict
  given_right v ok image fits offset len (Bytes bytes) g =
      let P : ℕ → Type 0 = λ n. AreRight v.table (given_to data_facts hash_facts v) image offset n bytes in
      (g.0, subst P g.0 (serves_right v ok image fits offset (length bytes) bytes g.1))
  given_right v ok image fits offset len (Refused error) (inl e) = inl e.0
  given_right v ok image fits offset len (Refused error) (inr e) = inr e

  -- a verifier that is sound for an image stays so
  pub good_after : (image : List (List ℕ)) (v w : Verifying D H) → IsOnlyReading data_facts hash_facts v w →
      IsVerifier data_facts hash_facts v × Fits v.table image → IsVerifier data_facts hash_facts w × Fits w.table image
  good_after image v w reads (ok, fits) =
      (verifier_after data_facts hash_facts v w reads ok, subst (λ (t : Table). Fits t image) (sym reads.table) fits)

  module _ (v w : Verifying D H) (was : IsVerifier data_facts hash_facts v) (reads : IsOnlyReading data_facts hash_facts v w) where
    ok : IsVerifier data_facts hash_facts w
    ok = verifier_after data_facts hash_facts v w reads was

    -- an answer, as an export's
    pub served : (offset len : ℕ) (bytes : List ℕ) → ServesBytes w.table (given_to data_facts hash_facts w) offset len bytes →
        Served (facts_of data_facts hash_facts v) (facts_of data_facts hash_facts w) offset len bytes
    served offset len bytes s =
        let P : ℕ → Type 0 = λ n. ServesBytes w.table (given_to data_facts hash_facts w) offset n bytes in
        record {
          exact = s.whole;
          given = subst P (sym s.whole) s;
          content = λ content c. bytes_exact data_facts hash_facts w.table ok.table w.since w.data_store w.hash_store c.0
              (holds v w reads c.0 c.1) offset len bytes s ∙ ap (λ x. take len (drop offset x)) (sym c.2);
        }

    -- what the stores were read
    pub costs : (offset len : ℕ) → data_facts.reads w.data_store ≤ data_facts.reads v.data_store + touched v.table offset len
        → hash_facts.reads w.hash_store ≤ hash_facts.reads v.hash_store + touched v.table offset len * height v.table
        → Costs (facts_of data_facts hash_facts v) (facts_of data_facts hash_facts w) offset len
    costs offset len few most =
        let d = reads.data_store.later.reads in
        let h = reads.hash_store.later.reads in
        let n : ℕ = reads_of data_facts hash_facts w - reads_of data_facts hash_facts v in
        let within : n ≤ touched v.table offset len + touched v.table offset len * height v.table = omega (arith, few, most) in
        (n, omega arith, subst (λ (t : Table). n ≤ touched t offset len + touched t offset len * height t) (sym reads.table) within)

    either_rose : DataFailed data_facts hash_facts v w ⊎ HashFailed data_facts hash_facts v w →
        failures_of data_facts hash_facts v < failures_of data_facts hash_facts w
    either_rose (inl f) = let l = reads.hash_store.later.failures in omega arith
    either_rose (inr f) = let l = reads.data_store.later.failures in omega arith

    -- where the stores hold an image, a range is refused only after a failure
    rose : (image : List (List ℕ)) → HoldsFor data_facts hash_facts v image → (offset len : ℕ) →
        offset + len ≤ w.table.data_blocks * w.table.data_block_size → (fault : CheckFault) → fault ≢ faults.NoMemory
        → Refuses w.table (given_to data_facts hash_facts w) (DataFailed data_facts hash_facts v w)
        (HashFailed data_facts hash_facts v w) offset len fault
        → failures_of data_facts hash_facts v < failures_of data_facts hash_facts w
    rose image h offset len range fault not why =
        either_rose (refusal_failed data_facts hash_facts w.table ok.table w.since w.data_store w.hash_store image
        (holds v w reads image h) (DataFailed data_facts hash_facts v w) (HashFailed data_facts hash_facts v w) offset len fault
        range why not)

    -- a refusal, as an export's
    pub failed : (offset len : ℕ) → offset + len ≤ v.table.data_blocks * v.table.data_block_size → (fault : CheckFault) →
        fault ≢ faults.NoMemory
        → Refuses w.table (given_to data_facts hash_facts w) (DataFailed data_facts hash_facts v w)
        (HashFailed data_facts hash_facts v w) offset len fault
        → MayRefuse data_facts hash_facts w offset len →
        Failed (facts_of data_facts hash_facts v) (facts_of data_facts hash_facts w) offset len
    failed offset len range fault not why may =
        let inside : offset + len ≤ w.table.data_blocks * w.table.data_block_size =
        subst (λ (t : Table). offset + len ≤ t.data_blocks * t.data_block_size) (sym reads.table) range in
        record { leave = may; failure = λ content c. rose c.0 c.1 offset len inside fault not why }
