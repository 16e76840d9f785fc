-- Writes to a part of a store, and reads beside them.
use Rattle.std.proofs.Common.{◌≡◌, ℕ, ◌+◌, ◌<◌, ◌≤◌, ◌⊎◌, inl, inr, ⊎_elim, refl, sym, ap, ◌∙◌, List, [], length, get_or, subst, arith}
use Rattle.verity_store.specs.Blocks.{ChangesAt}
use Rattle.verity_store.specs.Stores.{IsLater, IsOnlyRead}
use Rattle.verity_store.specs.Given.{GoesOn, GaveSince}
use Rattle.verity_store.proofs.StoreLemmas.{later_same, later_then}
use Rattle.verity_store.proofs.GivenLemmas.{goes_on_len, since_on}
use Rattle.std.proofs.lemmas.List.{take-append-drop, drop-drop}
use Rattle.std.proofs.lemmas.List.Elements.{Contains-append_right}
use Rattle.std.specs.Prelude.{Contains, take, drop, ◌++◌, ◌-◌}
use Rattle.verity_store.specs.declared.store.BlockStore as store
use Rattle.verity_slices.specs.Leaves.{WritesPart}
use Rattle.verity_slices.specs.Walked.{JoinsPart}

module _ {S : Type 0} (facts : store.Ghosts S) where
  pub part_none : (first end : ℕ) (s : S) → WritesPart facts first end s s
  part_none first end s = record {
    len = refl;
    others = λ q apart. refl;
    reads = refl;
    room = refl;
    given = refl;
    later = later_same facts s;
  }

  pub part_then : (first end : ℕ) (old now new : S) → WritesPart facts first end old now → WritesPart facts first end now new
      → WritesPart facts first end old new
  part_then first end old now new one two = record {
    len = two.len ∙ one.len;
    others = λ q apart. two.others q apart ∙ one.others q apart;
    reads = two.reads ∙ one.reads;
    room = two.room ∙ one.room;
    given = two.given ∙ one.given;
    later = later_then facts old now new one.later two.later;
  }

  pub part_one : (first end at : ℕ) (old new : S) → first ≤ at → at < end → ChangesAt at (facts.content old) (facts.content new)
      → facts.reads new ≡ facts.reads old → facts.room new ≡ facts.room old → facts.given new ≡ facts.given old → IsLater facts old new
      → WritesPart facts first end old new
  part_one first end at old new from below others reads room given later = record {
    len = others.0;
    others = λ q apart. others.1 q (λ e. absurd (⊎_elim {C = ⊥} (λ a. omega (arith, a, e, from)) (λ b. omega (arith, b, e, below)) apart));
    reads = reads;
    room = room;
    given = given;
    later = later;
  }

  -- a part of a part
  pub part_wider : (first end first' end' : ℕ) (old new : S) → first' ≤ first → end ≤ end' → WritesPart facts first end old new
      → WritesPart facts first' end' old new
  part_wider first end first' end' old new low high part = record {
    len = part.len;
    others = λ q apart. part.others q (⊎_elim {C = (q < first) ⊎ (end ≤ q)} (λ a. inl (omega (arith, a, low)))
        (λ b. inr (omega (arith, b, high))) apart);
    reads = part.reads;
    room = part.room;
    given = part.given;
    later = part.later;
  }

  pub joins_none : (first end : ℕ) (s : S) → JoinsPart facts first end s s
  joins_none first end s = record { len = refl; others = λ q apart. refl; room = refl; later = later_same facts s }

  pub joins_read : (first end : ℕ) (old now new : S) → JoinsPart facts first end old now → facts.content new ≡ facts.content now
      → facts.room new ≡ facts.room now → IsLater facts now new → JoinsPart facts first end old new
  joins_read first end old now new one content room later = record {
    len = ap length content ∙ one.len;
    others = λ q apart. ap (λ (c : List (List ℕ)). get_or c q []) content ∙ one.others q apart;
    room = room ∙ one.room;
    later = later_then facts old now new one.later later;
  }

  pub joins_write : (first end : ℕ) (old now new : S) → JoinsPart facts first end old now → WritesPart facts first end now new
      → JoinsPart facts first end old new
  joins_write first end old now new one two = record {
    len = two.len ∙ one.len;
    others = λ q apart. two.others q apart ∙ one.others q apart;
    room = two.room ∙ one.room;
    later = later_then facts old now new one.later two.later;
  }

-- what was given since a later mark was given since an earlier one
pub since_before : (given : List (ℕ × List ℕ)) (mark mark' n : ℕ) (block : List ℕ) → mark' ≤ mark → GaveSince given mark n block
    → GaveSince given mark' n block
since_before given mark mark' n block earlier gave =
    let rest : List (ℕ × List ℕ) = drop mark' given in
    let back : ℕ = mark - mark' in
    let same : drop back rest ≡ drop mark given =
    drop-drop back mark' given ∙ ap (λ m. drop m given) (let e : mark' + back ≡ mark = omega arith in e) in
    subst (λ rows. Contains rows (n, block)) (take-append-drop back rest)
    (Contains-append_right (take back rest) (drop back rest) (n, block) (subst (λ rows. Contains rows (n, block)) (sym same) gave))
