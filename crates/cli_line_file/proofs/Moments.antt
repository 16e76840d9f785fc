-- What a crash may leave at any moment of a call, and of two, one after the other.
use Rattle.std.proofs.Common.{◌≡◌, ◌∙◌, ap, ◌≤◌, inl, inr, ⊎_elim, ℕ, List, Some, arith}
use Rattle.os_line_file.specs.Folder.{Texts, with_next, Elapses, IsDurable, LeavesOnly}
use Rattle.verity_line_file.specs.Standing.{Replaces}
use Rattle.cli_line_file.specs.Keeping.{KeepsOldOr}

module _ {F : Type 0} (moment : F → ℕ) (left_since : F → ℕ → Texts → Type 0) where
  -- of a call of the folder, where what a crash may leave before it has P too
  pub during : (old new : F) (P in_call : Texts → Type 0) → ((c : Texts) → left_since old (moment old) c → P c)
      → Elapses (moment old) (moment new) (left_since old) (left_since new) in_call → ((c : Texts) → in_call c → P c)
      → LeavesOnly moment left_since old new P
  during old new P in_call here time inside = record {
    later = time.later;
    each = λ c left. ⊎_elim (here c) (inside c) (time.nothing_else (moment old) c (omega arith) left);
    before = λ t c le left. ⊎_elim (λ was. inl was) (λ now. inr (inside c now)) (time.nothing_else t c le left);
  }

  -- the same of more texts
  pub wider : (old new : F) (P Q : Texts → Type 0) → LeavesOnly moment left_since old new P → ((c : Texts) → P c → Q c)
      → LeavesOnly moment left_since old new Q
  wider old new P Q run widens = record {
    later = run.later;
    each = λ c left. widens c (run.each c left);
    before = λ t c le left. ⊎_elim (λ was. inl was) (λ now. inr (widens c now)) (run.before t c le left);
  }

  -- of two runs
  pub chained : (old mid new : F) (P : Texts → Type 0) → LeavesOnly moment left_since old mid P → LeavesOnly moment left_since mid new P
      → LeavesOnly moment left_since old new P
  chained old mid new P first second =
      let earlier : moment old ≤ moment mid = first.later in record {
        later = omega (arith, first.later, second.later);
        each = λ c left. ⊎_elim (first.each c) (λ now. now) (second.before (moment old) c earlier left);
        before = λ t c le left. ⊎_elim (first.before t c le) (λ now. inr now) (second.before t c (omega (arith, le, earlier)) left);
      }

-- while FILE.next, which has this text and is on the device, takes FILE's place, FILE is as it was seen or has that text
pub replaces : (text : List ℕ) (seen mid : Texts) (may_leave left : Texts → Type 0) → mid ≡ with_next (Some text) seen
    → IsDurable mid left → (c : Texts) → Replaces mid left c → KeepsOldOr text seen may_leave c
replaces text seen mid may_leave left is durable c (inl now) = inr (inl (ap (λ (d : Texts). d.line) (durable c now ∙ is)))
replaces text seen mid may_leave left is durable c (inr (inl now)) = inr (inl (ap (λ (d : Texts). d.line) (now ∙ is)))
replaces text seen mid may_leave left is durable c (inr (inr part)) = inl (part.0 ∙ ap (λ (d : Texts). d.next) is)
