-- What a crash may leave at any moment of one call.
use Rattle.std.proofs.Common.{◌⊎◌, inl, inr, ⊎_elim, ℕ, arith}
use Rattle.os_line_file.specs.Folder.{Texts, Elapses, LeavesOnly}

module _ {F : Type 0} (moment : F → ℕ) (left_since : F → ℕ → Texts → Type 0) where
  -- of none
  pub still : (old : F) (P : Texts → Type 0) → ((c : Texts) → left_since old (moment old) c → P c)
      → LeavesOnly moment left_since old old P
  still old P here = record { later = omega arith; each = here; before = λ t c le left. inl left }

  pub once : (old new : F) (P in_call : Texts → Type 0) → ((c : Texts) → left_since old (moment old) c → P c)
      → Elapses (moment old) (moment new) (left_since old) (left_since new) in_call → ((c : Texts) → in_call c → P c)
      → LeavesOnly moment left_since old new P
  once old new P in_call here time inside = record {
    later = time.later;
    each = λ c left. ⊎_elim (here c) (inside c) (time.nothing_else (moment old) c (omega arith) left);
    before = λ t c le left. ⊎_elim (λ was. inl was) (λ now. inr (inside c now)) (time.nothing_else t c le left);
  }
