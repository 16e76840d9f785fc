-- What a crash may leave at any moment of a pull with its lines in files.
use Rattle.std.proofs.Common.{inl, inr, ⊎_elim, ℕ, arith}
use Rattle.os_line_file.specs.Folder.{Texts, LeavesOnly}

module _ {F : Type 0} (moment : F → ℕ) (left_since : F → ℕ → Texts → Type 0) where
  -- of one call after another
  pub twice : (old mid new : F) (P Q R : Texts → Type 0) → LeavesOnly moment left_since old mid P
      → LeavesOnly moment left_since mid new Q → ((c : Texts) → P c → R c) → ((c : Texts) → Q c → R c)
      → LeavesOnly moment left_since old new R
  twice old mid new P Q R first second from_first from_second = record {
    later = omega (arith, first.later, second.later);
    each = λ c left. ⊎_elim (λ was. from_first c (first.each c was)) (λ now. from_second c now)
        (second.before (moment old) c first.later left);
    before = λ t c le left. ⊎_elim
        (λ was. ⊎_elim (λ earlier. inl earlier) (λ now. inr (from_first c now)) (first.before t c le was))
        (λ now. inr (from_second c now))
        (second.before t c (omega (arith, le, first.later)) left);
  }

  -- what is less is more
  pub more : (old new : F) (P R : Texts → Type 0) → LeavesOnly moment left_since old new P → ((c : Texts) → P c → R c)
      → LeavesOnly moment left_since old new R
  more old new P R only from = record {
    later = only.later;
    each = λ c left. from c (only.each c left);
    before = λ t c le left. ⊎_elim (λ was. inl was) (λ now. inr (from c now)) (only.before t c le left);
  }
