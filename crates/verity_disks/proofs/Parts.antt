-- A write and a change of length, in part and whole.
use Rattle.std.proofs.Common.{◌≡◌, refl, ℕ, ◌+◌, ◌-◌, ◌<◌, ◌≤◌, min, List, ◌++◌, length, get_or, take, drop, replicate, sym, ap, ◌∙◌, arith}
use Rattle.std.proofs.Common.{length-append, length-take, length-drop, get_or-take}
use Rattle.std.proofs.Math.Seq.{get_or-append_right}
use Rattle.std.proofs.lemmas.List.{get_or_append_left, append_assoc, take_at, drop_at, get_or-replicate, ext_get_or, length-replicate}
use Rattle.verity_store.specs.RawFile.{overwritten, with_length}
use Rattle.verity_disks.specs.Disks.{Torn, Stretched}

pub length-with_length : (n : ℕ) (bytes : List ℕ) → length (with_length n bytes) ≡ n
length-with_length n bytes = simp (length-append, length-take, length-replicate) (omega arith)

pub with_length_front : (n : ℕ) (bytes : List ℕ) (i : ℕ) → i < n → i < length bytes → get_or (with_length n bytes) i 0 ≡ get_or bytes i 0
with_length_front n bytes i h below =
    let long : i < length (take n bytes) = simp length-take (omega arith) in
    get_or_append_left (take n bytes) (replicate (n - length bytes) 0) 0 i long ∙ get_or-take n bytes i 0 h

pub with_length_rest : (n : ℕ) (bytes : List ℕ) (i : ℕ) → i < n → length bytes ≤ i → get_or (with_length n bytes) i 0 ≡ 0
with_length_rest n bytes i h above =
    let long : length (take n bytes) ≡ length bytes = simp length-take (omega arith) in
    get_or-append_right (take n bytes) (replicate (n - length bytes) 0) i 0 (omega (arith, long))
    ∙ get_or-replicate (n - length bytes) (i - length (take n bytes)) 0 0 (omega (arith, long))

-- a write that may go past the end
pub torn_written : (at : ℕ) (new bytes : List ℕ) → at ≤ length bytes → Torn at (length new) bytes (overwritten at new bytes)
torn_written at new bytes fits =
    let front : length (take at bytes) ≡ at = simp length-take (omega arith) in
    let both : length (take at bytes ++ new) ≡ at + length new = simp length-append (omega (arith, front)) in
    let behind = drop (at + length new) bytes in
    let rest : length behind ≡ length bytes - (at + length new) = simp length-drop refl in
    let long : length (overwritten at new bytes) ≡ at + (length new + (length bytes - (at + length new))) =
    simp length-append (omega (arith, front, rest)) in
    record {
      before = take_at (take at bytes) (new ++ behind) at front;
      after = ap (λ (l : List ℕ). drop (at + length new) l) (sym (append_assoc (take at bytes) new behind))
          ∙ drop_at (take at bytes ++ new) behind (at + length new) both;
      no_shorter = omega (arith, long);
      no_longer = omega (arith, long);
    }

-- a whole change of length
pub stretched_whole : (n : ℕ) (b : List ℕ) → Stretched n b (with_length n b)
stretched_whole n b =
    let m = min (length b) n in
    let long = length-with_length n b in
    let l1 : length (take m (with_length n b)) ≡ m = simp length-take (omega (arith, long)) in
    let l2 : length (take m b) ≡ m = simp length-take (omega arith) in
    record {
      front = ext_get_or 0 (take m (with_length n b)) (take m b) (l1 ∙ sym l2) (λ i h.
          let low : i < m = omega (arith, h, l1) in
          get_or-take m (with_length n b) i 0 low ∙ with_length_front n b i (omega (arith, low)) (omega (arith, low))
          ∙ sym (get_or-take m b i 0 low));
      no_shorter = omega (arith, long);
      no_longer = omega (arith, long);
    }
