-- Of which volume a journal is, by the parts of its names.
use Rattle.std.proofs.Common.{◌≡◌, ℕ, ◌+◌, ◌≤◌, List, ◌++◌, length, length-take, take, drop, Option, IfSome, sym, ap, ◌∙◌, subst, arith}
use Rattle.std.proofs.lemmas.List.{take-append-drop}
use Rattle.std.specs.Int.{w64, from_le_bytes}
use Rattle.os_files.specs.declared.system.System.{Ghosts}
use Rattle.os_journal.specs.Names.{IsOfVolume, IsVolumeAt}

-- so many bytes of these were taken, and these are left
taken : (n : ℕ) (bytes front rest : List ℕ) → front ≡ take n bytes → length rest + n ≡ length bytes → length front ≡ n
taken n bytes front rest is long = ap length is ∙ length-take n bytes ∙ omega (arith, long)

pub of_volume : {S F D J : Type 0} (facts : Ghosts S F D J) (s : S) (device : F) (files names uuid rest offset tail : List ℕ)
    (found : Option (List ℕ)) → uuid ≡ take 16 names → rest ≡ drop 16 names → length rest + 16 ≡ length names →
    offset ≡ take 8 rest → tail ≡ drop 8 rest → length tail + 8 ≡ length rest → tail ≡ files →
    IsVolumeAt facts s device (from_le_bytes w64 offset) found → IfSome found (λ other. other ≡ uuid)
    → IsOfVolume facts s device files names
of_volume facts s device files names uuid rest offset tail found first more long next last longer same stands own = record {
  uuid = uuid;
  offset = offset;
  named = sym (take-append-drop 16 names) ∙ (λ i. sym first i ++ (sym more ∙ sym (take-append-drop 8 rest)
      ∙ (λ j. sym next j ++ (sym last ∙ same) j)) i);
  sixteen = taken 16 names uuid rest first long;
  eight = taken 8 rest offset tail next longer;
  found = found;
  stands = stands;
  own = own;
}
