-- What a volume shows by either of two lines, from what was found by each.
use Rattle.std.proofs.Common.{◌≡◌, inl, inr, sym, subst, List, ℕ, Option, Some}
use Rattle.std.specs.Borrow.{Bor}
use Rattle.os_files.specs.declared.system.System.{Ghosts}
use Rattle.verity_line_file.specs.Shown.{Values}
use Rattle.verity_pending.specs.declared.fault.EditFault.{EditFault}
use Rattle.verity_store.specs.declared.store.BlockStore as store
use Rattle.verity_superblock.specs.Line.{TableLine}
use Rattle.cli_line_file.specs.Looking.{IsAbsent, IsAbsentByEither, IsAnother, IsLook, IsOf, ShowsEither}
use Rattle.cli_line_file.specs.declared.looking.Look.{Look}
use Rattle.cli_line_file.specs.declared.looking.Look.TheVariants as look

module _ {S F D J : Type 0} (facts : Ghosts S F D J) (stores : store.Ghosts D) (s : S) (data_path hash_path : List ℕ) (image device : F)
  where
    -- the volume isn't the line's
    pub another : (t : TableLine) (found : Look) → IsLook facts stores s data_path hash_path image device t found → (IsOf found t → ⊥)
        → IsAnother facts stores s data_path hash_path image device t
    another t (look.Shown v top) is other = inr (v, is.0, other)
    another t (look.Absent why) is other = inl (why, is)

    -- then the second line is asked
    pub shows_second : (first : TableLine) (second : Option (Bor TableLine)) (t : Bor TableLine) (found : Look) (v : Values)
        (top : EditFault) → second ≡ Some t → IsAnother facts stores s data_path hash_path image device first
        → IsLook facts stores s data_path hash_path image device t.now found → found ≡ look.Shown v top
        → ShowsEither facts stores s data_path hash_path image device first second v
    shows_second first second t found v top is other looked shown =
        let seen : IsLook facts stores s data_path hash_path image device t.now (look.Shown v top) =
        subst (λ (l : Look). IsLook facts stores s data_path hash_path image device t.now l) shown looked in
        subst (λ (o : Option (Bor TableLine)). ShowsEither facts stores s data_path hash_path image device first o v) (sym is)
        (inr (other, seen.0))

    pub absent_by_second : (first : TableLine) (second : Option (Bor TableLine)) (t : Bor TableLine) (found : Look) (why : EditFault)
        → second ≡ Some t → IsAnother facts stores s data_path hash_path image device first
        → IsLook facts stores s data_path hash_path image device t.now found → found ≡ look.Absent why
        → IsAbsentByEither facts stores s data_path hash_path image device first second why
    absent_by_second first second t found why is other looked absent =
        let seen : IsAbsent facts stores s data_path hash_path image device t.now why =
        subst (λ (l : Look). IsLook facts stores s data_path hash_path image device t.now l) absent looked in
        subst (λ (o : Option (Bor TableLine)). IsAbsentByEither facts stores s data_path hash_path image device first o why) (sym is)
        (other, seen)
