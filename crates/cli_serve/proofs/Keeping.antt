-- What a command says under the line that FILE held when it was read.
use Rattle.std.proofs.Common.{◌≡◌, inr, subst, sym, ℕ, List, Option, Some, Result, Ok, Err, IfErr, IfOk}
use Rattle.std.specs.Borrow.{Bor}
use Rattle.os_line_file.specs.declared.folder.LineFolder as folder
use Rattle.os_line_file.specs.declared.folder.LineFolders as folders
use Rattle.cli_line_file.specs.Files.{IsLineAt}
use Rattle.cli_faults.specs.declared.failure.Failure.{Failure}
use Rattle.cli_serve.specs.Kept.{IsTrusted, IsTrustedIn, IsUnkeptOr}

module _ {L G : Type 0} (files : folders.Ghosts L G) (facts : folder.Ghosts G) (old new : L) where
  -- it is done under that line
  pub done_under : {T E : Type 0} (done : Result T E) (P : List ℕ → T → Type 0) (table : List ℕ) (file : Option (Bor (List ℕ)))
      (path : Bor (List ℕ)) (text held : List ℕ) → file ≡ Some path → text ≡ held → IsLineAt files facts old new path.now held
      → IfOk done (P text) → IfOk done (λ status. (line : List ℕ) × IsTrusted files facts old new table file line × P line status)
  done_under (Ok status) P table file path text held is same read under = (
    text,
    subst (λ (o : Option (Bor (List ℕ))). IsTrusted files facts old new table o text) (sym is)
        (subst (λ (t : List ℕ). IsLineAt files facts old new path.now t) (sym same) read),
    under,
  )
  done_under (Err e) P table file path text held is same read under = tt

  -- the same under a word that has the line
  pub done_with : {T E : Type 0} (done : Result T E) (P : Bor (List ℕ) → T → Type 0) (table : Bor (List ℕ)) (file : Option (Bor (List ℕ)))
      (path word : Bor (List ℕ)) (held : List ℕ) → file ≡ Some path → word.now ≡ held → IsLineAt files facts old new path.now held
      → IfOk done (P word) → IfOk done (λ status. (line : Bor (List ℕ)) × IsTrustedIn files facts old new table file line × P line status)
  done_with (Ok status) P table file path word held is same read under = (
    word,
    subst (λ (o : Option (Bor (List ℕ))). IsTrustedIn files facts old new table o word) (sym is)
        (subst (λ (t : List ℕ). IsLineAt files facts old new path.now t) (sym same) read),
    under,
  )
  done_with (Err e) P table file path word held is same read under = tt

  -- it fails under that line
  pub fails_under : {T : Type 0} (done : Result T Failure) (P Q : Failure → Type 0) (file : Option (Bor (List ℕ))) (path : Bor (List ℕ))
      (held : List ℕ) → file ≡ Some path → IsLineAt files facts old new path.now held → IfErr done P → IfErr done Q
      → IfErr done (IsUnkeptOr files facts old new file (λ e. P e × Q e))
  fails_under (Ok status) P Q file path held is read p q = tt
  fails_under (Err e) P Q file path held is read p q =
      subst (λ (o : Option (Bor (List ℕ))). IsUnkeptOr files facts old new o (λ why. P why × Q why) e) (sym is) (inr ((p, q), (held, read)))
