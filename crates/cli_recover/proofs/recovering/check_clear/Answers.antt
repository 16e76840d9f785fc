use Rattle.std.proofs.Common.{◌≡◌, sym, subst, refl, List, ℕ, Option}
use Rattle.std.proofs.lemmas.Result.{on_ok_weaker}
use Rattle.std.specs.Borrow.{Bor}
use Rattle.std.specs.Prelude.{MatchOption, OnOk, ⊤}
use Rattle.os_files.specs.Reached.{BesideAt}
use Rattle.cli_line_file.specs.Apart.{IsApart}
use Rattle.cli_recover.specs.Recovered.{IsClearOf}
use Rattle.cli_recover.proofs.recovering.check_clear.Goals as goal

pub returns-in-Some-journal-clause-clear : goal.returns-in-Some-journal-clause-clear
returns-in-Some-journal-clause-clear g c =
    let s = c.args.system.now in
    let words = c.args.words.now in
    let path = c.in-Some.path.now in
    let journal : List ℕ = c.in-Some-journal.journal.now in
    let done = c.check_apart_from-in-Some-journal.result in
    subst (λ (o : Option (Bor (List ℕ))). OnOk done (MatchOption o ⊤ (λ file. IsClearOf g.S.System s words file.now))) (sym c.in-Some.is)
    (on_ok_weaker done
    (λ (apart : IsApart g.S.System s path journal). record {
      of_data = c.in_ok-check_apart_from.ensures.apart;
      of_hash = c.in_ok-check_apart_from-2.ensures.apart;
      journal = journal;
      stands = subst
          (λ (o : Option (Bor (List ℕ))). MatchOption o (BesideAt g.S.System s words.hash_path.now journal) (λ named. journal ≡ named.now))
          (sym c.in-Some-journal.is) refl;
      of_journal = apart;
    }) c.check_apart_from-in-Some-journal.ensures.apart)

pub returns-in_ok-path_beside-in-None-clause-clear :
    goal.returns-in_ok-path_beside-in-None-clause-clear
returns-in_ok-path_beside-in-None-clause-clear g c =
    let s = c.args.system.now in
    let words = c.args.words.now in
    let path = c.in-Some.path.now in
    let journal : List ℕ = c.deref.result.now in
    let done = c.check_apart_from-in-None.result in
    subst (λ (o : Option (Bor (List ℕ))). OnOk done (MatchOption o ⊤ (λ file. IsClearOf g.S.System s words file.now))) (sym c.in-Some.is)
    (on_ok_weaker done
    (λ (apart : IsApart g.S.System s path journal). record {
      of_data = c.in_ok-check_apart_from.ensures.apart;
      of_hash = c.in_ok-check_apart_from-2.ensures.apart;
      journal = journal;
      stands = subst
          (λ (o : Option (Bor (List ℕ))). MatchOption o (BesideAt g.S.System s words.hash_path.now journal) (λ named. journal ≡ named.now))
          (sym c.in-None.is)
          (subst (λ (p : List ℕ). BesideAt g.S.System s words.hash_path.now p) (sym c.deref.ensures)
          c.in_ok-path_beside-in-None.ensures.beside);
      of_journal = apart;
    }) c.check_apart_from-in-None.ensures.apart)
