use Rattle.std.proofs.Common.{rules, ◌≡◌, ◌<◌, ◌≤◌, ◌+◌, ◌-◌, ℕ, List, [], ◌∷◌, ◌++◌, length, slice_index, subst, arith}
use Rattle.std.specs.Prelude.{Contains}
use Rattle.verity_slice.specs.declared.run.Run.{Run}
use Rattle.cli_format.specs.Asked.{IsLine}
use Rattle.cli_format.proofs.Told.{told_more}
use Rattle.cli_format.proofs.asked.runs_in.Goals as goal
use Rattle.cli_format.proofs.asked.runs_in.Goals.{in-Some+in_ok-push, in_default}

pub loop-from-preserved : goal.loop-from-preserved
loop-from-preserved c =
    let text = c.args.text.now in
    let from = c.loop-from.from in
    let to = c.end_of_line-to.result in
    let here : IsLine text from to = record {
      order = c.end_of_line-to.ensures.order;
      within = c.end_of_line-to.ensures.within;
      begins = λ some. c.loop-from.invariant.begins some (omega (arith, c.loop-from-test.true));
      ends = c.end_of_line-to.ensures.ends;
    } in
    let next : 0 < to + 1 → to + 1 ≤ length text → slice_index text (to + 1 - 1) ≡ 10 =
    λ some within. subst (λ (n : ℕ). slice_index text n ≡ 10) (omega arith) (c.end_of_line-to.ensures.ends (omega (arith, within))) in
    elim c.match-run_in.branch [
      | in-Some+in_ok-push w ↦
          let items : c.match-run_in.runs.items ≡ c.loop-from.runs.items ++ (w.in-Some.run' ∷ []) = search rules in
          record {
            told = λ run is. told_more text c.loop-from.runs.items w.in-Some.run' c.loop-from.invariant.told
                (from, to, here, w.in-Some.ensures) run (subst (λ (all : List Run). Contains all run) items is);
            begins = next;
          }
      | in_default w ↦
          let items : c.match-run_in.runs.items ≡ c.loop-from.runs.items = search rules in
          record {
            told = λ run is. c.loop-from.invariant.told run (subst (λ (all : List Run). Contains all run) items is);
            begins = next;
          }
    ]
