use Rattle.std.proofs.Common.{inl, inr, List, [], ℕ, Option, Some}
use Rattle.std.specs.Io.KnownBytes.{Appends}
use Rattle.os_line_file.specs.Folder.{IsDurable}
use Rattle.cli_line_file.specs.Keeping.{IsKept}
use Rattle.cli_faults.specs.declared.command.Command.TheVariants as commands
use Rattle.cli_format.specs.Made.{LiesFor}
use Rattle.cli_format.specs.Sliced.{IsJoined, IsLeftBy}
use Rattle.cli_format.specs.Kept.{IsReplacedBy}
use Rattle.cli_format.proofs.Keeping.{joined_again, made_in, on_failure, on_three, replaced_after}
use Rattle.cli_format.proofs.Told.{on_done}
use Rattle.cli_format.proofs.kept.join_into.Goals as goal

pub returns-in_err-try_next-clause-left : goal.returns-in_err-try_next-clause-left
returns-in_err-try_next-clause-left g c = on_failure c.from_residual.result (inl c.try_next.ensures.any_moment)

pub returns-in_err-format_join-clause-left : goal.returns-in_err-format_join-clause-left
returns-in_err-format_join-clause-left g c = on_failure c.from_residual-in_err-format_join.result (inl c.try_next.ensures.any_moment)

pub returns-clause-printed : goal.returns-clause-printed
returns-clause-printed g c =
    let words = c.args.words.now in
    let is_made : Option (List ℕ) → Option (List ℕ) → Type 0 = IsJoined g.S.Store.BlockStore
    (LiesFor commands.Format g.S.System g.S.Store.BlockStore c.args.system.now words.data_path.now)
    (IsLeftBy g.S.System commands.Format c.args.system.now c.format_join.new.system words.hash_path.now) words
    (g.I.Read.remaining c.args.input.now) in
    let text = c.deref.result.now in
    let made : is_made (Some []) (Some text) = made_in is_made c.new-line.result.items c.format_join.new.output.items text
    c.new-line.ensures.items c.deref.ensures.value c.in_ok-format_join.ensures.printed in
    on_done c.keep_and_print.result (joined_again g.S.Store.BlockStore _ _ words _ text _ _ made) c.keep_and_print.ensures.printed

pub returns-clause-kept : goal.returns-clause-kept
returns-clause-kept g c =
    let words = c.args.words.now in
    let is_made : Option (List ℕ) → Option (List ℕ) → Type 0 = IsJoined g.S.Store.BlockStore
    (LiesFor commands.Format g.S.System g.S.Store.BlockStore c.args.system.now words.data_path.now)
    (IsLeftBy g.S.System commands.Format c.args.system.now c.format_join.new.system words.hash_path.now) words
    (g.I.Read.remaining c.args.input.now) in
    let text = c.deref.result.now in
    let made : is_made (Some []) (Some text) = made_in is_made c.new-line.result.items c.format_join.new.output.items text
    c.new-line.ensures.items c.deref.ensures.value c.in_ok-format_join.ensures.printed in
    let old = c.args.file.now.folder in
    let mid = c.try_next.new.file.folder in
    let new = c.keep_and_print.new.file.folder in
    let replaced : IsReplacedBy g.F.LineFolder text old new = replaced_after g.F.LineFolder text old mid new c.in_ok-try_next.ensures.tried
    c.in_ok-try_next.ensures.durable c.try_next.ensures.any_moment c.keep_and_print.ensures.any_moment in
    on_three c.keep_and_print.result
    (λ (kept : IsKept text (g.F.LineFolder.seen new)) (durable : IsDurable (g.F.LineFolder.seen new) (g.F.LineFolder.may_leave new))
    (printed : Appends (g.W.Write.contents c.args.output.now) (g.W.Write.contents c.keep_and_print.new.output) text). record {
      text = text;
      made = made;
      printed = printed;
      kept = kept;
      durable = durable;
      any_moment = replaced;
    }) c.keep_and_print.ensures.kept c.keep_and_print.ensures.durable c.keep_and_print.ensures.printed

pub returns-clause-left : goal.returns-clause-left
returns-clause-left g c =
    let words = c.args.words.now in
    let is_made : Option (List ℕ) → Option (List ℕ) → Type 0 = IsJoined g.S.Store.BlockStore
    (LiesFor commands.Format g.S.System g.S.Store.BlockStore c.args.system.now words.data_path.now)
    (IsLeftBy g.S.System commands.Format c.args.system.now c.format_join.new.system words.hash_path.now) words
    (g.I.Read.remaining c.args.input.now) in
    let text = c.deref.result.now in
    let made : is_made (Some []) (Some text) = made_in is_made c.new-line.result.items c.format_join.new.output.items text
    c.new-line.ensures.items c.deref.ensures.value c.in_ok-format_join.ensures.printed in
    let old = c.args.file.now.folder in
    let mid = c.try_next.new.file.folder in
    let new = c.keep_and_print.new.file.folder in
    let replaced : IsReplacedBy g.F.LineFolder text old new = replaced_after g.F.LineFolder text old mid new c.in_ok-try_next.ensures.tried
    c.in_ok-try_next.ensures.durable c.try_next.ensures.any_moment c.keep_and_print.ensures.any_moment in
    on_failure c.keep_and_print.result (inr (text, made, replaced))
