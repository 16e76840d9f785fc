use Rattle.std.proofs.Common.{inr, List, ℕ, Option}
use Rattle.cli_line_file.specs.Files.{IsOpened}
use Rattle.cli_format.specs.Made.{IsLeft, LiesAsked}
use Rattle.cli_format.specs.Printed.{IsFormatted}
use Rattle.cli_format.specs.Kept.{IsClear, IsLeftWith}
use Rattle.cli_format.proofs.Keeping.{if_failed, kept_at, left_at, of_path}
use Rattle.cli_format.proofs.Told.{on_done}
use Rattle.cli_format.proofs.kept.format_kept.Goals as goal

pub returns-clause-kept : goal.returns-clause-kept
returns-clause-kept g c =
    let words = c.args.words.now in
    let old = c.in_ok-file.file.folder in
    let new = c.format_into-formatted.new.file.folder in
    let is_made : Option (List ℕ) → Option (List ℕ) → Type 0 = IsFormatted g.S.Store.BlockStore
    (LiesAsked g.S.System g.S.Store.BlockStore c.args.system.now words.data_path.now)
    (IsLeft g.S.System c.args.system.now c.format_into-formatted.new.system words.hash_path.now) words in
    let opened : IsOpened g.L.LineFolders g.L.Folder.LineFolder c.args.folders.now c.close_line_file.new.folders c.in-Some.path.now
    old new = record {
      during = c.open_clear.new.folders;
      opened = c.in_ok-file.ensures.opened;
      closed = c.close_line_file.ensures.closed;
    } in
    on_done c.format_into-formatted.result
    (kept_at g.L.LineFolders g.L.Folder.LineFolder c.args.folders.now c.close_line_file.new.folders old new
    words.table_file c.in-Some.path is_made _ _ c.in-Some.is opened) c.format_into-formatted.ensures.kept

pub returns-clause-apart : goal.returns-clause-apart
returns-clause-apart g c =
    let words = c.args.words.now in
    on_done c.format_into-formatted.result (λ clear. of_path (λ path. IsClear g.S.System c.args.system.now words path
    × IsClear g.S.System c.format_into-formatted.new.system words path) words.table_file c.in-Some.path c.in-Some.is
    (c.in_ok-file.ensures.clear, clear))
    c.format_into-formatted.ensures.apart

pub returns-clause-left : goal.returns-clause-left
returns-clause-left g c =
    let words = c.args.words.now in
    let old = c.in_ok-file.file.folder in
    let new = c.format_into-formatted.new.file.folder in
    let is_made : Option (List ℕ) → Option (List ℕ) → Type 0 = IsFormatted g.S.Store.BlockStore
    (LiesAsked g.S.System g.S.Store.BlockStore c.args.system.now words.data_path.now)
    (IsLeft g.S.System c.args.system.now c.format_into-formatted.new.system words.hash_path.now) words in
    let opened : IsOpened g.L.LineFolders g.L.Folder.LineFolder c.args.folders.now c.close_line_file.new.folders c.in-Some.path.now
    old new = record {
      during = c.open_clear.new.folders;
      opened = c.in_ok-file.ensures.opened;
      closed = c.close_line_file.ensures.closed;
    } in
    if_failed (λ e. IsLeftWith g.L.Folder.LineFolder is_made old new) _ c.format_into-formatted.result
    (λ e left. left_at g.L.LineFolders g.L.Folder.LineFolder c.args.folders.now c.close_line_file.new.folders g.S.System
    c.args.system.now c.format_into-formatted.new.system words is_made words.table_file c.in-Some.path e c.in-Some.is
    (inr (old, new, opened, left)))
    c.format_into-formatted.ensures.left
