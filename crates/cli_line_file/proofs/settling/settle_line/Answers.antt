use Rattle.std.proofs.Common.{◌≡◌, inl, inr, ⊎_elim, Some}
use Rattle.std.specs.Prelude.{◌≢◌, IsSome}
use Rattle.os_line_file.specs.Folder.{IsDurable}
use Rattle.verity_line_file.specs.Lines.{pulling}
use Rattle.cli_line_file.specs.Looking.{AreLocked}
use Rattle.cli_line_file.specs.Settling.{IsSettledBy}
use Rattle.cli_line_file.proofs.Outcomes.{three_ok, some_or_none}
use Rattle.cli_line_file.proofs.settling.settle_line.Goals as goal

pub returns-clause-settled : goal.returns-clause-settled
returns-clause-settled g c =
    let a = c.args in
    let looked = c.in_ok-is_under_way.ensures.looked in
    let old = c.in_ok-file.file.folder in
    let new = c.settle_opened-settled.new.file.folder in
    let facts = g.L.Folder.LineFolder in
    let locked : AreLocked g.S.System a.system.now a.data_path.now a.hash_path.now c.in_ok-image.image c.in_ok-device.device = record {
      data_opened = c.in_ok-image.ensures.opened;
      hash_opened = c.in_ok-device.ensures.opened;
      data_locked = c.in_ok-image.ensures.locked;
      hash_locked = c.in_ok-device.ensures.locked;
    } in
    three_ok c.settle_opened-settled.result _ _ _ _
    (λ (settled : IsSome (facts.seen old).next → IsSettledBy g.S.System g.S.Store.BlockStore a.system.now a.data_path.now a.hash_path.now
    c.in_ok-image.image c.in_ok-device.device (facts.seen old) (facts.seen new))
    (durable : IsSome (facts.seen old).next → IsDurable (facts.seen new) (facts.may_leave new))
    (no_pull : (facts.seen old).next ≢ Some pulling). inr (
      c.looks_under_way.new.folders,
      record { seen = looked.0; is_opened = looked.1 },
      record {
        old = old;
        new = new;
        is_opened = record {
          during = c.open_line_file.new.folders;
          opened = c.in_ok-file.ensures.opened;
          closed = c.close_line_file.ensures.closed;
        };
        settled = ⊎_elim (λ none. inl (none, c.settle_opened-settled.ensures.untouched none))
            (λ some. inr (
              c.in_ok-image.image,
              c.in_ok-device.device,
              locked,
              inr (no_pull, settled some, durable some, c.settle_opened-settled.ensures.any_moment),
            ))
            (some_or_none (facts.seen old).next);
      },
    )) c.settle_opened-settled.ensures.settled c.settle_opened-settled.ensures.durable c.settle_opened-settled.ensures.no_pull
