use Rattle.std.proofs.Common.{Some, ap, ◌∙◌}
use Rattle.std.specs.List.{concat}
use Rattle.cli_format.specs.Made.{data_part}
use Rattle.test_system.proofs.formats.format_in_memory.Goals as goal

pub returns-in-Ok : goal.returns-in-Ok
returns-in-Ok g c =
    let p = c.in-Ok.ensures.printed in
    let all = ap data_part (p.shaped.all_blocks c.requires.whole) in
    record {
      made = (
        p.table,
        _,
        _,
        p.left.closed.0 ∙ ap (λ s. s.image.items) p.left.is_opened.0,
        p.there.3.1 all ∙ p.there.1.image c.requires.data_path,
        p.told p.there.3.0,
        (p.shape, p.left.closed.1 c.requires.hash_path ∙ ap (λ x. Some (concat x)) (p.written p.there.3.0 p.left.there.0)),
      );
    }
