use Rattle.cli_volume.proofs.Printing.{behind}
use Rattle.cli_volume.proofs.lines.print_sizes.Goals as goal

pub returns-clause-printed : goal.returns-clause-printed
returns-clause-printed g c =
    let data_size = rw c.data_block_size.ensures.value at c.in_ok-print_number.ensures.printed in
    let hash_size = rw c.hash_block_size.ensures.value at c.in_ok-print_number-2.ensures.printed in
    let blocks = rw c.data_blocks.ensures.value at c.in_ok-print_number-3.ensures.printed in
    let salt = rw c.salt.ensures at (rw c.in_ok-salt.ensures at (rw c.deref.ensures at c.print_text.ensures.printed)) in
    behind c.print_text.result _ _ _ _ _ data_size (behind _ _ _ _ _ _ hash_size (behind _ _ _ _ _ _ blocks salt))
