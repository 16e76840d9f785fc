use Rattle.std.proofs.Common.{Some, ap, sym, ◌∙◌}
use Rattle.cli_format.proofs.Told.{on_done}
use Rattle.cli_format.proofs.slicing.format_slice.Goals as goal

pub returns : goal.returns
returns g c = record {
  printed = on_done c.print_run.result (λ printed. record {
    shape = c.in_ok-shape.shape;
    salt = c.deref.result.now;
    slice = c.in_ok-slice.slice;
    run = c.in_ok-run.run';
    shaped = c.in_ok-shape.ensures.asked;
    salted = c.in_ok-bytes.ensures.value ∙ ap Some (sym c.deref.ensures.value);
    named = c.in_ok-slice.ensures.named;
    made = c.in_ok-run.ensures.made;
    printed = printed;
  }) c.print_run.ensures.printed;
}
