use Rattle.std.specs.Prelude.{All}
use Rattle.remote_read_ahead.specs.Held.{IsEmpty}
use Rattle.remote_read_ahead.proofs.window.empty_windows.Given as goal

abbrev pub invariant-windows : goal.invariant-windows
invariant-windows l = All IsEmpty l.windows.items
