use Rattle.std.proofs.Common.{◌≡◌, ◌≤◌, ◌+◌, ◌*◌, length, drop}
use Rattle.nbd_session.specs.Options.{lists_type}
use Rattle.nbd_session.proofs.info.lists_block_size.Given as goal

abbrev pub invariant-loop-left : goal.invariant-loop-left
invariant-loop-left l = record {
  room : l.place + 2 * l.left ≤ length l.types;
  same : lists_type l.left 3 (drop l.place l.types) ≡
      lists_type l.count 3 l.types;
}

abbrev pub decreases-loop-left : goal.decreases-loop-left
decreases-loop-left l = l.left
