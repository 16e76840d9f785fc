use Rattle.std.proofs.Common.{◌≡◌, ◌+◌, ◌-◌, ◌≤◌, true}
use Rattle.verity_store.specs.Given.{GoesOn}
use Rattle.verity_store.specs.Moves.{IsMoved, ChangesWithin}
use Rattle.verity_store.proofs.moves.move_up.Given as goal

abbrev pub invariant-loop-left : goal.invariant-loop-left
invariant-loop-left g l =
    record {
      low : l.left ≤ l.count;
      moved : g.S.BlockStore.tells l.initial.store ≡ true →
          IsMoved (l.from + l.left) (l.to + l.left) (l.count - l.left) (g.S.BlockStore.content l.initial.store)
          (g.S.BlockStore.content l.store);
      others : ChangesWithin (l.to + l.left) (l.count - l.left) (g.S.BlockStore.content l.initial.store) (g.S.BlockStore.content l.store);
      tells : g.S.BlockStore.tells l.store ≡ g.S.BlockStore.tells l.initial.store;
      size : g.S.BlockStore.size l.store ≡ g.S.BlockStore.size l.initial.store;
      fixed : g.S.BlockStore.fixed l.store ≡ g.S.BlockStore.fixed l.initial.store;
      room : g.S.BlockStore.room l.store ≡ g.S.BlockStore.room l.initial.store;
      failures : g.S.BlockStore.failures l.store ≡ g.S.BlockStore.failures l.initial.store;
      reads : g.S.BlockStore.reads l.store ≡ g.S.BlockStore.reads l.initial.store + (l.count - l.left);
      changes : g.S.BlockStore.changes l.initial.store ≤ g.S.BlockStore.changes l.store;
      gave : GoesOn (g.S.BlockStore.given l.initial.store) (g.S.BlockStore.given l.store);
    }

abbrev pub decreases-loop-left : goal.decreases-loop-left
decreases-loop-left g l = l.left
