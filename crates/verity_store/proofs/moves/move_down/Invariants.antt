use Rattle.std.proofs.Common.{◌≡◌, ◌+◌, ◌≤◌, true}
use Rattle.verity_store.specs.Given.{GoesOn}
use Rattle.verity_store.specs.Moves.{IsMoved, ChangesWithin}
use Rattle.verity_store.proofs.moves.move_down.Given as goal

abbrev pub invariant-loop-i : goal.invariant-loop-i
invariant-loop-i g l =
    record {
      moved : g.S.BlockStore.tells l.initial.store ≡ true →
          IsMoved l.from l.to l.i (g.S.BlockStore.content l.initial.store) (g.S.BlockStore.content l.store);
      others : ChangesWithin l.to l.i (g.S.BlockStore.content l.initial.store) (g.S.BlockStore.content l.store);
      tells : g.S.BlockStore.tells l.store ≡ g.S.BlockStore.tells l.initial.store;
      size : g.S.BlockStore.size l.store ≡ g.S.BlockStore.size l.initial.store;
      fixed : g.S.BlockStore.fixed l.store ≡ g.S.BlockStore.fixed l.initial.store;
      room : g.S.BlockStore.room l.store ≡ g.S.BlockStore.room l.initial.store;
      failures : g.S.BlockStore.failures l.store ≡ g.S.BlockStore.failures l.initial.store;
      reads : g.S.BlockStore.reads l.store ≡ g.S.BlockStore.reads l.initial.store + l.i;
      changes : g.S.BlockStore.changes l.initial.store ≤ g.S.BlockStore.changes l.store;
      gave : GoesOn (g.S.BlockStore.given l.initial.store) (g.S.BlockStore.given l.store);
    }
