use Rattle.std.proofs.Common.{ℕ, ◌+◌, ◌≤◌, ◌≡◌, length}
use Rattle.verity_store.specs.Stores.{IsLater, IsOnlyRead}
use Rattle.verity_chain.specs.Table.{height}
use Rattle.verity_chain.specs.Stores.{hash_given}
use Rattle.verity_report.specs.Descent.{AreRows}
use Rattle.verity_pull.specs.Walk.{IsHashMixed, KeepsFront}
use Rattle.verity_pull.specs.Over.{was_given, IsFollowed, IsOnPath}
use Rattle.verity_pull.proofs.over.go_down_over.Given as goal

abbrev pub invariant-loop-level : goal.invariant-loop-level
invariant-loop-level g l =
    let H = g.H.BlockStore in
    let K = g.K.BlockStore in
    let t = l.fn.tree in
    let root = l.fn.old.root in
    record {
      rows : AreRows t l.rows;
      old_rows : AreRows t l.old.rows;
      old_root : l.old.root ≡ l.fn.old.root;
      down : IsOnPath t l.n l.level l.rows;
      few : l.fetched + l.level ≤ height t;
      found : (mark was_mark : ℕ) → mark ≤ length (H.given l.fn.source) → was_mark ≤ length (K.given l.fn.local)
          → IsFollowed K t root (hash_given H t mark l.fn.source) (was_given K t was_mark l.fn.local) l.fn.local l.fn.rows l.fn.old.rows
          → IsFollowed K t root (hash_given H t mark l.source) (was_given K t was_mark l.local) l.local l.rows l.old.rows;
      mixed : (mark was_mark : ℕ) → mark ≤ length (H.given l.fn.source) → was_mark ≤ length (K.given l.fn.local)
          → IsFollowed K t root (hash_given H t mark l.fn.source) (was_given K t was_mark l.fn.local) l.fn.local l.fn.rows l.fn.old.rows
          → IsHashMixed K t (hash_given H t mark l.source) l.fn.local l.local;
      front : KeepsFront t.hash_start_block (K.content l.fn.local) (K.content l.local);
      counted : H.reads l.source ≡ H.reads l.fn.source + l.fetched;
      writes : K.changes l.local ≡ K.changes l.fn.local + l.fetched;
      looked : K.reads l.local ≤ K.reads l.fn.local + l.fetched;
      source_unfailed : H.failures l.source ≡ H.failures l.fn.source;
      local_keeps : IsLater K l.fn.local l.local;
      source_keeps : IsOnlyRead H l.fn.source l.source;
      block : length l.hash_block ≡ t.hash_block_size;
      same : l.tree ≡ t;
    }

abbrev pub decreases-loop-level : goal.decreases-loop-level
decreases-loop-level g l = l.level
