use Rattle.std.proofs.Common.{ℕ, suc, ◌+◌, ◌-◌, ◌*◌, ◌<◌, ◌≤◌, ◌≡◌, ◌⊎◌, [], length, get_or}
use Rattle.verity_store.specs.Stores.{IsLater, IsOnlyRead}
use Rattle.verity_chain.specs.Table.{height, hash_place, path_index}
use Rattle.verity_chain.specs.Stores.{hash_given}
use Rattle.verity_report.specs.Descent.{AreRows}
use Rattle.verity_pull.specs.Walk.{IsVouched, IsHashMixed, KeepsFront}
use Rattle.verity_pull.specs.Pull.{marks_at, pull_given}
use Rattle.verity_pull.specs.Over.{was_given, IsFollowed, IsAlike, IsSettled}
use Rattle.verity_pull.proofs.pulling_over.go_over.Given as goal

abbrev pub invariant-loop-n : goal.invariant-loop-n
invariant-loop-n g l =
    let L = g.L.BlockStore in
    let K = g.K.BlockStore in
    let S = g.S.BlockStore in
    let H = g.H.BlockStore in
    let t = l.fn.tree in
    let root = l.fn.old.root in
    let given = hash_given H t (length (H.given l.fn.source_hash)) l.source_hash in
    let was = was_given K t (length (K.given l.fn.local_hash)) l.local_hash in
    record {
      rows : AreRows t l.rows;
      old_rows : AreRows t l.old.rows;
      old_root : l.old.root ≡ root;
      within : l.n ≤ t.data_blocks;
      followed : IsFollowed K t root given was l.local_hash l.rows l.old.rows;
      settled : (j : ℕ) → j < l.n → IsSettled L t root
          (pull_given L S H t (marks_at L S H l.fn.local_data l.fn.source_data l.fn.source_hash) l.local_data l.source_data
          l.source_hash) was
          0 j j (L.content l.fn.local_data) l.local_data;
      hash : (j v : ℕ) → j < l.n → v < height t
          → IsVouched K t given (suc v) (path_index t j (suc v)) (hash_place t v (path_index t j (suc v))) l.local_hash
          ⊎ IsAlike t root given was (suc v) (path_index t j (suc v));
      behind : (q : ℕ) → l.n ≤ q → get_or (L.content l.local_data) q [] ≡ get_or (L.content l.fn.local_data) q [];
      data_len : length (L.content l.local_data) ≡ length (L.content l.fn.local_data);
      front : KeepsFront t.hash_start_block (K.content l.fn.local_hash) (K.content l.local_hash);
      most : l.fetched ≤ l.n;
      looked : l.read ≤ l.n;
      few : l.hash_blocks ≤ 14 * l.n;
      data_writes : L.changes l.local_data ≡ L.changes l.fn.local_data + l.fetched;
      hash_writes : K.changes l.local_hash ≡ K.changes l.fn.local_hash + l.hash_blocks;
      source_reads : S.reads l.source_data ≡ S.reads l.fn.source_data + l.fetched;
      hash_reads : H.reads l.source_hash ≡ H.reads l.fn.source_hash + l.hash_blocks;
      local_reads : L.reads l.local_data ≡ L.reads l.fn.local_data + l.read;
      hash_looked : K.reads l.local_hash ≤ K.reads l.fn.local_hash + l.hash_blocks;
      source_unfailed : S.failures l.source_data ≡ S.failures l.fn.source_data;
      source_hash_unfailed : H.failures l.source_hash ≡ H.failures l.fn.source_hash;
      local_keeps : IsLater L l.fn.local_data l.local_data;
      hash_keeps : IsLater K l.fn.local_hash l.local_hash;
      source_keeps : IsOnlyRead S l.fn.source_data l.source_data;
      source_hash_keeps : IsOnlyRead H l.fn.source_hash l.source_hash;
      data_room : t.data_block_size ≤ length l.room;
      hash_room : t.hash_block_size ≤ length l.room;
      hash_mixed : IsHashMixed K t given l.fn.local_hash l.local_hash;
      same : l.tree ≡ t;
    }

abbrev pub decreases-loop-n : goal.decreases-loop-n
decreases-loop-n g l = l.count - l.n
