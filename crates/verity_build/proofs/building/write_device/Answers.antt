use Rattle.std.proofs.Common.{◌≡◌, ◌≢◌, ℕ, ◌+◌, ◌-◌, ◌<◌, ◌≤◌, List, [], Err, length, get_or, set, refl}
use Rattle.std.proofs.Common.{sym, ap, ◌∙◌, subst, arith}
use Rattle.std.proofs.lemmas.Result.{err_from_is_err_and}
use Rattle.verity_store.specs.Given.{GoesOn}
use Rattle.verity_store.specs.Stores.{IsLater}
use Rattle.verity_store.specs.declared.store.BlockStore as store
use Rattle.verity_store.specs.declared.fault.StoreFault.{StoreFault}
use Rattle.verity_store.specs.declared.fault.StoreFault.TheVariants.{Device, Ragged, NoMemory, BlockSize}
use Rattle.verity_store.proofs.StoreLemmas.{later_then, only_read_same}
use Rattle.verity_build.proofs.Refusals.{no_fewer, same_fault}
use Rattle.std.proofs.lemmas.List.{length-set}
use Rattle.verity_digest.specs.Hash.{Salted, hashing}
use Rattle.verity_digest.specs.Tree.{tree}
use Rattle.verity_geometry.specs.Geometry.{Shape, levels_of, total_of}
use Rattle.verity_store.specs.Blocks.{resized}
use Rattle.verity_superblock.specs.Superblock.{zero_filled}
use Rattle.verity_tree.specs.Opens.{opens}
use Rattle.verity_tree.proofs.Trees.{levels_of_opens}
use Rattle.verity_tree.specs.Open.{Open}
use Rattle.verity_build.specs.Device.{AreStored}
use Rattle.verity_build.proofs.Finishes.{root_known, root_right, holds_tree, length-resized, get_or-resized_old, device_is, stored_behind}
use Rattle.verity_build.proofs.building.write_device.Goals as goal

pub unreachable-requires : goal.unreachable-requires
unreachable-requires g c =
    let first = c.args.tree.now in
    let new = c.write_tree.new.tree in
    let wrote = c.in_ok-write_tree.ensures in
    root_known first.geometry (opens new) new.root first.shaped (levels_of_opens new ∙ ap levels_of wrote.geometry) wrote.grown c.in-None.is

-- what setting the length leaves
later_cut : {S : Type 0} (facts : store.Ghosts S) (old new : S) → facts.tells new ≡ facts.tells old → facts.size new ≡ facts.size old
    → facts.fixed new ≡ facts.fixed old → GoesOn (facts.given old) (facts.given new) → facts.failures old ≤ facts.failures new
    → facts.reads new ≡ facts.reads old → facts.changes new ≡ facts.changes old + 1 → facts.room old ≤ facts.room new
    → IsLater facts old new
later_cut facts old new tells size fixed gave failures reads changes room = record {
  tells = tells;
  size = size;
  fixed = fixed;
  gave = gave;
  failures = failures;
  reads = omega (arith, reads);
  changes = omega (arith, changes);
  room = room;
}

-- where there is room, it fails by a failure of the device
cut_failed : {room blocks : ℕ} (fault : StoreFault) (failed : Type 0)
    → (fault ≢ Device → (fault ≡ NoMemory) × (room < blocks)) → (fault ≡ Device → failed) → blocks ≤ room → failed
cut_failed Device failed why by_device there = by_device refl
cut_failed NoMemory failed why by_device there = absurd (omega (arith, (why (λ is. cc)).1))
cut_failed Ragged failed why by_device there = absurd (omega (arith, (why (λ is. cc)).1))
cut_failed BlockSize failed why by_device there = absurd (omega (arith, (why (λ is. cc)).1))

pub returns-in_default : goal.returns-in_default
returns-in_default g c =
    let D = g.D.BlockStore in
    let H = g.H.BlockStore in
    let image = c.args.data_store.now in
    let device = c.args.hash_store.now in
    let cut = c.set_len.ensures in
    record {
      written = tt;
      root = tt;
      given = tt;
      front = λ q below inside. ap (λ (blocks : List (List ℕ)). get_or blocks q []) cut.partly.3
          ∙ get_or-resized_old (H.size device) cut.partly.0 (H.content device) q (omega (arith, cut.partly.1)) inside;
      data_store = only_read_same D image;
      data_reads = tt;
      data_reads_most = no_fewer (D.reads image) c.args.tree.now.geometry.blocks;
      hash_store = later_cut H device c.set_len.new.self cut.tells cut.size cut.fixed cut.gave cut.failures cut.reads cut.counted cut.room;
      hash_reads = cut.reads;
      data_failed = λ is. cc;
      hash_failed = λ _. cut_failed c.in_default.field-0 (H.failures device < H.failures c.set_len.new.self) c.in_default.ensures.error
          (λ is. c.in_default.ensures.failed (ap (λ fault. Err fault) is))
          (subst (λ n. c.args.start + n ≤ H.room device) (sym c.total.ensures.value) c.requires.reserved);
      data_unfailed = tt;
      hash_synced = tt;
      hash_unfailed = tt;
    }

pub returns-in_err-write_tree : goal.returns-in_err-write_tree
returns-in_err-write_tree g c =
    let H = g.H.BlockStore in
    let device = c.args.hash_store.now in
    let p = err_from_is_err_and c.from_residual.result c.from_residual.ensures.1 in
    let cut = c.in-Ok.ensures in
    let wrote = c.in_err-write_tree.ensures in
    rw (p.1, p.2) record {
      written = tt;
      root = tt;
      given = tt;
      front = λ q below inside. wrote.hash_store.front q (omega arith)
          ∙ ap (λ (blocks : List (List ℕ)). get_or blocks q []) cut.done
          ∙ get_or-resized_old (H.size device) (c.args.start + c.total.result) (H.content device) q (omega arith) inside;
      data_store = wrote.data_store;
      data_reads = tt;
      data_reads_most = wrote.data_reads_most;
      hash_store = later_then H device c.set_len.new.self c.write_tree.new.hash_store
          (later_cut H device c.set_len.new.self cut.tells cut.size cut.fixed cut.gave cut.failures cut.reads cut.counted cut.room)
          wrote.hash_store.later;
      hash_reads = wrote.hash_store.reads ∙ cut.reads;
      data_failed = λ is. wrote.data_failed (ap (λ which. Err which) (same_fault _ _ is));
      hash_failed = λ is. subst (λ n. n < H.failures c.write_tree.new.hash_store) cut.unfailed
          (wrote.hash_failed (ap (λ which. Err which) (same_fault _ _ is)));
      data_unfailed = tt;
      hash_synced = tt;
      hash_unfailed = tt;
    }

pub returns-in_default-write_superblock : goal.returns-in_default-write_superblock
returns-in_default-write_superblock g c =
    let H = g.H.BlockStore in
    let device = c.args.hash_store.now in
    let cut = c.in-Ok.ensures in
    let wrote = c.in_ok-write_tree.ensures in
    let last = c.in_default-write_superblock.ensures in
    record {
      written = tt;
      root = tt;
      given = tt;
      front = λ q below inside. last.others.1 q (λ is. absurd (omega arith)) ∙ wrote.hash_store.front q (omega arith)
          ∙ ap (λ (blocks : List (List ℕ)). get_or blocks q []) cut.done
          ∙ get_or-resized_old (H.size device) (c.args.start + c.total.result) (H.content device) q (omega arith) inside;
      data_store = wrote.data_store;
      data_reads = tt;
      data_reads_most = wrote.data_reads_most;
      hash_store = later_then H device c.write_tree.new.hash_store c.write_superblock.new.hash_store
          (later_then H device c.set_len.new.self c.write_tree.new.hash_store
          (later_cut H device c.set_len.new.self cut.tells cut.size cut.fixed cut.gave cut.failures cut.reads cut.counted cut.room)
          wrote.hash_store.later) last.later;
      hash_reads = last.reads ∙ wrote.hash_store.reads ∙ cut.reads;
      data_failed = λ is. cc;
      hash_failed = λ _. subst (λ n. n < H.failures c.write_superblock.new.hash_store) (wrote.hash_unfailed ∙ cut.unfailed) last.failed;
      data_unfailed = tt;
      hash_synced = tt;
      hash_unfailed = tt;
    }

pub returns-clause-root : goal.returns-clause-root
returns-clause-root g c = λ tells.
    let first = c.args.tree.now in
    let new = c.write_tree.new.tree in
    let wrote = c.in_ok-write_tree.ensures in
    root_right first.geometry (opens new) new.root first.shaped (levels_of_opens new ∙ ap levels_of wrote.geometry) wrote.grown
    first.hasher.salted (g.D.BlockStore.content c.args.data_store.now) first.sized c.requires.blocks c.in-Some.root
    (wrote.right tells) c.in-Some.is

pub returns-clause-given : goal.returns-clause-given
returns-clause-given g c =
    let first = c.args.tree.now in
    let new = c.write_tree.new.tree in
    let wrote = c.in_ok-write_tree.ensures in
    let image = wrote.given.0 in (
      image,
      wrote.given.1,
      root_right first.geometry (opens new) new.root first.shaped (levels_of_opens new ∙ ap levels_of wrote.geometry) wrote.grown
          first.hasher.salted image first.sized (wrote.given.1.blocks ∙ c.requires.blocks) c.in-Some.root wrote.given.2 c.in-Some.is,
    )

pub returns-clause-front : goal.returns-clause-front
returns-clause-front g c = λ q below inside.
    let H = g.H.BlockStore in
    c.in-Ok-write_superblock.ensures.others.1 q (λ is. absurd (omega arith))
    ∙ c.in_ok-write_tree.ensures.hash_store.front q (omega arith)
    ∙ ap (λ blocks. get_or blocks q []) c.in-Ok.ensures.done
    ∙ get_or-resized_old (H.size c.args.hash_store.now) (c.args.start + c.total.result) (H.content c.args.hash_store.now) q
    (omega arith) inside

pub returns-clause-data_store : goal.returns-clause-data_store
returns-clause-data_store g c = c.in_ok-write_tree.ensures.data_store

pub returns-clause-data_reads : goal.returns-clause-data_reads
returns-clause-data_reads g c = c.in_ok-write_tree.ensures.data_reads

pub returns-clause-data_reads_most : goal.returns-clause-data_reads_most
returns-clause-data_reads_most g c = c.in_ok-write_tree.ensures.data_reads_most

pub returns-clause-hash_store : goal.returns-clause-hash_store
returns-clause-hash_store g c =
    let H = g.H.BlockStore in
    let device = c.args.hash_store.now in
    let cut = c.in-Ok.ensures in
    later_then H device c.write_tree.new.hash_store c.write_superblock.new.hash_store
    (later_then H device c.set_len.new.self c.write_tree.new.hash_store
    (later_cut H device c.set_len.new.self cut.tells cut.size cut.fixed cut.gave cut.failures cut.reads cut.counted cut.room)
    c.in_ok-write_tree.ensures.hash_store.later) c.in-Ok-write_superblock.ensures.later

pub returns-clause-hash_reads : goal.returns-clause-hash_reads
returns-clause-hash_reads g c =
    c.in-Ok-write_superblock.ensures.reads ∙ c.in_ok-write_tree.ensures.hash_store.reads ∙ c.in-Ok.ensures.reads

pub returns-clause-data_failed : goal.returns-clause-data_failed
returns-clause-data_failed g c = λ is. cc

pub returns-clause-hash_failed : goal.returns-clause-hash_failed
returns-clause-hash_failed g c = λ is. cc

pub returns-clause-data_unfailed : goal.returns-clause-data_unfailed
returns-clause-data_unfailed g c = c.in_ok-write_tree.ensures.data_unfailed

pub returns-clause-hash_synced : goal.returns-clause-hash_synced
returns-clause-hash_synced g c = c.in-Ok-write_superblock.ensures.synced

pub returns-clause-hash_unfailed : goal.returns-clause-hash_unfailed
returns-clause-hash_unfailed g c =
    c.in-Ok-write_superblock.ensures.unfailed ∙ c.in_ok-write_tree.ensures.hash_unfailed ∙ c.in-Ok.ensures.unfailed

pub returns-clause-written : goal.returns-clause-written
returns-clause-written g c = λ td th.
    let H = g.H.BlockStore in
    let first = c.args.tree.now in
    let s : Shape = first.geometry in
    let salted : Salted = first.hasher.salted in
    let image : List (List ℕ) = g.D.BlockStore.content c.args.data_store.now in
    let start : ℕ = c.args.start in
    let old : List (List ℕ) = H.content c.args.hash_store.now in
    let mid : List (List ℕ) = H.content c.write_tree.new.hash_store in
    let new : List (List ℕ) = H.content c.write_superblock.new.hash_store in
    let opens : List Open = (opens c.write_tree.new.tree) in
    let cut = c.in-Ok.ensures in
    let wrote = c.in_ok-write_tree.ensures in
    let levels = levels_of_opens c.write_tree.new.tree ∙ ap levels_of wrote.geometry in
    let superblock : List ℕ = zero_filled s.hash_size c.args.superblock.now in
    let all : start + c.total.result ≡ start + total_of s = ap (λ t. start + t) c.total.ensures.value in
    let mid_len : length mid ≡ start + total_of s = wrote.hash_store.len ∙ ap length cut.done
    ∙ length-resized (H.size c.args.hash_store.now) (start + c.total.result) old ∙ all in
    let mid_front = λ (q : ℕ) (below : q < start).
    wrote.hash_store.front q below ∙ ap (λ blocks. get_or blocks q []) cut.done
    ∙ (λ i. get_or (resized (c.requires.hash_size i) (all i) old) q []) in
    let size : H.size c.write_tree.new.hash_store ≡ s.hash_size = wrote.hash_store.later.size ∙ cut.size ∙ c.requires.hash_size in
    let is : new ≡ set mid (start - 1) superblock =
    c.in-Ok-write_superblock.ensures.written (wrote.hash_store.later.tells ∙ cut.tells ∙ th)
    ∙ ap (λ z. set mid (start - 1) (zero_filled z c.args.superblock.now)) size in
    let stored : AreStored s start (tree (hashing salted s.hash_size) image) opens mid = wrote.stored td (cut.tells ∙ th) in
    let there = holds_tree s opens c.write_tree.new.tree.root first.shaped levels wrote.grown salted image first.sized
    c.requires.blocks start new
    (stored_behind s start (tree (hashing salted s.hash_size) image) opens mid new superblock c.requires.behind is stored)
    (ap length is ∙ length-set mid (start - 1) superblock ∙ mid_len) in
    device_is s start (tree (hashing salted s.hash_size) image) old mid new superblock c.requires.behind mid_len mid_front is there
