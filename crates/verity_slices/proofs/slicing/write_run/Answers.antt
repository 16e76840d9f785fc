use Rattle.std.proofs.Common.{◌≡◌, ℕ, ◌+◌, ◌-◌, ◌*◌, ◌<◌, ◌≤◌, min, List, [], length, get_or, set, true, refl, sym, ap, ◌∙◌, subst, arith}
use Rattle.std.proofs.lemmas.Result.{err_from_is_err_and}
use Rattle.verity_digest.specs.Hash.{Salted, hashing}
use Rattle.verity_digest.specs.Tree.{Hashing, per_block}
use Rattle.verity_digest.specs.Rows.{block_at}
use Rattle.verity_digest.proofs.Counts.{last_end}
use Rattle.verity_geometry.specs.Geometry.{Shape, digests_per_block, levels_of, len_of, place_of, start_of, total_of}
use Rattle.verity_store.specs.Stores.{IsLater}
use Rattle.verity_store.proofs.StoreLemmas.{only_read_same, only_read_then}
use Rattle.verity_store.proofs.GivenLemmas.{goes_on_len}
use Rattle.verity_slices.specs.Given.{IsGivenLeaf}
use Rattle.verity_slices.proofs.Parts.{part_none, part_then, part_one}
use Rattle.verity_slices.proofs.Steps.{run_more, leaf_on, leaf_earlier}
use Rattle.verity_slices.proofs.Uppers.{leaves_there}
use Rattle.verity_build.proofs.Refusals.{same_fault}
use Rattle.verity_slices.proofs.slicing.write_run.Goals as goal

pub loop-index-init : goal.loop-index-init
loop-index-init g c =
    let s : Shape = c.args.tree.now.geometry in
    let first : ℕ = c.args.start + start_of s 0 in
    record {
      stored = λ td th i low below. absurd (omega (arith, low, below));
      given = λ th i low below. absurd (omega (arith, low, below));
      writes = part_none g.H.BlockStore (first + c.args.run.first) (first + c.args.run.end) c.args.hash_store.now;
      data_store = only_read_same g.D.BlockStore c.args.data_store.now;
      data_unfailed = refl;
      hash_unfailed = refl;
      salted = refl;
      geometry = refl;
    }

pub loop-index-preserved : goal.loop-index-preserved
loop-index-preserved g c =
    let D = g.D.BlockStore in
    let H = g.H.BlockStore in
    let tree = c.args.tree.now in
    let s : Shape = tree.geometry in
    let salted : Salted = tree.hasher.salted in
    let h : Hashing = hashing salted s.hash_size in
    let image = c.args.data_store.now in
    let device = c.args.hash_store.now in
    let start : ℕ = c.args.start in
    let first : ℕ = start + start_of s 0 in
    let n : ℕ = c.loop-index.index in
    let kept = c.loop-index.invariant in
    let made = c.in_ok-make_leaf.ensures in
    let wrote = c.in-Ok.ensures in
    let there = leaves_there s n (omega (arith, c.loop-index-test.true, c.requires.within)) in
    let end = last_end (digests_per_block s) s.blocks there.0 in
    let block : List ℕ = c.make_leaf.new.block in
    let hashes : hashing c.loop-index.tree.hasher.salted c.loop-index.tree.geometry.hash_size ≡ h =
    λ i. hashing (kept.salted i) (kept.geometry i).hash_size in
    let geometry = made.geometry ∙ kept.geometry in
    let at : start + c.place-place.result ≡ start + place_of s 0 n =
    ap (λ p. start + p) (c.place-place.ensures.value ∙ ap (λ t. place_of t 0 n) geometry) in
    let inside : start + place_of s 0 n < length (H.content c.loop-index.hash_store) =
    omega (arith, there.1, end, c.requires.room, kept.writes.len) in
    let is = λ (th : H.tells device ≡ true). wrote.written (kept.writes.later.tells ∙ th)
    ∙ ap (λ a. set (H.content c.loop-index.hash_store) a block) at in
    let later : IsLater H c.loop-index.hash_store c.write.new.self =
    record {
      tells = wrote.tells;
      size = wrote.size;
      fixed = wrote.fixed;
      gave = wrote.gave;
      failures = wrote.failures;
      reads = omega (arith, wrote.reads);
      changes = omega (arith, wrote.counted);
      room = omega (arith, wrote.room);
    } in
    record {
      stored = λ td th. run_more (λ i b. b ≡ block_at h (D.content image) 1 i) start (start_of s 0) c.args.run.first n
          (H.content c.loop-index.hash_store) (H.content c.write.new.self) block inside (is th)
          (made.right (kept.data_store.later.tells ∙ td)
          ∙ (λ i. block_at (hashes i) (kept.data_store.content i) 1 n))
          (kept.stored td th);
      given = λ th. run_more (λ i b. IsGivenLeaf D image c.make_leaf.new.data_store h (i * per_block h)
          (min (per_block h) (s.blocks - i * per_block h)) b) start (start_of s 0) c.args.run.first n
          (H.content c.loop-index.hash_store) (H.content c.write.new.self) block inside (is th)
          (leaf_earlier D image c.loop-index.data_store c.make_leaf.new.data_store h (n * per_block h)
          (min (per_block h) (s.blocks - n * per_block h)) block (goes_on_len _ _ kept.data_store.later.gave) kept.data_store.later.size
          (let P : Hashing → ℕ → Type 0 = λ x b. IsGivenLeaf D c.loop-index.data_store c.make_leaf.new.data_store x (n * per_block x)
          (min (per_block x) (b - n * per_block x)) block in
          subst (λ b. P h b) (ap (λ (t : Shape). t.blocks) kept.geometry)
          (subst (λ x. P x c.loop-index.tree.geometry.blocks) hashes made.given)))
          (λ i low below. leaf_on D image c.loop-index.data_store c.make_leaf.new.data_store h (i * per_block h)
          (min (per_block h) (s.blocks - i * per_block h)) (get_or (H.content c.loop-index.hash_store) (start + place_of s 0 i) [])
          made.read.later.gave (kept.given th i low below));
      writes = part_then H (first + c.args.run.first) (first + c.args.run.end) device c.loop-index.hash_store c.write.new.self kept.writes
          (part_one H (first + c.args.run.first) (first + c.args.run.end) (start + c.place-place.result) c.loop-index.hash_store
          c.write.new.self (omega (arith, at, c.loop-index.auto.index)) (omega (arith, at, c.loop-index-test.true)) wrote.others wrote.reads
          wrote.room wrote.given later);
      data_store = only_read_then D image c.loop-index.data_store c.make_leaf.new.data_store kept.data_store made.read;
      data_unfailed = made.unfailed ∙ kept.data_unfailed;
      hash_unfailed = wrote.unfailed ∙ kept.hash_unfailed;
      salted = made.salted ∙ kept.salted;
      geometry = geometry;
    }

pub returns-in_err-make_leaf : goal.returns-in_err-make_leaf
returns-in_err-make_leaf g c =
    let D = g.D.BlockStore in
    let image = c.args.data_store.now in
    let kept = c.loop-index.invariant in
    let made = c.in_err-make_leaf.ensures in
    let p = err_from_is_err_and c.from_residual.result c.from_residual.ensures.1 in
    rw (p.1, p.2) record {
      stored = tt;
      given = tt;
      writes = kept.writes;
      data_store = only_read_then D image c.loop-index.data_store c.make_leaf.new.data_store kept.data_store made.read;
      data_failed = λ _. subst (λ n. n < D.failures c.make_leaf.new.data_store) kept.data_unfailed made.failed;
      hash_failed = λ is. let named = same_fault _ _ is in let by_data = made.which in cc;
      data_unfailed = tt;
      hash_unfailed = tt;
    }

pub returns-in_default : goal.returns-in_default
returns-in_default g c =
    let D = g.D.BlockStore in
    let H = g.H.BlockStore in
    let s : Shape = c.args.tree.now.geometry in
    let image = c.args.data_store.now in
    let device = c.args.hash_store.now in
    let start : ℕ = c.args.start in
    let first : ℕ = start + start_of s 0 in
    let n : ℕ = c.loop-index.index in
    let kept = c.loop-index.invariant in
    let made = c.in_ok-make_leaf.ensures in
    let wrote = c.write.ensures in
    let geometry = made.geometry ∙ kept.geometry in
    let at : start + c.place-place.result ≡ start + place_of s 0 n =
    ap (λ p. start + p) (c.place-place.ensures.value ∙ ap (λ t. place_of t 0 n) geometry) in
    let later : IsLater H c.loop-index.hash_store c.write.new.self =
    record {
      tells = wrote.tells;
      size = wrote.size;
      fixed = wrote.fixed;
      gave = wrote.gave;
      failures = wrote.failures;
      reads = omega (arith, wrote.reads);
      changes = omega (arith, wrote.counted);
      room = omega (arith, wrote.room);
    } in
    record {
      stored = tt;
      given = tt;
      writes = part_then H (first + c.args.run.first) (first + c.args.run.end) device c.loop-index.hash_store c.write.new.self kept.writes
          (part_one H (first + c.args.run.first) (first + c.args.run.end) (start + c.place-place.result) c.loop-index.hash_store
          c.write.new.self (omega (arith, at, c.loop-index.auto.index)) (omega (arith, at, c.loop-index-test.true)) wrote.others wrote.reads
          wrote.room wrote.given later);
      data_store = only_read_then D image c.loop-index.data_store c.make_leaf.new.data_store kept.data_store made.read;
      data_failed = λ is. cc;
      hash_failed = λ _. subst (λ n. n < H.failures c.write.new.self) kept.hash_unfailed c.in_default.ensures.failed;
      data_unfailed = tt;
      hash_unfailed = tt;
    }
