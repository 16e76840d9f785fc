use Rattle.std.proofs.Common.{◌≡◌, ℕ, ◌+◌, ◌-◌, ◌/◌, ◌<◌, ◌≤◌, List, [], ◌∷◌, ◌++◌, Result, Ok, Err, true}
use Rattle.std.proofs.Common.{length, get_or, refl, sym, ap, ◌∙◌, subst, arith}
use Rattle.std.specs.List.{concat}
use Rattle.std.proofs.lemmas.List.Folds.{concat-append}
use Rattle.std.proofs.lemmas.Result.{err_from_is_err_and}
use Rattle.verity_digest.specs.Hash.{hashing}
use Rattle.verity_digest.specs.Tree.{Hashing, root, tree}
use Rattle.verity_geometry.specs.Geometry.{Shape}
use Rattle.verity_store.specs.Blocks.{resized}
use Rattle.verity_store.proofs.StoreLemmas.{later_then, only_read_same}
use Rattle.verity_superblock.specs.Superblock.{Params, zero_filled}
use Rattle.verity_superblock.specs.Image.{superblock_block, tree_of}
use Rattle.verity_store.specs.declared.fault.Which.{Which}
use Rattle.verity_build.specs.Faults.{CanBuild, HasFailed}
use Rattle.verity_build.specs.Given.{IsRootOfGiven}
use Rattle.verity_build.specs.Parameters.{salted_by, volume, front}
use Rattle.verity_build.specs.declared.fault.BuildFault.{BuildFault}
use Rattle.verity_build.specs.declared.fault.BuildFault.TheVariants.{Store}
use Rattle.verity_build.proofs.Refusals.{unfailed_explains, tells_bad_count, tells_bad_offset, has_failed, one_failed, no_fewer}
use Rattle.verity_build.proofs.building.build_at.Goals as goal

pub returns-in_err-made : goal.returns-in_err-made
returns-in_err-made g c =
    let D = g.D.BlockStore in
    let H = g.H.BlockStore in
    let image = c.args.data_store.now in
    let device = c.args.hash_store.now in
    let blocks : ℕ = length (D.content image) in
    let kept = c.prepare_build.ensures.kept in
    let by_data : Type 0 = D.failures image < D.failures image in
    let by_hash : Type 0 = H.failures device < H.failures c.prepare_build.new.hash_store in
    let fault : BuildFault = c.in_err-made.field-0.0 in
    let answer : Result (List ℕ) BuildFault = Err fault in
    let p = err_from_is_err_and c.from_residual.result c.from_residual.ensures.1 in
    let why = unfailed_explains by_data by_hash blocks c.args.offset (H.size device) fault c.in_err-made.ensures.fault in
    rw (p.1, p.2) record {
      built = tt;
      bytes = tt;
      root = tt;
      given = tt;
      ok = tt;
      bad_count = tells_bad_count by_data by_hash blocks c.args.offset (H.size device) answer tt why;
      bad_offset = tells_bad_offset by_data by_hash blocks c.args.offset (H.size device) answer tt why;
      fault = why;
      refused = λ _ _. kept.content;
      front = λ q _ _. ap (λ content. get_or content q []) kept.content;
      data_store = only_read_same D image;
      data_reads = tt;
      data_reads_most = no_fewer (D.reads image) blocks;
      hash_store = kept.later;
      hash_reads = kept.reads;
      data_unfailed = tt;
      hash_synced = tt;
      hash_unfailed = tt;
      refused_unfailed = λ _ _. (refl, c.prepare_build.ensures.unfailed);
    }

pub returns-in-Ok : goal.returns-in-Ok
returns-in-Ok g c =
    let D = g.D.BlockStore in
    let H = g.H.BlockStore in
    let image = c.args.data_store.now in
    let device = c.args.hash_store.now in
    let blocks : ℕ = length (D.content image) in
    let size : ℕ = H.size device in
    let made = c.in_ok-made.made in
    let begun = c.in_ok-made.ensures.ready.begun in
    let can = c.in_ok-made.ensures.ok in
    let kept = c.prepare_build.ensures.kept in
    let done = c.in-Ok.ensures in
    let answer : Result (List ℕ) BuildFault = Ok c.in-Ok.root in
    let p : Params = volume c.args.params.now (D.size image) size in
    let in_front : List (List ℕ) = front c.args.offset size (H.content device) in
    let hash_size : made.tree.geometry.hash_size ≡ size = ap (λ (t : Shape). t.hash_size) begun.geometry in
    let before : made.start - 1 ≡ c.args.offset / size = omega (arith, begun.start) in
    let hashes : hashing made.tree.hasher.salted made.tree.geometry.hash_size ≡ hashing (salted_by c.args.params.now) size =
    λ i. hashing (begun.salted i) (hash_size i) in
    let built = λ (td : D.tells image ≡ true) (th : H.tells device ≡ true). done.written td (kept.later.tells ∙ th)
    ∙ (λ i. resized (hash_size i) (before i) (kept.content i) ++ (zero_filled (hash_size i) (c.in_ok-made.ensures.ready.superblock i)
    ∷ tree (hashes i) (D.content image))) in
    record {
      built = built;
      bytes = λ td th. ap concat (built td th) ∙ concat-append in_front (superblock_block p blocks ∷ tree_of p (D.content image));
      root = λ td. done.root td ∙ ap (λ (h : Hashing). root h (D.content image)) hashes;
      given = subst (λ (h : Hashing). IsRootOfGiven D image c.write_device.new.data_store h c.in-Ok.root) hashes done.given;
      ok = can;
      bad_count = tells_bad_count ⊥ ⊥ blocks c.args.offset size answer can tt;
      bad_offset = tells_bad_offset ⊥ ⊥ blocks c.args.offset size answer can tt;
      fault = tt;
      refused = tt;
      front = λ q below inside. done.front q (omega (arith, begun.start))
          (subst (λ (content : List (List ℕ)). q < length content) (sym kept.content) inside)
          ∙ ap (λ (content : List (List ℕ)). get_or content q []) kept.content;
      data_store = done.data_store;
      data_reads = done.data_reads ∙ ap (λ (t : Shape). D.reads image + t.blocks) begun.geometry;
      data_reads_most = subst (λ (t : Shape). D.reads c.write_device.new.data_store ≤ D.reads image + t.blocks) begun.geometry
          done.data_reads_most;
      hash_store = later_then H device c.prepare_build.new.hash_store c.write_device.new.hash_store kept.later done.hash_store;
      hash_reads = done.hash_reads ∙ kept.reads;
      data_unfailed = done.data_unfailed;
      hash_synced = done.hash_synced;
      hash_unfailed = done.hash_unfailed ∙ c.prepare_build.ensures.unfailed;
      refused_unfailed = tt;
    }

pub returns : goal.returns
returns g c =
    let D = g.D.BlockStore in
    let H = g.H.BlockStore in
    let image = c.args.data_store.now in
    let device = c.args.hash_store.now in
    let blocks : ℕ = length (D.content image) in
    let size : ℕ = H.size device in
    let kept = c.prepare_build.ensures.kept in
    let unfailed = c.prepare_build.ensures.unfailed in
    let by_data : Type 0 = D.failures image < D.failures c.write_device.new.data_store in
    let by_hash : Type 0 = H.failures device < H.failures c.write_device.new.hash_store in
    let begun = c.in_ok-made.ensures.ready.begun in
    let done = c.in-Err.ensures in
    let answer : Result (List ℕ) BuildFault = Err (Store c.in-Err.which) in
    let met : Result (List ℕ) Which = Err c.in-Err.which in
    let why : CanBuild blocks c.args.offset size × HasFailed by_data by_hash c.in-Err.which = (
      c.in_ok-made.ensures.ok,
      has_failed by_data by_hash met c.in-Err.which refl done.data_failed
          (λ is. subst (λ n. n < H.failures c.write_device.new.hash_store) unfailed (done.hash_failed is)),
    ) in
    record {
      built = tt;
      bytes = tt;
      root = tt;
      given = tt;
      ok = tt;
      bad_count = tells_bad_count by_data by_hash blocks c.args.offset size answer tt why;
      bad_offset = tells_bad_offset by_data by_hash blocks c.args.offset size answer tt why;
      fault = why;
      refused = one_failed _ c.in-Err.which;
      front = λ q below inside. done.front q (omega (arith, begun.start))
          (subst (λ (content : List (List ℕ)). q < length content) (sym kept.content) inside)
          ∙ ap (λ (content : List (List ℕ)). get_or content q []) kept.content;
      data_store = done.data_store;
      data_reads = tt;
      data_reads_most = subst (λ (t : Shape). D.reads c.write_device.new.data_store ≤ D.reads image + t.blocks) begun.geometry
          done.data_reads_most;
      hash_store = later_then H device c.prepare_build.new.hash_store c.write_device.new.hash_store kept.later done.hash_store;
      hash_reads = done.hash_reads ∙ kept.reads;
      data_unfailed = tt;
      hash_synced = tt;
      hash_unfailed = tt;
      refused_unfailed = one_failed _ c.in-Err.which;
    }
