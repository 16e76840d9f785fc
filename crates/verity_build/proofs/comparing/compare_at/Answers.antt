use Rattle.std.proofs.Common.{ℕ, ◌+◌, ◌<◌, ◌≤◌, Result, Ok, Err, length, refl, ap, ◌∙◌, subst}
use Rattle.std.proofs.lemmas.Result.{err_from_is_err_and}
use Rattle.verity_digest.specs.Hash.{Salted, hashing}
use Rattle.verity_geometry.specs.Geometry.{Shape, total_of}
use Rattle.verity_store.proofs.StoreLemmas.{only_read_same}
use Rattle.verity_store.specs.declared.fault.Which.{Which}
use Rattle.verity_build.specs.Differences.{IsCompared}
use Rattle.verity_build.specs.Faults.{CanBuild, HasFailed}
use Rattle.verity_build.specs.Parameters.{salted_by, shape_over}
use Rattle.verity_build.specs.declared.compared.Compared.{Compared}
use Rattle.verity_build.specs.declared.fault.BuildFault.{BuildFault}
use Rattle.verity_build.specs.declared.fault.BuildFault.TheVariants.{Store}
use Rattle.verity_build.proofs.Refusals.{unfailed_explains, tells_bad_count, tells_bad_offset, has_failed, one_failed, no_fewer}
use Rattle.verity_build.proofs.comparing.compare_at.Goals as goal

pub returns-in_err-made : goal.returns-in_err-made
returns-in_err-made g c =
    let D = g.D.BlockStore in
    let H = g.H.BlockStore in
    let image = c.args.data_store.now in
    let device = c.args.hash_store.now in
    let blocks : ℕ = length (D.content image) in
    let by_data : Type 0 = D.failures image < D.failures image in
    let by_hash : Type 0 = H.failures device < H.failures device in
    let fault : BuildFault = c.in_err-made.field-0.0 in
    let answer : Result Compared BuildFault = Err fault in
    let p = err_from_is_err_and c.from_residual.result c.from_residual.ensures.1 in
    let why = unfailed_explains by_data by_hash blocks c.args.offset (H.size device) fault c.in_err-made.ensures.fault in
    rw (p.1, p.2) record {
      compared = tt;
      ok = tt;
      bad_count = tells_bad_count by_data by_hash blocks c.args.offset (H.size device) answer tt why;
      bad_offset = tells_bad_offset by_data by_hash blocks c.args.offset (H.size device) answer tt why;
      fault = why;
      data_store = only_read_same D image;
      data_reads = tt;
      data_reads_most = no_fewer (D.reads image) blocks;
      hash_store = only_read_same H device;
      hash_reads_most = no_fewer (H.reads device) (total_of (shape_over c.args.params.now (D.size image) (H.size device) blocks));
      data_unfailed = tt;
      hash_unfailed = tt;
      refused_unfailed = λ _ _. (refl, refl);
    }

pub returns-in-Ok : goal.returns-in-Ok
returns-in-Ok g c =
    let D = g.D.BlockStore in
    let H = g.H.BlockStore in
    let image = c.args.data_store.now in
    let device = c.args.hash_store.now in
    let blocks : ℕ = length (D.content image) in
    let made = c.in_ok-made.made in
    let found : Compared = c.in-Ok.found in
    let answer : Result Compared BuildFault = Ok found in
    let begun = c.in_ok-made.ensures.ready.begun in
    let can = c.in_ok-made.ensures.ok in
    let done = c.in-Ok.ensures in
    let s : Shape = shape_over c.args.params.now (D.size image) (H.size device) blocks in
    let P : Shape → Type 0 = λ t. IsCompared t (hashing made.tree.hasher.salted t.hash_size) (D.content image) made.start
    (H.content device) found in
    let Q : Salted → Type 0 = λ x. IsCompared s (hashing x s.hash_size) (D.content image) made.start (H.content device) found in
    let R : ℕ → Type 0 = λ a. IsCompared s (hashing (salted_by c.args.params.now) s.hash_size) (D.content image) a (H.content device)
    found in
    record {
      compared = λ td th. subst R begun.start (subst Q begun.salted (subst P begun.geometry (done.compared td th)));
      ok = can;
      bad_count = tells_bad_count ⊥ ⊥ blocks c.args.offset (H.size device) answer can tt;
      bad_offset = tells_bad_offset ⊥ ⊥ blocks c.args.offset (H.size device) answer can tt;
      fault = tt;
      data_store = done.data_store;
      data_reads = done.data_reads ∙ ap (λ (t : Shape). D.reads image + t.blocks) begun.geometry;
      data_reads_most = subst (λ (t : Shape). D.reads c.compare_device.new.data_store ≤ D.reads image + t.blocks) begun.geometry
          done.data_reads_most;
      hash_store = done.hash_store;
      hash_reads_most = subst (λ t. H.reads c.compare_device.new.hash_store ≤ H.reads device + total_of t) begun.geometry
          done.hash_reads;
      data_unfailed = done.data_unfailed;
      hash_unfailed = done.hash_unfailed;
      refused_unfailed = tt;
    }

pub returns : goal.returns
returns g c =
    let D = g.D.BlockStore in
    let H = g.H.BlockStore in
    let image = c.args.data_store.now in
    let device = c.args.hash_store.now in
    let blocks : ℕ = length (D.content image) in
    let by_data : Type 0 = D.failures image < D.failures c.compare_device.new.data_store in
    let by_hash : Type 0 = H.failures device < H.failures c.compare_device.new.hash_store in
    let begun = c.in_ok-made.ensures.ready.begun in
    let done = c.in-Err.ensures in
    let answer : Result Compared BuildFault = Err (Store c.in-Err.which) in
    let met : Result Compared Which = Err c.in-Err.which in
    let why : CanBuild blocks c.args.offset (H.size device) × HasFailed by_data by_hash c.in-Err.which = (
      c.in_ok-made.ensures.ok,
      has_failed by_data by_hash met c.in-Err.which refl done.data_failed done.hash_failed,
    ) in
    record {
      compared = tt;
      ok = tt;
      bad_count = tells_bad_count by_data by_hash blocks c.args.offset (H.size device) answer tt why;
      bad_offset = tells_bad_offset by_data by_hash blocks c.args.offset (H.size device) answer tt why;
      fault = why;
      data_store = done.data_store;
      data_reads = tt;
      data_reads_most = subst (λ (t : Shape). D.reads c.compare_device.new.data_store ≤ D.reads image + t.blocks) begun.geometry
          done.data_reads_most;
      hash_store = done.hash_store;
      hash_reads_most = subst (λ t. H.reads c.compare_device.new.hash_store ≤ H.reads device + total_of t) begun.geometry
          done.hash_reads;
      data_unfailed = tt;
      hash_unfailed = tt;
      refused_unfailed = one_failed _ c.in-Err.which;
    }
