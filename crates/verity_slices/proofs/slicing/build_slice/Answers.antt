use Rattle.std.proofs.Common.{◌≡◌, ℕ, ◌+◌, ◌<◌, ◌≤◌, List, [], Result, Ok, Err, length, get_or, true, refl, sym, ap, ◌∙◌, subst, arith}
use Rattle.std.proofs.lemmas.Result.{err_from_is_err_and}
use Rattle.verity_digest.specs.Hash.{Salted, hashing}
use Rattle.verity_digest.specs.Tree.{Hashing}
use Rattle.verity_geometry.specs.Geometry.{Shape}
use Rattle.verity_slice.specs.Slices.{run_of}
use Rattle.verity_slice.specs.declared.run.Run.{Run}
use Rattle.verity_store.proofs.StoreLemmas.{later_then, only_read_same}
use Rattle.verity_store.specs.declared.fault.Which.{Which}
use Rattle.verity_superblock.specs.Image.{start_behind}
use Rattle.verity_build.specs.Faults.{CanBuild, HasFailed}
use Rattle.verity_build.specs.Parameters.{salted_by, shape_over}
use Rattle.verity_build.specs.declared.fault.BuildFault.{BuildFault}
use Rattle.verity_build.specs.declared.fault.BuildFault.TheVariants.{Store}
use Rattle.verity_build.proofs.Refusals.{unfailed_explains, has_failed, one_failed}
use Rattle.verity_slices.specs.Leaves.{GrowsBeside, HoldsGivenLeaves, HoldsLeaves, KeepsOthers}
use Rattle.verity_slices.specs.Level.{leaves_of}
use Rattle.verity_slices.proofs.slicing.build_slice.Goals as goal

pub returns-in_err-made : goal.returns-in_err-made
returns-in_err-made g c =
    let D = g.D.BlockStore in
    let H = g.H.BlockStore in
    let image = c.args.data_store.now in
    let device = c.args.hash_store.now in
    let blocks : ℕ = length (D.content image) in
    let kept = c.prepare_slice.ensures.kept in
    let by_data : Type 0 = D.failures image < D.failures image in
    let by_hash : Type 0 = H.failures device < H.failures c.prepare_slice.new.hash_store in
    let fault : BuildFault = c.in_err-made.field-0.0 in
    let p = err_from_is_err_and c.from_residual.result c.from_residual.ensures.1 in
    let why = unfailed_explains by_data by_hash blocks c.args.offset (H.size device) fault c.in_err-made.ensures.fault in
    rw (p.1, p.2) record {
      made = tt;
      stored = tt;
      given = tt;
      grows = tt;
      kept = record {
        len = omega (arith, ap length kept.content);
        others = λ q inside apart. ap (λ (c : List (List ℕ)). get_or c q []) kept.content;
      };
      ok = tt;
      fault = why;
      refused = λ _ _. kept.content;
      data_store = only_read_same D image;
      hash_store = kept.later;
      hash_reads = kept.reads;
      data_unfailed = tt;
      hash_unfailed = tt;
      hash_synced = tt;
      refused_unfailed = λ _ _. (refl, c.prepare_slice.ensures.unfailed);
    }

pub returns-in-Ok : goal.returns-in-Ok
returns-in-Ok g c =
    let D = g.D.BlockStore in
    let H = g.H.BlockStore in
    let image = c.args.data_store.now in
    let device = c.args.hash_store.now in
    let blocks : ℕ = length (D.content image) in
    let size : ℕ = H.size device in
    let made = c.in_ok-made.made in
    let ready = c.in_ok-made.ensures.ready in
    let kept = c.prepare_slice.ensures.kept in
    let done = c.in-Ok.ensures in
    let s : Shape = shape_over c.args.params.now (D.size image) size blocks in
    let h : Hashing = hashing (salted_by c.args.params.now) size in
    let run : Run = c.run-run.result in
    let hash_size : made.tree.geometry.hash_size ≡ size = ap (λ (t : Shape). t.hash_size) ready.geometry in
    let hashes : hashing made.tree.hasher.salted made.tree.geometry.hash_size ≡ h = λ i. hashing (ready.salted i) (hash_size i) in
    let new = c.write_slice.new.hash_store in
    let start : ℕ = start_behind c.args.offset size in
    let stored = λ (x : HoldsLeaves (hashing made.tree.hasher.salted made.tree.geometry.hash_size) made.tree.geometry made.start
    (D.content image) run (H.content new)).
    subst (λ n. HoldsLeaves h s n (D.content image) run (H.content new)) ready.start
    (subst (λ t. HoldsLeaves h t made.start (D.content image) run (H.content new)) ready.geometry
    (subst (λ y. HoldsLeaves y made.tree.geometry made.start (D.content image) run (H.content new)) hashes x)) in
    let given = λ (x : HoldsGivenLeaves D image c.write_slice.new.data_store
    (hashing made.tree.hasher.salted made.tree.geometry.hash_size) made.tree.geometry made.start run (H.content new)).
    subst (λ n. HoldsGivenLeaves D image c.write_slice.new.data_store h s n run (H.content new)) ready.start
    (subst (λ t. HoldsGivenLeaves D image c.write_slice.new.data_store h t made.start run (H.content new)) ready.geometry
    (subst (λ y. HoldsGivenLeaves D image c.write_slice.new.data_store y made.tree.geometry made.start run (H.content new)) hashes x)) in
    let grows = λ (x : GrowsBeside made.tree.geometry made.start run (H.content c.prepare_slice.new.hash_store) (H.content new)).
    subst (λ o. GrowsBeside s start run o (H.content new)) kept.content
    (subst (λ n. GrowsBeside s n run (H.content c.prepare_slice.new.hash_store) (H.content new)) ready.start
    (subst (λ t. GrowsBeside t made.start run (H.content c.prepare_slice.new.hash_store) (H.content new)) ready.geometry x)) in
    let run_is : run ≡ run_of c.args.slice (leaves_of s) =
    c.run-run.ensures.run ∙ ap (λ n. run_of c.args.slice n) (c.leaves.ensures.value ∙ ap leaves_of ready.geometry) in
    let keeps = λ (x : KeepsOthers made.tree.geometry made.start run (H.content c.prepare_slice.new.hash_store) (H.content new)).
    subst (λ r. KeepsOthers s start r (H.content device) (H.content new)) run_is
    (subst (λ o. KeepsOthers s start run o (H.content new)) kept.content
    (subst (λ n. KeepsOthers s n run (H.content c.prepare_slice.new.hash_store) (H.content new)) ready.start
    (subst (λ t. KeepsOthers t made.start run (H.content c.prepare_slice.new.hash_store) (H.content new)) ready.geometry x))) in
    record {
      made = run_is;
      stored = λ td th. stored (done.stored td (kept.later.tells ∙ th));
      given = λ th. given (done.given (kept.later.tells ∙ th));
      grows = grows done.grows;
      kept = keeps done.kept;
      ok = c.in_ok-made.ensures.ok;
      fault = tt;
      refused = tt;
      data_store = done.data_store;
      hash_store = later_then H device c.prepare_slice.new.hash_store new kept.later done.hash_store;
      hash_reads = done.hash_reads ∙ kept.reads;
      data_unfailed = done.data_unfailed;
      hash_unfailed = done.hash_unfailed ∙ c.prepare_slice.ensures.unfailed;
      hash_synced = done.hash_synced;
      refused_unfailed = tt;
    }

pub returns : goal.returns
returns g c =
    let D = g.D.BlockStore in
    let H = g.H.BlockStore in
    let image = c.args.data_store.now in
    let device = c.args.hash_store.now in
    let blocks : ℕ = length (D.content image) in
    let size : ℕ = H.size device in
    let made = c.in_ok-made.made in
    let ready = c.in_ok-made.ensures.ready in
    let kept = c.prepare_slice.ensures.kept in
    let unfailed = c.prepare_slice.ensures.unfailed in
    let done = c.in-Err.ensures in
    let s : Shape = shape_over c.args.params.now (D.size image) size blocks in
    let run : Run = c.run-run.result in
    let new = c.write_slice.new.hash_store in
    let start : ℕ = start_behind c.args.offset size in
    let by_data : Type 0 = D.failures image < D.failures c.write_slice.new.data_store in
    let by_hash : Type 0 = H.failures device < H.failures new in
    let met : Result (Unit {0}) Which = Err c.in-Err.which in
    let why : CanBuild blocks c.args.offset size × HasFailed by_data by_hash c.in-Err.which = (
      c.in_ok-made.ensures.ok,
      has_failed by_data by_hash met c.in-Err.which refl done.data_failed
          (λ is. subst (λ n. n < H.failures new) unfailed (done.hash_failed is)),
    ) in
    let run_is : run ≡ run_of c.args.slice (leaves_of s) =
    c.run-run.ensures.run ∙ ap (λ n. run_of c.args.slice n) (c.leaves.ensures.value ∙ ap leaves_of ready.geometry) in
    record {
      made = tt;
      stored = tt;
      given = tt;
      grows = tt;
      kept = subst (λ r. KeepsOthers s start r (H.content device) (H.content new)) run_is
          (subst (λ o. KeepsOthers s start run o (H.content new)) kept.content
          (subst (λ n. KeepsOthers s n run (H.content c.prepare_slice.new.hash_store) (H.content new)) ready.start
          (subst (λ t. KeepsOthers t made.start run (H.content c.prepare_slice.new.hash_store) (H.content new)) ready.geometry done.kept)));
      ok = tt;
      fault = why;
      refused = one_failed _ c.in-Err.which;
      data_store = done.data_store;
      hash_store = later_then H device c.prepare_slice.new.hash_store new kept.later done.hash_store;
      hash_reads = done.hash_reads ∙ kept.reads;
      data_unfailed = tt;
      hash_unfailed = tt;
      hash_synced = tt;
      refused_unfailed = one_failed _ c.in-Err.which;
    }
