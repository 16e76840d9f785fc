use Rattle.std.proofs.Common.{◌≡◌, ℕ, true, IfOk, length, subst}
use Rattle.verity_digest.specs.Hash.{hashing}
use Rattle.verity_geometry.specs.Geometry.{Shape}
use Rattle.verity_build.specs.Differences.{IsCompared}
use Rattle.verity_build.specs.Parameters.{salted_by, shape_over}
use Rattle.verity_build.proofs.Refusals.{good_count}
use Rattle.verity_build.proofs.Offsets.{no_bad_offset, first_start}
use Rattle.verity_build.proofs.comparing.compare.Goals as goal

pub returns : goal.returns
returns g c =
    let D = g.D.BlockStore in
    let H = g.H.BlockStore in
    let image = c.args.data_store.now in
    let device = c.args.hash_store.now in
    let blocks : ℕ = length (D.content image) in
    let size : ℕ = H.size device in
    let s : Shape = shape_over c.args.params.now (D.size image) size blocks in
    let done = c.compare_at.ensures in
    record {
      compared = subst (λ (start : ℕ). IfOk c.compare_at.result (λ found. D.tells image ≡ true → H.tells device ≡ true
          → IsCompared s (hashing (salted_by c.args.params.now) size) (D.content image) start (H.content device) found))
          (first_start size) done.compared;
      ok = good_count blocks 0 size c.compare_at.result done.ok;
      bad_count = done.bad_count;
      fault = done.fault;
      no_offset = no_bad_offset blocks size c.compare_at.result done.bad_offset;
      data_store = done.data_store;
      data_reads = done.data_reads;
      data_reads_most = done.data_reads_most;
      hash_store = done.hash_store;
      hash_reads_most = done.hash_reads_most;
      data_unfailed = done.data_unfailed;
      hash_unfailed = done.hash_unfailed;
      refused_unfailed = done.refused_unfailed;
    }
