use Rattle.std.proofs.Common.{◌≡◌, ℕ, List, true, OnOk, length, subst}
use Rattle.std.specs.List.{concat}
use Rattle.verity_superblock.specs.Superblock.{Params}
use Rattle.verity_superblock.specs.Image.{hash_blocks, hash_image}
use Rattle.verity_build.specs.Parameters.{volume}
use Rattle.verity_build.proofs.Refusals.{good_count}
use Rattle.verity_build.proofs.Offsets.{no_bad_offset, no_front}
use Rattle.verity_build.proofs.building.build.Goals as goal

pub returns : goal.returns
returns g c =
    let D = g.D.BlockStore in
    let H = g.H.BlockStore in
    let image = c.args.data_store.now in
    let device = c.args.hash_store.now in
    let blocks : ℕ = length (D.content image) in
    let size : ℕ = H.size device in
    let p : Params = volume c.args.params.now (D.size image) size in
    let none = no_front size (H.content device) in
    let done = c.build_at.ensures in
    record {
      built = subst (λ (in_front : List (List ℕ)). OnOk c.build_at.result (D.tells image ≡ true → H.tells device ≡ true
          → H.content c.build_at.new.hash_store ≡ hash_blocks p (D.content image) in_front)) none done.built;
      bytes = subst (λ (in_front : List (List ℕ)). OnOk c.build_at.result (D.tells image ≡ true → H.tells device ≡ true
          → concat (H.content c.build_at.new.hash_store) ≡ hash_image p (D.content image) in_front)) none done.bytes;
      root = done.root;
      given = done.given;
      ok = good_count blocks 0 size c.build_at.result done.ok;
      bad_count = done.bad_count;
      fault = done.fault;
      no_offset = no_bad_offset blocks size c.build_at.result done.bad_offset;
      refused = done.refused;
      data_store = done.data_store;
      data_reads = done.data_reads;
      data_reads_most = done.data_reads_most;
      hash_store = done.hash_store;
      hash_reads = done.hash_reads;
      data_unfailed = done.data_unfailed;
      hash_synced = done.hash_synced;
      hash_unfailed = done.hash_unfailed;
      refused_unfailed = done.refused_unfailed;
    }
