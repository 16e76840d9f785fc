use Rattle.std.proofs.Common.{◌≡◌, ℕ, ◌+◌, ◌^◌, ◌≤◌, length, ap, ◌∙◌, subst, arith}
use Rattle.verity_digest.proofs.Counts.{total_most}
use Rattle.verity_geometry.specs.Geometry.{Shape, digests_per_block, total_of, len_of}
use Rattle.verity_geometry.proofs.Shapes.{wide, few}
use Rattle.verity_build.specs.Parameters.{salted_by}
use Rattle.verity_superblock.specs.Image.{start_behind}
use Rattle.verity_slices.specs.Level.{upper}
use Rattle.verity_slices.proofs.Uppers.{upper_end}
use Rattle.verity_slices.proofs.prepare.prepare_join.Goals as goal

pub reserve-requires : goal.reserve-requires
reserve-requires g c =
    let s : Shape = c.args.geometry.now in
    let shaped = c.above-above.ensures.shaped in
    let all : total_of (upper s) + len_of s 0 ≡ total_of s = upper_end s shaped c.requires.levels (salted_by c.args.params.now)
    c.requires.digest in
    omega (
      arith,
      all,
      total_most (digests_per_block s) s.blocks (wide s shaped),
      few s shaped,
      c.in_ok-start.ensures.near,
      c.total.ensures.value,
      c.blocks-3.ensures.value,
      ap (λ (t : Shape). total_of t) c.above-above.ensures.value,
      ap (λ (t : Shape). t.blocks) c.above-above.ensures.value,
    )

pub returns-clause-ready : goal.returns-clause-ready
returns-clause-ready g c =
    let s : Shape = c.args.geometry.now in
    let above = c.above-above in
    let start = c.in_ok-start in
    let geometry = start.ensures.geometry ∙ above.ensures.value in
    record {
      start = start.ensures.start ∙ ap (λ (t : Shape). start_behind c.args.offset t.hash_size) above.ensures.value;
      behind = start.ensures.behind;
      near = start.ensures.near;
      geometry = geometry;
      salted = start.ensures.salted;
      empty = start.ensures.empty;
      rootless = start.ensures.rootless;
      superblock = c.in_ok-superblock.ensures.value;
      buffer = omega (
        arith,
        c.bytes_at_a_time.ensures.one,
        c.in_ok-buffer.ensures.len,
        ap (λ (t : Shape). t.data_size) start.ensures.geometry,
      );
      reserved = omega (
        arith,
        c.in-Ok.ensures.reserved,
        c.total.ensures.value,
        c.blocks-3.ensures.value,
        ap (λ (t : Shape). total_of t) start.ensures.geometry,
        ap (λ (t : Shape). t.blocks) start.ensures.geometry,
      );
    }
