use Rattle.std.proofs.Common.{rules, ◌≡◌, ℕ, suc, ◌+◌, ◌-◌, ◌/◌, ◌<◌, ◌≤◌, ◌++◌, List, [], ◌∷◌, length, get_or, sym, ap, ◌∙◌, subst, arith}
use Rattle.std.proofs.lemmas.Result.{err_from_is_err_and}
use Rattle.verity_digest.specs.Hash.{Salted, hashing}
use Rattle.verity_digest.specs.Tree.{root, tree}
use Rattle.verity_digest.proofs.Counts.{total_most}
use Rattle.verity_geometry.specs.Geometry.{Shape, digests_per_block, levels_of, len_of, start_of, total_of}
use Rattle.verity_geometry.proofs.Shapes.{wide, few}
use Rattle.verity_slice.specs.Slices.{Covers}
use Rattle.verity_store.specs.Blocks.{resized}
use Rattle.verity_superblock.specs.Image.{start_behind}
use Rattle.verity_superblock.specs.Superblock.{superblock, zero_filled}
use Rattle.verity_build.specs.Parameters.{salted_by, shape_over, volume}
use Rattle.verity_build.proofs.Refusals.{unfailed_explains}
use Rattle.verity_slices.specs.Level.{leaves_of, level_in, upper}
use Rattle.verity_slices.proofs.Givens.{root_earlier}
use Rattle.verity_slices.proofs.Uppers.{upper_end, upper_total}
use Rattle.verity_slices.proofs.joining.build_joined.Goals as goal

pub returns-in_err-geometry-clause-uncovered : goal.returns-in_err-geometry-clause-uncovered
returns-in_err-geometry-clause-uncovered g c =
    let p = err_from_is_err_and c.from_residual.result c.from_residual.ensures.1 in
    rw (p.1, p.2) (λ is. cc, λ both. absurd (c.in_err-geometry.ensures.none both.0))

pub returns-in_err-geometry-clause-fault : goal.returns-in_err-geometry-clause-fault
returns-in_err-geometry-clause-fault g c =
    let D = g.D.BlockStore in
    let H = g.H.BlockStore in
    let image = c.args.data_store.now in
    let device = c.args.hash_store.now in
    let p = err_from_is_err_and c.from_residual.result c.from_residual.ensures.1 in
    rw (p.1, p.2) (unfailed_explains (D.failures image < D.failures image) (H.failures device < H.failures device)
    (length (D.content image)) c.args.offset (H.size device) c.in_err-geometry.field-0.0 (c.in_err-geometry.ensures.fault c.args.offset))

pub join_device-requires-clause-few : goal.join_device-requires-clause-few
join_device-requires-clause-few g c =
    let s : Shape = c.in_ok-geometry.geometry in
    let shaped = c.levels.ensures.shaped in
    let value = c.in_ok-geometry.ensures.value in
    let ready = c.in_ok-made.ensures.ready in
    let levels : 0 < levels_of s = omega (arith, c.levels.ensures.value, c.if-levels-eq0.false) in
    let all : total_of (upper s) + len_of s 0 ≡ total_of s = upper_end s shaped levels (salted_by c.args.params.now)
    (sym (ap (λ (t : Shape). t.digest_size) value)) in
    omega (
      arith,
      all,
      total_most (digests_per_block s) s.blocks (wide s shaped),
      few s shaped,
      ap (λ (t : Shape). total_of t) ready.geometry,
      ap (λ (t : Shape). t.blocks) ready.geometry,
    )

pub returns-in-Ok-join_device-clause-covered : goal.returns-in-Ok-join_device-clause-covered
returns-in-Ok-join_device-clause-covered g c =
    let here : Covers c.args.runs.now.items c.leaves.result = c.cover.ensures.covered.0 (search rules) in
    subst (Covers c.args.runs.now.items) (c.leaves.ensures.value ∙ ap leaves_of c.in_ok-geometry.ensures.value) here

pub returns-in-Ok-join_device-clause-uncovered : goal.returns-in-Ok-join_device-clause-uncovered
returns-in-Ok-join_device-clause-uncovered g c =
    let here : Covers c.args.runs.now.items c.leaves.result = c.cover.ensures.covered.0 (search rules) in (
      λ is. cc,
      λ both. absurd (both.1
          (subst (Covers c.args.runs.now.items) (c.leaves.ensures.value ∙ ap leaves_of c.in_ok-geometry.ensures.value) here)),
    )

pub returns-clause-uncovered : goal.returns-clause-uncovered
returns-clause-uncovered g c =
    let here : Covers c.args.runs.now.items c.leaves.result = c.cover.ensures.covered.0 (search rules) in (
      λ is. cc,
      λ both. absurd (both.1
          (subst (Covers c.args.runs.now.items) (c.leaves.ensures.value ∙ ap leaves_of c.in_ok-geometry.ensures.value) here)),
    )

pub returns-in-Ok-join_device-clause-level : goal.returns-in-Ok-join_device-clause-level
returns-in-Ok-join_device-clause-level g c = λ there i below inside.
    let D = g.D.BlockStore in
    let H = g.H.BlockStore in
    let image = c.args.data_store.now in
    let device = c.args.hash_store.now in
    let p = c.args.params.now in
    let size : ℕ = H.size device in
    let t : Shape = c.in_ok-geometry.geometry in
    let s : Shape = shape_over p (D.size image) size (length (D.content image)) in
    let value : t ≡ s = c.in_ok-geometry.ensures.value in
    let made = c.in_ok-made.made in
    let ready = c.in_ok-made.ensures.ready in
    let kept = c.prepare_join.ensures.kept in
    let levels : 0 < levels_of t = omega (arith, c.levels.ensures.value, c.if-levels-eq0.false) in
    let all : total_of (upper t) ≡ start_of t 0 = upper_total t c.levels.ensures.shaped levels (salted_by p)
    (sym (ap (λ (x : Shape). x.digest_size) value)) in
    let start : made.start ≡ start_behind c.args.offset size =
    ready.start ∙ ap (λ (x : Shape). start_behind c.args.offset x.hash_size) value in
    let total : total_of made.tree.geometry ≡ start_of s 0 = ap total_of ready.geometry ∙ all ∙ ap (λ (x : Shape). start_of x 0) value in
    let blocks : made.tree.geometry.blocks ≡ len_of s 0 =
    ap (λ (x : Shape). x.blocks) ready.geometry ∙ ap (λ (x : Shape). len_of x 0) value in
    let q : ℕ = start_behind c.args.offset size + start_of s 0 + i in
    c.join_device.ensures.level q (omega (arith, start, total)) (omega (arith, start, total, blocks, below))
    (omega (arith, inside, ap length kept.content))
    ∙ ap (λ (b : List (List ℕ)). get_or b q []) kept.content

pub returns-clause-level : goal.returns-clause-level
returns-clause-level g c = λ there i below inside.
    let D = g.D.BlockStore in
    let H = g.H.BlockStore in
    let image = c.args.data_store.now in
    let device = c.args.hash_store.now in
    let p = c.args.params.now in
    let size : ℕ = H.size device in
    let t : Shape = c.in_ok-geometry.geometry in
    let s : Shape = shape_over p (D.size image) size (length (D.content image)) in
    let value : t ≡ s = c.in_ok-geometry.ensures.value in
    let made = c.in_ok-made.made in
    let ready = c.in_ok-made.ensures.ready in
    let kept = c.prepare_join.ensures.kept in
    let levels : 0 < levels_of t = omega (arith, c.levels.ensures.value, c.if-levels-eq0.false) in
    let all : total_of (upper t) ≡ start_of t 0 = upper_total t c.levels.ensures.shaped levels (salted_by p)
    (sym (ap (λ (x : Shape). x.digest_size) value)) in
    let start : made.start ≡ start_behind c.args.offset size =
    ready.start ∙ ap (λ (x : Shape). start_behind c.args.offset x.hash_size) value in
    let total : total_of made.tree.geometry ≡ start_of s 0 = ap total_of ready.geometry ∙ all ∙ ap (λ (x : Shape). start_of x 0) value in
    let blocks : made.tree.geometry.blocks ≡ len_of s 0 =
    ap (λ (x : Shape). x.blocks) ready.geometry ∙ ap (λ (x : Shape). len_of x 0) value in
    let q : ℕ = start_behind c.args.offset size + start_of s 0 + i in
    c.join_device.ensures.level q (omega (arith, start, total)) (omega (arith, start, total, blocks, below))
    (omega (arith, inside, ap length kept.content))
    ∙ ap (λ (b : List (List ℕ)). get_or b q []) kept.content

pub returns-in-Ok-join_device-clause-given : goal.returns-in-Ok-join_device-clause-given
returns-in-Ok-join_device-clause-given g c = λ there.
    let D = g.D.BlockStore in
    let H = g.H.BlockStore in
    let image = c.args.data_store.now in
    let device = c.args.hash_store.now in
    let p = c.args.params.now in
    let size : ℕ = H.size device in
    let t : Shape = c.in_ok-geometry.geometry in
    let s : Shape = shape_over p (D.size image) size (length (D.content image)) in
    let value : t ≡ s = c.in_ok-geometry.ensures.value in
    let made = c.in_ok-made.made in
    let ready = c.in_ok-made.ensures.ready in
    let kept = c.prepare_join.ensures.kept in
    let levels : 0 < levels_of t = omega (arith, c.levels.ensures.value, c.if-levels-eq0.false) in
    let all : total_of (upper t) ≡ start_of t 0 = upper_total t c.levels.ensures.shaped levels (salted_by p)
    (sym (ap (λ (x : Shape). x.digest_size) value)) in
    let start : made.start ≡ start_behind c.args.offset size =
    ready.start ∙ ap (λ (x : Shape). start_behind c.args.offset x.hash_size) value in
    let total : total_of made.tree.geometry ≡ start_of s 0 = ap total_of ready.geometry ∙ all ∙ ap (λ (x : Shape). start_of x 0) value in
    let blocks : made.tree.geometry.blocks ≡ len_of s 0 =
    ap (λ (x : Shape). x.blocks) ready.geometry ∙ ap (λ (x : Shape). len_of x 0) value in
    let geometry : made.tree.geometry ≡ upper s = ready.geometry ∙ ap upper value in
    root_earlier H device c.prepare_join.new.hash_store c.join_device.new.hash_store (made.start + total_of made.tree.geometry)
    (start_behind c.args.offset size + start_of s 0) made.tree.geometry.blocks (len_of s 0)
    (hashing made.tree.hasher.salted made.tree.geometry.hash_size) (hashing (salted_by p) size) c.in-Ok-join_device.root
    c.prepare_join.ensures.given kept.later.size (λ i. start i + total i) blocks
    (λ i. hashing (ready.salted i) (geometry i).hash_size) c.in-Ok-join_device.ensures.given

pub returns-in-Ok-join_device-clause-joined : goal.returns-in-Ok-join_device-clause-joined
returns-in-Ok-join_device-clause-joined g c = λ told_data tells.
    let D = g.D.BlockStore in
    let H = g.H.BlockStore in
    let image = c.args.data_store.now in
    let device = c.args.hash_store.now in
    let p = c.args.params.now in
    let size : ℕ = H.size device in
    let t : Shape = c.in_ok-geometry.geometry in
    let s : Shape = shape_over p (D.size image) size (length (D.content image)) in
    let value : t ≡ s = c.in_ok-geometry.ensures.value in
    let made = c.in_ok-made.made in
    let ready = c.in_ok-made.ensures.ready in
    let kept = c.prepare_join.ensures.kept in
    let levels : 0 < levels_of t = omega (arith, c.levels.ensures.value, c.if-levels-eq0.false) in
    let all : total_of (upper t) ≡ start_of t 0 = upper_total t c.levels.ensures.shaped levels (salted_by p)
    (sym (ap (λ (x : Shape). x.digest_size) value)) in
    let start : made.start ≡ start_behind c.args.offset size =
    ready.start ∙ ap (λ (x : Shape). start_behind c.args.offset x.hash_size) value in
    let total : total_of made.tree.geometry ≡ start_of s 0 = ap total_of ready.geometry ∙ all ∙ ap (λ (x : Shape). start_of x 0) value in
    let blocks : made.tree.geometry.blocks ≡ len_of s 0 =
    ap (λ (x : Shape). x.blocks) ready.geometry ∙ ap (λ (x : Shape). len_of x 0) value in
    let geometry : made.tree.geometry ≡ upper s = ready.geometry ∙ ap upper value in
    let here : Covers c.args.runs.now.items c.leaves.result = c.cover.ensures.covered.0 (search rules) in
    let done = c.in-Ok-join_device.ensures in
    let first : ℕ = start_behind c.args.offset size in
    let old : List (List ℕ) = H.content device in
    let begins : made.superblock ≡ superblock (volume p s.data_size s.hash_size) s.blocks =
    ready.superblock ∙ ap (λ (x : Shape). superblock (volume p x.data_size x.hash_size) x.blocks) value in
    let mid : List (List ℕ) = H.content c.prepare_join.new.hash_store in
    let geo : Shape = made.tree.geometry in
    let same : resized geo.hash_size (made.start - 1) mid ++ (zero_filled geo.hash_size made.superblock
    ∷ (tree (hashing made.tree.hasher.salted geo.hash_size) (level_in geo made.start mid) ++ level_in geo made.start mid))
    ≡ resized size (first - 1) old ++ (zero_filled size (superblock (volume p s.data_size s.hash_size) s.blocks)
    ∷ (tree (hashing (salted_by p) size) (level_in (upper s) first old) ++ level_in (upper s) first old)) =
    λ i. resized (geometry i).hash_size (start i - 1) (kept.content i)
    ++ (zero_filled (geometry i).hash_size (begins i) ∷ (tree (hashing (ready.salted i) (geometry i).hash_size)
    (level_in (geometry i) (start i) (kept.content i)) ++ level_in (geometry i) (start i) (kept.content i))) in
    let in_front : first - 1 ≡ c.args.offset / size = omega arith in
    record {
      covered = subst (Covers c.args.runs.now.items) (c.leaves.ensures.value ∙ ap leaves_of value) here;
      levels = λ some. (
        done.joined (kept.later.tells ∙ tells) ∙ same
            ∙ ap (λ n. resized size n old ++ (zero_filled size (superblock (volume p s.data_size s.hash_size) s.blocks)
            ∷ (tree (hashing (salted_by p) size) (level_in (upper s) first old) ++ level_in (upper s) first old))) in_front,
        done.root (kept.later.tells ∙ tells)
            ∙ (λ i. root (hashing (ready.salted i) (geometry i).hash_size) (level_in (geometry i) (start i) (kept.content i))),
      );
      single = λ none. absurd (omega (arith, none, levels, ap levels_of value));
    }
