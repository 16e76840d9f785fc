use Rattle.std.proofs.Common.{◌≡◌, ℕ, length, drop, replicate, arith, subst, sym, ap, ◌∙◌}
use Rattle.verity_digest.specs.Hash.{hashing, size_of}
use Rattle.verity_digest.specs.Tree.{Hashing, root, tree}
use Rattle.verity_geometry.specs.Geometry.{Shape, digests_per_block, levels_of, total_of}
use Rattle.verity_superblock.specs.Superblock.{Volume}
use Rattle.verity_superblock.specs.Image.{superblock_block}
use Rattle.verity_pending.specs.Draft.{Draft, edits_of}
use Rattle.verity_pending.specs.Touched.{touched_count}
use Rattle.verity_pending.specs.Leaves.{hashes}
use Rattle.verity_pending.specs.Plan.{ArePlanned}
use Rattle.verity_plan.specs.Seen.{GivesAt}
use Rattle.verity_plan.specs.Making.{IsTouchedPlace, touched_blocks}
use Rattle.verity_plan.specs.declared.tree.Change.{Change}
use Rattle.verity_plan.specs.Carried.{AreInTree}
use Rattle.verity_plan.specs.Standing.{BeginsWith}
use Rattle.verity_plan.specs.Planning.{volume_shape, volume_hashing}
use Rattle.verity_plan.proofs.planning.plan_commit.Goals as goal

pub returns-in_err-tree-clause-reads : goal.returns-in_err-tree-clause-reads
returns-in_err-tree-clause-reads g c = λ image len stays.
    let v : Volume = c.args.superblock.now in
    let d : Draft = c.args.pending.now in
    let old : c.geometry_over.result ≡ volume_shape v.params v.data_blocks = c.geometry_over.ensures.value
    ∙ ap (volume_shape v.params) c.data_blocks.ensures.value in
    let new : c.geometry_over-2.result ≡ volume_shape v.params d.working = c.geometry_over-2.ensures.value
    ∙ ap (volume_shape v.params) c.blocks-blocks.ensures.value in
    let same : c.geometry_over-2.result.blocks ≡ c.geometry_over.result.blocks = ap (λ s. s.blocks) new ∙ stays
    ∙ c.requires.committed ∙ sym (ap (λ s. s.blocks) old) in
    let most = c.in_err-tree.ensures.reads image len same in
    let count = ap (λ s. touched_count (digests_per_block s) (edits_of image d)) new in
    omega arith

pub returns-clause-plan : goal.returns-clause-plan
returns-clause-plan g c =
    let v : Volume = c.args.superblock.now in
    let d : Draft = c.args.pending.now in
    let old : c.geometry_over.result ≡ volume_shape v.params v.data_blocks = c.geometry_over.ensures.value
    ∙ ap (volume_shape v.params) c.data_blocks.ensures.value in
    let new : c.geometry_over-2.result ≡ volume_shape v.params d.working = c.geometry_over-2.ensures.value
    ∙ ap (volume_shape v.params) c.blocks-blocks.ensures.value in
    let next : c.in_ok-next.next ≡ record { params = v.params; data_blocks = d.working } = c.in_ok-next.ensures.value
    ∙ ap (λ n. let w : Volume = record { params = v.params; data_blocks = n } in w) c.blocks-blocks.ensures.value in
    let tree = c.in_ok-tree.ensures in
    record {
      change = (λ i. record { first = c.args.first; old = old i; new = new i; root = c.args.root });
      superblock = next;
      first_block = c.in_ok-first_block.ensures.value ∙ ap (λ w. superblock_block w.params w.data_blocks) next;
      first_size = c.in_ok-first_block.ensures.size ∙ ap (λ w. w.params.hash_block_size) next;
      zero = c.in_ok-zero.ensures.items_if_clones_equal (λ _ e. e)
          ∙ ap (λ n. replicate n 0) (c.data_block_size.ensures.value ∙ c.requires.data_size);
      planned = subst (λ (n : ℕ). ArePlanned n c.in_ok-tree.tree.made.items) (c.requires.sized ∙ c.requires.hash_size) tree.planned;
      places = subst (λ (s : Shape). AreInTree c.args.first (total_of s) c.in_ok-tree.tree.made.items) new tree.places;
      root_size = tree.root_size ∙ ap (λ s. size_of s.algorithm) c.requires.salted;
      hashed = λ image len. tree.hashed image len ∙ ap (λ s. hashes (digests_per_block s) d (edits_of image d)) new;
    }

pub returns-clause-right : goal.returns-clause-right
returns-clause-right g c = λ content shown image len stands is_root.
    let v : Volume = c.args.superblock.now in
    let d : Draft = c.args.pending.now in
    let first : ℕ = c.args.first in
    let new : c.geometry_over-2.result ≡ volume_shape v.params d.working = c.geometry_over-2.ensures.value
    ∙ ap (volume_shape v.params) c.blocks-blocks.ensures.value in
    let same : hashing c.args.hasher.now.salted (length c.args.block.now) ≡ volume_hashing v.params =
    (λ i. hashing (c.requires.salted i) ((c.requires.sized ∙ c.requires.hash_size) i)) in
    let r = c.in_ok-tree.ensures.right content shown image len
    (subst (λ (h : Hashing). BeginsWith (drop first content) (tree h image)) (sym same) stands)
    (is_root ∙ ap (λ h. root h image) (sym same)) in (
      r.0 ∙ (λ i. touched_blocks (same i) (edits_of image d) first (new i).blocks (levels_of (new i))),
      r.1 ∙ ap (λ h. root h (edits_of image d).working) same,
    )

pub returns-clause-reads : goal.returns-clause-reads
returns-clause-reads g c = λ image len stays.
    let v : Volume = c.args.superblock.now in
    let d : Draft = c.args.pending.now in
    let old : c.geometry_over.result ≡ volume_shape v.params v.data_blocks = c.geometry_over.ensures.value
    ∙ ap (volume_shape v.params) c.data_blocks.ensures.value in
    let new : c.geometry_over-2.result ≡ volume_shape v.params d.working = c.geometry_over-2.ensures.value
    ∙ ap (volume_shape v.params) c.blocks-blocks.ensures.value in
    let same : c.geometry_over-2.result.blocks ≡ c.geometry_over.result.blocks = ap (λ s. s.blocks) new ∙ stays
    ∙ c.requires.committed ∙ sym (ap (λ s. s.blocks) old) in
    let most = c.in_ok-tree.ensures.reads image len same in
    let count = ap (λ s. touched_count (digests_per_block s) (edits_of image d)) new in
    omega arith

pub returns-in_err-tree-clause-gives : goal.returns-in_err-tree-clause-gives
returns-in_err-tree-clause-gives g c = λ image len.
    let v : Volume = c.args.superblock.now in
    let d : Draft = c.args.pending.now in
    let old : c.geometry_over.result ≡ volume_shape v.params v.data_blocks = c.geometry_over.ensures.value
    ∙ ap (volume_shape v.params) c.data_blocks.ensures.value in
    let new : c.geometry_over-2.result ≡ volume_shape v.params d.working = c.geometry_over-2.ensures.value
    ∙ ap (volume_shape v.params) c.blocks-blocks.ensures.value in
    let P : Change → Type 0 = λ x. GivesAt (IsTouchedPlace x (edits_of image d)) (g.H.BlockStore.given c.args.hash_store.now)
    (g.H.BlockStore.given c.plan_tree.new.hash_store) in
    subst P (λ i. record { first = c.args.first; old = old i; new = new i; root = c.args.root }) (c.in_err-tree.ensures.gives image len)

pub returns-clause-gives : goal.returns-clause-gives
returns-clause-gives g c = λ image len.
    let v : Volume = c.args.superblock.now in
    let d : Draft = c.args.pending.now in
    let old : c.geometry_over.result ≡ volume_shape v.params v.data_blocks = c.geometry_over.ensures.value
    ∙ ap (volume_shape v.params) c.data_blocks.ensures.value in
    let new : c.geometry_over-2.result ≡ volume_shape v.params d.working = c.geometry_over-2.ensures.value
    ∙ ap (volume_shape v.params) c.blocks-blocks.ensures.value in
    let P : Change → Type 0 = λ x. GivesAt (IsTouchedPlace x (edits_of image d)) (g.H.BlockStore.given c.args.hash_store.now)
    (g.H.BlockStore.given c.plan_tree.new.hash_store) in
    subst P (λ i. record { first = c.args.first; old = old i; new = new i; root = c.args.root }) (c.in_ok-tree.ensures.gives image len)
