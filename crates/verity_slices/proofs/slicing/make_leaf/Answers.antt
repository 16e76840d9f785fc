use Rattle.std.proofs.Common.{◌≡◌, ℕ, ◌+◌, ◌-◌, ◌*◌, ◌/◌, ◌<◌, ◌≤◌, min, List, [], length, get_or, replicate, true, refl, sym}
use Rattle.std.proofs.Common.{ap, ◌∙◌, subst, arith}
use Rattle.verity_digest.specs.Hash.{Salted, hashing, salted_digest, size_of}
use Rattle.verity_digest.specs.Tree.{Hashing, per_block}
use Rattle.verity_digest.specs.Shape.{row_len}
use Rattle.verity_digest.proofs.Sha.{IsHashing-hashing}
use Rattle.verity_geometry.specs.Geometry.{Shape, IsShape, digests_per_block}
use Rattle.verity_geometry.proofs.Shapes.{wide, narrow, few}
use Rattle.verity_profile.proofs.Bounds.{block_size_low}
use Rattle.verity_store.proofs.StoreLemmas.{only_read_same, only_read_then}
use Rattle.verity_store.proofs.GivenLemmas.{goes_on_len}
use Rattle.verity_tree.specs.Ahead.{AreAhead, AreOfGiven, IsOfGiven}
use Rattle.verity_tree.proofs.Ahead.{ahead_none}
use Rattle.verity_slices.specs.Filling.{Filling}
use Rattle.verity_slices.specs.Given.{IsGivenLeaf}
use Rattle.verity_slices.proofs.Puts.{fill_none, fill_more, fill_given, fill_right}
use Rattle.verity_slices.proofs.Uppers.{leaf_first}
use Rattle.verity_slices.proofs.slicing.make_leaf.Goals as goal

pub overflow_mul-first : goal.overflow_mul-first
overflow_mul-first g c =
    let tree = c.args.tree.now in
    let low = leaf_first tree.geometry c.args.index tree.shaped c.requires.index in
    omega (arith, low, few tree.geometry tree.shaped, ap (λ k. c.args.index * k) c.per_block-per_block.ensures.value)

pub overflow_add-first : goal.overflow_add-first
overflow_add-first g c =
    let tree = c.args.tree.now in
    let low = leaf_first tree.geometry c.args.index tree.shaped c.requires.index in
    omega (
      arith,
      low,
      few tree.geometry tree.shaped,
      c.per_block-per_block.ensures.most,
      ap (λ k. c.args.index * k) c.per_block-per_block.ensures.value,
    )

pub loop-n-init : goal.loop-n-init
loop-n-init g c =
    let D = g.D.BlockStore in
    let tree = c.args.tree.now in
    let s : Shape = tree.geometry in
    let salted : Salted = tree.hasher.salted in
    let image = c.args.data_store.now in
    let first : ℕ = c.args.index * c.per_block-per_block.result in
    let leaves = c.new-leaves.result in
    let low = leaf_first s c.args.index tree.shaped c.requires.index in
    let same : first ≡ c.args.index * digests_per_block s = ap (λ k. c.args.index * k) c.per_block-per_block.ensures.value in
    record {
      filling = fill_none D (hashing salted s.hash_size) image first c.fill.new.self
          (c.fill.ensures.after (λ y e. e) ∙ ap (λ m. replicate m 0) c.requires.block);
      ahead = ahead_none D salted first image leaves.digests leaves.taken leaves.held
          (omega (arith, c.new-leaves.ensures.taken, c.new-leaves.ensures.held)) (omega (arith, low, same, c.requires.blocks));
      of_given = λ j below. absurd (omega (arith, below, c.new-leaves.ensures.taken, c.new-leaves.ensures.held));
      salted = refl;
      geometry = refl;
      read = only_read_same D image;
      unfailed = refl;
    }

pub loop-n-preserved : goal.loop-n-preserved
loop-n-preserved g c =
    let D = g.D.BlockStore in
    let tree = c.args.tree.now in
    let s : Shape = tree.geometry in
    let salted : Salted = tree.hasher.salted in
    let h : Hashing = hashing salted s.hash_size in
    let image = c.args.data_store.now in
    let first : ℕ = c.args.index * c.per_block-per_block.result in
    let kept = c.loop-n.invariant in
    let next = c.in_ok-digest.ensures in
    let n : ℕ = c.loop-n.n in
    let digest : List ℕ = c.in_ok-digest.digest in
    let ok = IsHashing-hashing salted s.hash_size (block_size_low s.hash_size tree.shaped.hash_size) in
    let mark : ℕ = length (D.given image) in
    let of_given = next.given mark (goes_on_len _ _ kept.read.later.gave)
    (subst (λ x. AreOfGiven D x mark n c.loop-n.data_store c.loop-n.leaves.digests c.loop-n.leaves.taken c.loop-n.leaves.held)
    (sym kept.salted) kept.of_given) in
    let one : IsOfGiven D salted mark n c.next.new.data_store digest =
    subst (λ x. IsOfGiven D x mark n c.next.new.data_store digest) kept.salted of_given.0 in
    let at : ℕ = (n - first) * c.digest_size-digest_size.result in
    let place : (n - first) * h.digest_size ≡ at =
    ap (λ z. (n - first) * z) (tree.sized ∙ sym c.digest_size-digest_size.ensures.value) in
    record {
      filling = subst (λ b. Filling D image c.next.new.data_store h first (n + 1) b) (sym c.put_digest.ensures)
          (fill_more D h image c.loop-n.data_store c.next.new.data_store first n at c.loop-n.block digest one.block ok one.is
          (one.sized ∙ next.read.later.size ∙ kept.read.later.size) one.gave next.read.later.gave
          (λ tells. next.right (kept.read.later.tells ∙ tells)
          ∙ (λ i. salted_digest (kept.salted i) (get_or (kept.read.content i) n []))) place kept.filling);
      ahead = subst (λ x. AreAhead D x (n + 1) c.next.new.data_store c.next.new.self.digests c.next.new.self.taken
          c.next.new.self.held) kept.salted next.ahead;
      of_given = subst (λ x. AreOfGiven D x mark (n + 1) c.next.new.data_store c.next.new.self.digests
          c.next.new.self.taken c.next.new.self.held) kept.salted of_given.1;
      salted = next.salted ∙ kept.salted;
      geometry = next.geometry ∙ kept.geometry;
      read = only_read_then D image c.loop-n.data_store c.next.new.data_store kept.read next.read;
      unfailed = next.unfailed ∙ kept.unfailed;
    }

pub returns-clause-right : goal.returns-clause-right
returns-clause-right g c = λ tells.
    let D = g.D.BlockStore in
    let tree = c.args.tree.now in
    let s : Shape = tree.geometry in
    let h : Hashing = hashing tree.hasher.salted s.hash_size in
    let image = c.args.data_store.now in
    let index : ℕ = c.args.index in
    let low = leaf_first s index tree.shaped c.requires.index in
    let width : per_block h ≡ digests_per_block s = ap (λ d. s.hash_size / d) tree.sized in
    let same : c.per_block-per_block.result ≡ per_block h = c.per_block-per_block.ensures.value ∙ sym width in
    let first : index * c.per_block-per_block.result ≡ index * per_block h = ap (λ k. index * k) same in
    let wider = wide s tree.shaped in
    let firsts : index * per_block h ≡ index * digests_per_block s = ap (λ k. index * k) width in
    let below : index < row_len (per_block h) (length (D.content image)) 1 =
    subst (λ k. index < row_len k (length (D.content image)) 1) (sym width)
    (subst (λ b. index < row_len (digests_per_block s) b 1) (sym c.requires.blocks) c.requires.index) in
    fill_right D h image c.loop-n.data_store (D.content image) index c.loop-n.n c.loop-n.block (omega (arith, width, wider)) below
    refl tells
    (omega (arith, c.loop-n-test.false, c.loop-n.auto, c.min-end.ensures, c.requires.blocks, same, first, firsts, low))
    (subst (λ f. Filling D image c.loop-n.data_store h f c.loop-n.n c.loop-n.block) first c.loop-n.invariant.filling)
