use Rattle.std.proofs.Common.{◌≡◌, ℕ, ◌+◌, ◌-◌, ◌*◌, ◌/◌, ◌%◌, ◌<◌, [], ◌∷◌, ◌++◌, length, take, drop, get_or, arith, subst, sym, ap, ◌∙◌}
use Rattle.verity_digest.specs.Hash.{size_of}
use Rattle.verity_digest.specs.Tree.{per_block}
use Rattle.verity_digest.specs.Shape.{level_count, level_len, place}
use Rattle.verity_geometry.specs.Geometry.{Shape, digests_per_block}
use Rattle.verity_geometry.proofs.Shapes.{branching, some}
use Rattle.verity_pending.specs.declared.child.Child.{Child}
use Rattle.verity_plan.specs.declared.tree.Change.{Change}
use Rattle.verity_plan.specs.Last.{IsAboveLast}
use Rattle.verity_plan.proofs.SeenLemmas.{shows_read, gives_read}
use Rattle.verity_plan.proofs.LastLemmas.{level_some, slot_stands}
use Rattle.verity_plan.proofs.last.add_last.Goals as goal

pub leaf_parent-index-requires-clause-levels : goal.leaf_parent-index-requires-clause-levels
leaf_parent-index-requires-clause-levels g c =
    let old : Shape = c.args.change.now.old in
    let left = some c.args.change.now.new c.requires.change.new_shape in
    let fell = c.requires.fell in
    level_some (digests_per_block old) old.blocks (branching old c.requires.change.old_shape) (omega arith)

pub place-requires-clause-level : goal.place-requires-clause-level
place-requires-clause-level g c =
    let old : Shape = c.args.change.now.old in
    let left = some c.args.change.now.new c.requires.change.new_shape in
    let fell = c.requires.fell in
    level_some (digests_per_block old) old.blocks (branching old c.requires.change.old_shape) (omega arith)

pub returns-in-Ok-push-clause-added : goal.returns-in-Ok-push-clause-added
returns-in-Ok-push-clause-added g c =
    let last : c.blocks-last.result - 1 ≡ c.args.change.now.new.blocks - 1 = ap (λ n. n - 1) c.blocks-last.ensures.value in
    record {
      digest = c.in_block.result;
      sized = c.in_block.ensures.size;
      added = c.in-Ok-push.ensures ∙ ap (λ n. let x : Child = record { number = n; digest = c.in_block.result } in
          c.args.leaves.now.items ++ x ∷ []) last;
    }

pub returns-in-Ok-push-clause-named : goal.returns-in-Ok-push-clause-named
returns-in-Ok-push-clause-named g c = λ content shown h image ok block_size digest_size len stands.
    let old : Shape = c.args.change.now.old in
    let first : ℕ = c.args.change.now.first in
    let b : ℕ = c.args.change.now.new.blocks - 1 in
    let last : c.blocks-last.result - 1 ≡ b = ap (λ n. n - 1) c.blocks-last.ensures.value in
    let left = some c.args.change.now.new c.requires.change.new_shape in
    let fell = c.requires.fell in
    let width : digests_per_block old ≡ per_block h = (λ i. sym block_size i / sym digest_size i) in
    let size : size_of c.args.algorithm ≡ h.digest_size = sym (digest_size ∙ c.requires.change.old_digest) in
    let parent = c.leaf_parent-index.ensures in
    let index : c.leaf_parent-index.result.0 ≡ b / per_block h = parent.index ∙ (λ i. last i / width i) in
    let slots : c.leaf_parent-index.result.1 ≡ b % per_block h = parent.slot ∙ (λ i. last i % width i) in
    let at : first + c.place.result ≡ first + place (per_block h) (length image) 0 (b / per_block h) =
    ap (λ p. first + p) c.place.ensures.value ∙ (λ i. first + place (width i) (sym len i) 0 (index i)) in
    let block : c.read.new.out ≡ get_or content (first + place (per_block h) (length image) 0 (b / per_block h)) [] =
    shows_read g.H.BlockStore c.args.hash_store.now c.read.new.self (first + c.place.result) c.read.new.out content
    c.in-Ok.ensures.tells c.in-Ok.ensures.content c.in-Ok.ensures.right c.in-Ok.ensures.given shown ∙ ap (λ p. get_or content p []) at in
    let some_level : 0 < level_count (per_block h) (length image) = level_some (per_block h) (length image) ok.branching (omega arith) in
    let inside : b / per_block h < level_len (per_block h) (length image) 0 =
    subst (λ (n : ℕ). n < level_len (per_block h) (length image) 0) index
    (subst (λ (n : ℕ). c.leaf_parent-index.result.0 < n) (λ i. level_len (width i) (sym len i) 0) parent.index_within) in
    let digest : c.in_block.result ≡ h.digest (get_or image b []) =
    c.in_block.ensures.value ∙ (λ i. take (size i) (drop (slots i * size i) (block i)))
    ∙ slot_stands h image content first b ok stands some_level (omega arith) inside in
    c.in-Ok-push.ensures
    ∙ (λ i. let x : Child = record { number = last i; digest = digest i } in c.args.leaves.now.items ++ x ∷ [])

pub returns-in-Err-clause-gives : goal.returns-in-Err-clause-gives
returns-in-Err-clause-gives g c =
    let H = g.H.BlockStore in
    let c0 : Change = c.args.change.now in
    let k : ℕ = digests_per_block c0.old in
    let last : c.blocks-last.result - 1 ≡ c0.new.blocks - 1 = ap (λ n. n - 1) c.blocks-last.ensures.value in
    let index : c.leaf_parent-index.result.0 ≡ (c0.new.blocks - 1) / k = c.leaf_parent-index.ensures.index ∙ ap (λ n. n / k) last in
    let at : c0.first + c.place.result ≡ c0.first + place k c0.old.blocks 0 ((c0.new.blocks - 1) / k) =
    ap (λ p. c0.first + p) (c.place.ensures.value ∙ ap (λ i. place k c0.old.blocks 0 i) index) in
    gives_read c.read.result (IsAboveLast c0) (H.given c.args.hash_store.now) (H.given c.read.new.self)
    (c0.first + c.place.result) c.read.new.out c.read.ensures.given c.read.ensures.ungiven (c.requires.fell, at)

pub returns-in-Ok-push-clause-gives : goal.returns-in-Ok-push-clause-gives
returns-in-Ok-push-clause-gives g c =
    let H = g.H.BlockStore in
    let c0 : Change = c.args.change.now in
    let k : ℕ = digests_per_block c0.old in
    let last : c.blocks-last.result - 1 ≡ c0.new.blocks - 1 = ap (λ n. n - 1) c.blocks-last.ensures.value in
    let index : c.leaf_parent-index.result.0 ≡ (c0.new.blocks - 1) / k = c.leaf_parent-index.ensures.index ∙ ap (λ n. n / k) last in
    let at : c0.first + c.place.result ≡ c0.first + place k c0.old.blocks 0 ((c0.new.blocks - 1) / k) =
    ap (λ p. c0.first + p) (c.place.ensures.value ∙ ap (λ i. place k c0.old.blocks 0 i) index) in
    gives_read c.read.result (IsAboveLast c0) (H.given c.args.hash_store.now) (H.given c.read.new.self)
    (c0.first + c.place.result) c.read.new.out c.read.ensures.given c.read.ensures.ungiven (c.requires.fell, at)
