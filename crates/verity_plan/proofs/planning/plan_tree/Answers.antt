use Rattle.std.proofs.Common.{◌≡◌, ℕ, ◌≤◌, List, [], length, get_or, arith, subst, sym, ap, ◌∙◌}
use Rattle.verity_digest.specs.Hash.{hashing}
use Rattle.verity_digest.specs.Tree.{Hashing, IsHashing, root}
use Rattle.verity_digest.proofs.Sha.{IsHashing-hashing}
use Rattle.verity_profile.proofs.Bounds.{block_size_low}
use Rattle.verity_geometry.specs.Geometry.{Shape, IsShape, digests_per_block, levels_of}
use Rattle.verity_geometry.proofs.Shapes.{some}
use Rattle.verity_store.proofs.StoreLemmas.{only_read_then}
use Rattle.verity_pending.specs.declared.child.Child.{Child}
use Rattle.verity_plan.specs.declared.tree.Change.{Change}
use Rattle.verity_pending.specs.Edits.{Edits}
use Rattle.verity_pending.specs.Draft.{Draft, IsDraft, edits_of}
use Rattle.verity_pending.specs.Slots.{AreNamed}
use Rattle.verity_pending.specs.Plan.{ArePlanned}
use Rattle.verity_plan.specs.Making.{IsChange, IsEdited, IsTouchedPlace, StandsFor, touched_blocks}
use Rattle.verity_plan.specs.Last.{AreEdited, IsAboveLast}
use Rattle.verity_plan.specs.Seen.{GivesAt}
use Rattle.verity_plan.proofs.SeenLemmas.{shows_before, gives_then, gives_more}
use Rattle.verity_plan.proofs.TouchedLemmas.{touched_last}
use Rattle.verity_pending.proofs.Drafts.{length-working, KeepsUnchanged-draft}
use Rattle.verity_plan.proofs.PlanLemmas.{AreInTree-from, length-plan, some_image, length-some_image}
use Rattle.verity_plan.proofs.planning.plan_tree.Goals as goal

-- the leaves are of the edits of each image of this length
edited : (image : List (List ℕ)) (d : Draft) (old new : Shape) (leaves : List Child) → IsDraft d → IsShape old → IsShape new →
    d.committed ≡ old.blocks → d.working ≡ new.blocks → AreEdited d leaves
    → length image ≡ d.committed → IsEdited (edits_of image d) old.blocks new.blocks leaves
edited image d old new leaves ok old_shape new_shape committed working are len = record {
  committed = len ∙ committed;
  working = length-working image d ∙ working;
  some = some old old_shape;
  left = some new new_shape;
  kept = KeepsUnchanged-draft image d ok len;
  numbers = are image len;
}

pub returns-in_err-root-clause-reads : goal.returns-in_err-root-clause-reads
returns-in_err-root-clause-reads g c = λ image len same.
    let d : Draft = c.args.pending.now in
    let change : Change = c.args.change.now in
    let ed = edited image d change.old change.new c.add_fallen.new.leaves.items c.facts.ensures c.requires.change.old_shape
    c.requires.change.new_shape c.requires.committed c.requires.working c.in_ok-add_fallen.ensures.edited len in
    let before = c.in_ok-add_fallen.ensures.reads same in
    let after = c.in_err-root.ensures.reads (edits_of image d) ed in
    omega arith

pub returns-clause-reads : goal.returns-clause-reads
returns-clause-reads g c = λ image len same.
    let d : Draft = c.args.pending.now in
    let change : Change = c.args.change.now in
    let ed = edited image d change.old change.new c.add_fallen.new.leaves.items c.facts.ensures c.requires.change.old_shape
    c.requires.change.new_shape c.requires.committed c.requires.working c.in_ok-add_fallen.ensures.edited len in
    let before = c.in_ok-add_fallen.ensures.reads same in
    let after = c.in_ok-root.ensures.reads (edits_of image d) ed in
    omega arith

pub overflow_add-hashed : goal.overflow_add-hashed
overflow_add-hashed g c =
    let few = c.in-Ok.ensures.few in
    let small = c.make_tree.new.plan.small in
    omega arith

pub returns-clause-planned : goal.returns-clause-planned
returns-clause-planned g c = subst (λ (n : ℕ). ArePlanned n c.make_tree.new.plan.items) c.add_fallen.auto.block c.in_ok-root.ensures.planned

pub returns-clause-places : goal.returns-clause-places
returns-clause-places g c =
    let d : Draft = c.args.pending.now in
    let change : Change = c.args.change.now in
    let image : List (List ℕ) = some_image d.committed in
    let ed = edited image d change.old change.new c.add_fallen.new.leaves.items c.facts.ensures c.requires.change.old_shape
    c.requires.change.new_shape c.requires.committed c.requires.working c.in_ok-add_fallen.ensures.edited
    (length-some_image d.committed) in
    AreInTree-from (digests_per_block change.new) (edits_of image d) change.first change.new.blocks c.make_tree.new.plan.items
    ed.working (c.in_ok-root.ensures.places (edits_of image d) ed)

pub returns-clause-hashed : goal.returns-clause-hashed
returns-clause-hashed g c = λ image len.
    let d : Draft = c.args.pending.now in
    let e : Edits = edits_of image d in
    let change : Change = c.args.change.now in
    let ed = edited image d change.old change.new c.add_fallen.new.leaves.items c.facts.ensures c.requires.change.old_shape
    c.requires.change.new_shape c.requires.committed c.requires.working c.in_ok-add_fallen.ensures.edited len in
    let made = length-plan (digests_per_block change.new) e change.first change.new.blocks c.make_tree.new.plan.items ed.working
    (c.in_ok-root.ensures.places e ed) in
    let leaves = c.in-Ok.ensures.count image in
    let b = c.len.ensures in
    omega arith

pub returns-clause-counted : goal.returns-clause-counted
returns-clause-counted g c =
    let d : Draft = c.args.pending.now in
    let image : List (List ℕ) = some_image d.committed in
    let e : Edits = edits_of image d in
    let change : Change = c.args.change.now in
    let ed = edited image d change.old change.new c.add_fallen.new.leaves.items c.facts.ensures c.requires.change.old_shape
    c.requires.change.new_shape c.requires.committed c.requires.working c.in_ok-add_fallen.ensures.edited
    (length-some_image d.committed) in
    let made = length-plan (digests_per_block change.new) e change.first change.new.blocks c.make_tree.new.plan.items ed.working
    (c.in_ok-root.ensures.places e ed) in
    let first = c.in-Ok.ensures.hashed in
    let then = c.in_ok-root.ensures.hashed e ed in
    let b = c.len.ensures in
    omega arith

pub returns-clause-right : goal.returns-clause-right
returns-clause-right g c = λ content shown image len stands is_root.
    let d : Draft = c.args.pending.now in
    let e : Edits = edits_of image d in
    let change : Change = c.args.change.now in
    let was = shows_before g.H.BlockStore c.add_fallen.new.hash_store c.make_tree.new.hash_store content
    c.in_ok-root.ensures.read_only shown in
    let leaves : List Child = c.add_fallen.new.leaves.items in
    let ed = edited image d change.old change.new leaves c.facts.ensures c.requires.change.old_shape c.requires.change.new_shape
    c.requires.committed c.requires.working c.in_ok-add_fallen.ensures.edited len in
    let h : Hashing = hashing c.args.hasher.now.salted (length c.args.block.now) in
    let here : Hashing = hashing c.leaves.new.hasher.salted (length c.add_fallen.new.block) in
    let same : here ≡ h = (λ i. hashing (c.in-Ok.ensures.salted i) (c.add_fallen.auto.block i)) in
    let big : 512 ≤ length c.args.block.now =
    (let low = block_size_low change.new.hash_size c.requires.change.new_shape.hash_size in
    let s = c.requires.change.new_size in let q = c.requires.sized in omega arith) in
    let ok : IsHashing h = IsHashing-hashing c.args.hasher.now.salted (length c.args.block.now) big in
    let named : AreNamed (λ n. h.digest (get_or e.working n [])) leaves =
    c.in_ok-add_fallen.ensures.named content was h image ok (c.requires.sized ∙ sym c.requires.change.old_size)
    (sym c.requires.change.old_digest) ed.committed stands (c.in-Ok.ensures.named image) in
    let there : StandsFor h e change.first content change.root leaves = record {
      tree = stands;
      root = is_root;
      named = named;
    } in
    let r = c.in_ok-root.ensures.made content shown e ed
    (subst (λ (x : Hashing). StandsFor x e change.first content change.root leaves) (sym same) there) in (
      r.0 ∙ ap (λ x. touched_blocks x e change.first change.new.blocks (levels_of change.new)) same,
      r.1 ∙ ap (λ x. root x e.working) same,
    )

pub returns-clause-read_only : goal.returns-clause-read_only
returns-clause-read_only g c = only_read_then g.H.BlockStore _ _ _ c.in_ok-add_fallen.ensures.read_only c.in_ok-root.ensures.read_only

-- what was given for the last block is above it
given_last : (image : List (List ℕ)) (d : Draft) (c : Change) (blocks size digest : ℕ) (a b : List (ℕ × List ℕ))
    → IsChange c blocks size digest → length image ≡ d.committed → d.committed ≡ c.old.blocks → d.working ≡ c.new.blocks
    → GivesAt (IsAboveLast c) a b → GivesAt (IsTouchedPlace c (edits_of image d)) a b
given_last image d c blocks size digest a b ok len committed working =
    gives_more (IsAboveLast c) (IsTouchedPlace c (edits_of image d)) a b
    (λ n is. touched_last c blocks size digest (edits_of image d) n ok (len ∙ committed) (length-working image d ∙ working) is)

pub returns-in_err-add_fallen-clause-gives : goal.returns-in_err-add_fallen-clause-gives
returns-in_err-add_fallen-clause-gives g c = λ image len.
    given_last image c.args.pending.now c.args.change.now _ _ _ _ _ c.requires.change len c.requires.committed c.requires.working
    c.in_err-add_fallen.ensures.gives

pub returns-in_err-root-clause-gives : goal.returns-in_err-root-clause-gives
returns-in_err-root-clause-gives g c = λ image len.
    let d : Draft = c.args.pending.now in
    let change : Change = c.args.change.now in
    let ed = edited image d change.old change.new c.add_fallen.new.leaves.items c.facts.ensures c.requires.change.old_shape
    c.requires.change.new_shape c.requires.committed c.requires.working c.in_ok-add_fallen.ensures.edited len in
    gives_then (IsTouchedPlace change (edits_of image d)) _ _ _
    (given_last image d change _ _ _ _ _ c.requires.change len c.requires.committed c.requires.working c.in_ok-add_fallen.ensures.gives)
    (c.in_err-root.ensures.gives (edits_of image d) ed)

pub returns-clause-gives : goal.returns-clause-gives
returns-clause-gives g c = λ image len.
    let d : Draft = c.args.pending.now in
    let change : Change = c.args.change.now in
    let ed = edited image d change.old change.new c.add_fallen.new.leaves.items c.facts.ensures c.requires.change.old_shape
    c.requires.change.new_shape c.requires.committed c.requires.working c.in_ok-add_fallen.ensures.edited len in
    gives_then (IsTouchedPlace change (edits_of image d)) _ _ _
    (given_last image d change _ _ _ _ _ c.requires.change len c.requires.committed c.requires.working c.in_ok-add_fallen.ensures.gives)
    (c.in_ok-root.ensures.gives (edits_of image d) ed)
