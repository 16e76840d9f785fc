use Rattle.std.proofs.Common.{◌≡◌, [], length, map, get_or, subst, sym, ap, ◌∙◌}
use Rattle.std.specs.Prelude.{is_some}
use Rattle.verity_digest.proofs.Sha.{length-digest_of}
use Rattle.verity_profile.specs.Profile.{zero_block}
use Rattle.verity_digest.specs.Hash.{Salted, salted_digest, size_of}
use Rattle.verity_pending.specs.Draft.{Draft, edits_of}
use Rattle.verity_pending.specs.Pend.{draft}
use Rattle.verity_pending.specs.Slots.{child_at, AreNamed, AreSized, AreWithin}
use Rattle.verity_pending.specs.Plan.{numbers_of}
use Rattle.verity_pending.specs.Touched.{changed_blocks}
use Rattle.verity_pending.specs.Leaves.{changed_numbers, hashed_leaf, leaf_hashes}
use Rattle.verity_pending.proofs.Applied.{KeysRise-ordered}
use Rattle.verity_pending.proofs.LeafLemmas.{all_leaves, numbers-leaves, each_leaf, leaf_named, length-written_or}
use Rattle.verity_pending.proofs.LeafLemmas.{changed_numbers-blocks}
use Rattle.verity_pending.proofs.pending.Pending.leaves.Goals as goal
use Rattle.verity_pending.proofs.pending.Pending.leaves.Goals.{In_ok-made}
use Rattle.verity_pending.proofs.pending.Pending.leaves.Given.{Over}

pub changed_leaves-requires-clause-sized : goal.changed_leaves-requires-clause-sized
changed_leaves-requires-clause-sized g c =
    let d : Draft = draft c.self.inside in
    length-written_or d c.args.zero.now c.self.invariant (c.requires.zero ∙ ap (λ x. zero_block x.size) (sym c.self.view_is))

pub changed_leaves-requires-clause-behind : goal.changed_leaves-requires-clause-behind
changed_leaves-requires-clause-behind g c = λ n past. ap is_some (c.self.invariant.behind n past)

-- what is answered is the leaves of the draft
all : (g : Over) (c : In_ok-made g) → c.in_ok-made.made.0.items ≡ all_leaves c.args.hasher.now.salted (draft c.self.inside)
all g c =
    let d : Draft = draft c.self.inside in
    let zero : c.args.zero.now ≡ zero_block d.size = c.requires.zero ∙ ap (λ x. zero_block x.size) (sym c.self.view_is) in
    c.in_ok-made.ensures.leaves
    ∙ ap (λ z. map (hashed_leaf c.args.hasher.now.salted d.written z) (changed_numbers d.written d.least d.working)) zero

pub returns-clause-numbers : goal.returns-clause-numbers
returns-clause-numbers g c = λ image.
    let d : Draft = draft c.self.inside in
    ap numbers_of (all g c)
    ∙ numbers-leaves c.args.hasher.now.salted d image c.self.invariant (KeysRise-ordered d.written c.len-ordered.ensures.ordered)
    ∙ ap (λ x. changed_blocks (edits_of image x)) c.self.view_is

pub returns-clause-named : goal.returns-clause-named
returns-clause-named g c = λ image.
    let d : Draft = draft c.self.inside in
    let salted : Salted = c.args.hasher.now.salted in
    let each : AreNamed (λ n. salted_digest salted (get_or (edits_of image d).working n [])) (all_leaves salted d) =
    record {
      each = λ m below. leaf_named salted d image (child_at (all_leaves salted d) m) (each_leaf salted d c.self.invariant m below);
    } in
    subst (λ (x : Draft). AreNamed (λ n. salted_digest salted (get_or (edits_of image x).working n [])) c.in_ok-made.made.0.items)
    c.self.view_is (subst (AreNamed (λ n. salted_digest salted (get_or (edits_of image d).working n []))) (sym (all g c)) each)

pub returns-clause-within : goal.returns-clause-within
returns-clause-within g c =
    let d : Draft = draft c.self.inside in
    let salted : Salted = c.args.hasher.now.salted in
    let each : AreWithin d.working (all_leaves salted d) = λ m below. (each_leaf salted d c.self.invariant m below).within in
    subst (λ (x : Draft). AreWithin x.working c.in_ok-made.made.0.items) c.self.view_is
    (subst (AreWithin d.working) (sym (all g c)) each)

pub returns-clause-sized : goal.returns-clause-sized
returns-clause-sized g c =
    let d : Draft = draft c.self.inside in
    let salted : Salted = c.args.hasher.now.salted in
    let each : AreSized (size_of salted.algorithm) (all_leaves salted d) =
    λ m below. ap length (each_leaf salted d c.self.invariant m below).digest ∙ length-digest_of salted.algorithm _ in
    subst (AreSized (size_of salted.algorithm)) (sym (all g c)) each

pub returns-clause-count : goal.returns-clause-count
returns-clause-count g c = λ image.
    let d : Draft = draft c.self.inside in
    c.in_ok-made.ensures.count
    ∙ ap (leaf_hashes d.written)
    (changed_numbers-blocks d image c.self.invariant (KeysRise-ordered d.written c.len-ordered.ensures.ordered))
    ∙ ap (λ (x : Draft). leaf_hashes x.written (changed_blocks (edits_of image x))) c.self.view_is
