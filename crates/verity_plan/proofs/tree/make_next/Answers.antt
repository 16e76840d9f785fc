use Rattle.std.proofs.Common.{◌≡◌, ℕ, ◌+◌, ◌*◌, ◌<◌, ◌++◌, List, length, map, get_or, arith, subst, sym, ap, ◌∙◌}
use Rattle.std.specs.Prelude.{OnOk}
use Rattle.verity_digest.specs.Tree.{Hashing}
use Rattle.verity_digest.specs.Hash.{hashing, size_of}
use Rattle.verity_digest.specs.Shape.{row_len}
use Rattle.verity_geometry.specs.Geometry.{digests_per_block}
use Rattle.verity_geometry.proofs.Shapes.{branching}
use Rattle.verity_plan.specs.declared.level.Level.{Level}
use Rattle.verity_plan.specs.declared.tree.Change.{Change}
use Rattle.verity_pending.specs.Slots.{AreSized}
use Rattle.verity_pending.specs.Parents.{parents}
use Rattle.verity_pending.specs.Plan.{numbers_of, places, made_blocks, made_digests}
use Rattle.verity_plan.specs.Level.{IsLevel, AreChildren, Holds, Renews, IsOldOf}
use Rattle.verity_plan.specs.Seen.{GivesAt}
use Rattle.verity_plan.specs.Making.{level_of}
use Rattle.verity_pending.proofs.ParentLemmas.{parents_within}
use Rattle.verity_plan.proofs.MakingLemmas.{IsLevel-change, next_within, if_ok}
use Rattle.verity_plan.proofs.tree.make_next.Goals as goal

pub make_level-requires-clause-level : goal.make_level-requires-clause-level
make_level-requires-clause-level g c =
    let blocks : ℕ = length (g.H.BlockStore.content c.args.hash_store.now) in
    let size : ℕ = g.H.BlockStore.size c.args.hash_store.now in
    let digest : ℕ = size_of c.args.hasher.now.salted.algorithm in
    subst (λ (l : Level). IsLevel l blocks size digest) (sym c.level-made.ensures)
    (IsLevel-change c.args.change.now blocks size digest c.args.level c.requires.change c.requires.there)

pub make_level-requires-clause-children : goal.make_level-requires-clause-children
make_level-requires-clause-children g c =
    subst (λ (l : Level). AreChildren l c.args.children.now.items) (sym c.level-made.ensures)
    (record {
      sized = subst (λ (d : ℕ). AreSized d c.args.children.now.items) (sym c.requires.change.new_digest)
          c.requires.children_sized;
      within = c.requires.children_within;
    })

pub make_level-requires-clause-below : goal.make_level-requires-clause-below
make_level-requires-clause-below g c = λ t below.
    let k : ℕ = digests_per_block c.args.change.now.new in
    let end : ℕ = row_len k c.args.change.now.new.blocks c.args.level in
    let is : c.deref.result.now ≡ parents k (numbers_of c.args.children.now.items) = c.deref.ensures.value ∙ c.in-Ok.ensures
    ∙ ap (λ l. parents l.per_block (numbers_of c.args.children.now.items)) c.level-made.ensures in
    let two = branching c.args.change.now.new c.requires.change.new_shape in
    let some : 0 < k = omega arith in
    let inside = parents_within k c.args.children.now.items end t some c.requires.children_within
    (subst (λ (ns : List ℕ). t < length ns) is below) in
    subst (λ (l : Level). get_or c.deref.result.now t 0 * l.per_block < l.digests) (sym c.level-made.ensures)
    (subst (λ (ns : List ℕ). get_or ns t 0 * k < end) (sym is) inside)

pub returns-clause-made : goal.returns-clause-made
returns-clause-made g c =
    let k : ℕ = digests_per_block c.args.change.now.new in
    let h : Hashing = hashing c.args.hasher.now.salted (length c.args.block.now) in
    let up : List ℕ = parents k (numbers_of c.args.children.now.items) in
    let is : c.deref.result.now ≡ up = c.deref.ensures.value ∙ c.in-Ok.ensures
    ∙ ap (λ l. parents l.per_block (numbers_of c.args.children.now.items)) c.level-made.ensures in
    if_ok c.make_level.result _ _
    (λ next made content shown old new count holds renews.
    let lv : Level = level_of c.args.change.now c.args.level in
    let same : c.level-made.result ≡ lv = c.level-made.ensures in
    let holds_here : Holds h old c.level-made.result.old content = subst (λ (l : Level). Holds h old l.old content) (sym same) holds in
    let renews_new : Renews lv.digest_size old new c.args.children.now.items =
    subst (λ (d : ℕ). Renews d old new c.args.children.now.items) (sym c.requires.change.new_digest) renews in
    let renews_here : Renews c.level-made.result.digest_size old new c.args.children.now.items =
    subst (λ (l : Level). Renews l.digest_size old new c.args.children.now.items) (sym same) renews_new in
    let r = made content shown old new (count ∙ ap (λ l. l.digests) (sym same)) holds_here renews_here in (
      r.0 ∙ (λ i. c.args.plan.now.items ++ made_blocks h new (same i).start (is i)),
      r.1 ∙ ap (made_digests h new) is,
    ))
    c.make_level.ensures.made

pub returns-clause-next_within : goal.returns-clause-next_within
returns-clause-next_within g c =
    let k : ℕ = digests_per_block c.args.change.now.new in
    let up : List ℕ = parents k (numbers_of c.args.children.now.items) in
    let is : c.deref.result.now ≡ up = c.deref.ensures.value ∙ c.in-Ok.ensures
    ∙ ap (λ l. parents l.per_block (numbers_of c.args.children.now.items)) c.level-made.ensures in
    let two = branching c.args.change.now.new c.requires.change.new_shape in
    let some : 0 < k = omega arith in
    if_ok c.make_level.result _ _
    (λ next numbers. next_within k c.args.change.now.new.blocks c.args.level c.args.children.now.items next.items some
    c.requires.children_within (numbers ∙ is))
    c.make_level.ensures.numbers

pub returns-clause-gives : goal.returns-clause-gives
returns-clause-gives g c =
    let H = g.H.BlockStore in
    let is : c.deref.result.now ≡ parents (digests_per_block c.args.change.now.new) (numbers_of c.args.children.now.items) =
    c.deref.ensures.value ∙ c.in-Ok.ensures ∙ ap (λ l. parents l.per_block (numbers_of c.args.children.now.items)) c.level-made.ensures in
    let P : Level → List ℕ → Type 0 = λ l ns. GivesAt (IsOldOf l ns) (H.given c.args.hash_store.now)
    (H.given c.make_level.new.hash_store) in
    subst (P (level_of c.args.change.now c.args.level)) is
    (subst (λ (l : Level). P l c.deref.result.now) c.level-made.ensures c.make_level.ensures.gives)

pub returns-clause-places : goal.returns-clause-places
returns-clause-places g c =
    let change : Change = c.args.change.now in
    let up : List ℕ = parents (digests_per_block change.new) (numbers_of c.args.children.now.items) in
    let is : c.deref.result.now ≡ up = c.deref.ensures.value ∙ c.in-Ok.ensures
    ∙ ap (λ l. parents l.per_block (numbers_of c.args.children.now.items)) c.level-made.ensures in
    let P : Level → List ℕ → Type 0 = λ l ns. OnOk c.make_level.result
    (places c.make_level.new.plan.items ≡ places c.args.plan.now.items ++ map (λ i. l.start + i) ns) in
    subst (P (level_of change c.args.level)) is
    (subst (λ (l : Level). P l c.deref.result.now) c.level-made.ensures c.make_level.ensures.places)
