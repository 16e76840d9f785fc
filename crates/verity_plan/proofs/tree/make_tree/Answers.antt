use Rattle.std.proofs.Common.{◌≡◌, ℕ, suc, ◌+◌, ◌/◌, ◌<◌, ◌≤◌, ◌++◌, List, [], length, map, get_or, arith, subst, sym, ap, ◌∙◌}
use Rattle.std.proofs.Common.{refl, ⊎_elim}
use Rattle.std.proofs.lemmas.Bool.{cases_lt}
use Rattle.std.proofs.lemmas.List.{length-map}
use Rattle.verity_digest.specs.Tree.{Hashing, IsHashing, per_block}
use Rattle.verity_digest.specs.Hash.{hashing, size_of}
use Rattle.verity_digest.specs.Shape.{row_len, level_count}
use Rattle.verity_digest.specs.Rows.{row}
use Rattle.verity_digest.proofs.Sha.{IsHashing-hashing}
use Rattle.verity_digest.proofs.Rows.{length-row}
use Rattle.verity_digest.proofs.Counts.{row_len-zero}
use Rattle.verity_profile.proofs.Bounds.{block_size_low}
use Rattle.verity_geometry.specs.Geometry.{digests_per_block, levels_of, start_of}
use Rattle.verity_geometry.proofs.Shapes.{branching}
use Rattle.verity_store.proofs.StoreLemmas.{only_read_same, only_read_then}
use Rattle.verity_pending.specs.declared.child.Child.{Child}
use Rattle.verity_pending.specs.Edits.{Edits}
use Rattle.verity_pending.specs.Touched.{touched}
use Rattle.verity_pending.specs.Slots.{child_at, AreNamed, AreSized, AreWithin}
use Rattle.verity_pending.specs.Parents.{parents}
use Rattle.verity_pending.specs.Digests.{digests_of}
use Rattle.verity_pending.specs.Plan.{numbers_of, places, ArePlanned, made_blocks, made_digests}
use Rattle.verity_plan.specs.Level.{Holds, Renews, IsOldOf}
use Rattle.verity_plan.specs.Making.{IsChange, level_of, touched_below, touched_places, touched_blocks, IsEdited, IsTouchedPlace}
use Rattle.verity_plan.proofs.SeenLemmas.{shows_before, gives_same, gives_then, gives_more}
use Rattle.verity_plan.proofs.TouchedLemmas.{touched_place}
use Rattle.verity_plan.proofs.MakingLemmas.{parents-renewed, touched_below-more, touched_below-mono, ready_change, named_next}
use Rattle.verity_plan.proofs.MakingLemmas.{named_leaves, finish, renewed-more, touched_blocks-more, touched_places-more}
use Rattle.verity_plan.proofs.tree.make_tree.Goals as goal

pub make_next-requires-clause-change : goal.make_next-requires-clause-change
make_next-requires-clause-change g c =
    let inv = c.loop-level.invariant in
    let store = c.loop-level.hash_store in
    let P : ℕ → ℕ → ℕ → Type 0 = IsChange c.args.change.now in
    let a = subst (λ (n : ℕ). P n (g.H.BlockStore.size c.args.hash_store.now) (size_of c.args.hasher.now.salted.algorithm))
    (sym (ap length inv.read_only.content)) c.requires.change in
    let b = subst (λ (n : ℕ). P (length (g.H.BlockStore.content store)) n (size_of c.args.hasher.now.salted.algorithm))
    (sym inv.read_only.later.size) a in
    subst (λ (n : ℕ). P (length (g.H.BlockStore.content store)) (g.H.BlockStore.size store) n)
    (sym (ap (λ s. size_of s.algorithm) inv.salted)) b

pub make_next-requires-clause-sized : goal.make_next-requires-clause-sized
make_next-requires-clause-sized g c = let inv = c.loop-level.invariant in let size = c.requires.sized in
    omega (arith, inv.read_only.later.size)

pub make_next-requires-clause-children_sized : goal.make_next-requires-clause-children_sized
make_next-requires-clause-children_sized g c =
    let inv = c.loop-level.invariant in
    subst (λ (n : ℕ). AreSized n c.loop-level.children.items) (sym (ap (λ s. size_of s.algorithm) inv.salted)) inv.sized

pub make_next-requires-clause-children_within : goal.make_next-requires-clause-children_within
make_next-requires-clause-children_within g c =
    c.loop-level.invariant.within

pub loop-level-init : goal.loop-level-init
loop-level-init g c =
    let change = c.args.change.now in
    let k : ℕ = digests_per_block change.new in
    record {
      within = subst (λ (n : ℕ). AreWithin n c.args.leaves.items) (sym (row_len-zero k change.new.blocks)) c.requires.leaves_within;
      sized = c.requires.leaves_sized;
      numbers = λ e ed. ed.numbers;
      places = λ e ed. ap places c.requires.empty;
      made = λ content shown e ed stands. (
        c.requires.empty,
        named_leaves (hashing c.args.hasher.now.salted (length c.args.block.now)) e
            change.new.blocks c.args.leaves.items ed.working c.requires.leaves_within stands.named,
      );
      planned = subst (ArePlanned (length c.args.block.now)) (sym c.requires.empty) (λ d below. absurd (omega arith));
      salted = refl;
      hashed = λ e ed. omega arith;
      unfailed = refl;
      reads = λ e ed. omega arith;
      gives = λ e ed. gives_same (IsTouchedPlace c.args.change.now e) _ _ refl;
      read_only = only_read_same g.H.BlockStore c.args.hash_store.now;
    }

pub loop-level-preserved : goal.loop-level-preserved
loop-level-preserved g c =
    let inv = c.loop-level.invariant in
    let one = c.in_ok-children.ensures in
    let change = c.args.change.now in
    let k : ℕ = digests_per_block change.new in
    let n : ℕ = change.new.blocks in
    let l : ℕ = c.loop-level.level in
    let two = branching change.new c.requires.change.new_shape in
    let some : 0 < k = omega arith in
    let there : l < levels_of change.new = omega arith in
    let step : l + 1 ≡ suc l = omega arith in
    let up : (e : Edits) → IsEdited e change.old.blocks n c.args.leaves.items →
    parents k (numbers_of c.loop-level.children.items) ≡ touched k e l = λ e ed.
    let left : 0 < length e.working = (let s = ed.left in let w = ed.working in omega arith) in
    ap (parents k) (inv.numbers e ed) ∙ parents-renewed k e l some left in
    record {
      within = subst (λ (m : ℕ). AreWithin (row_len k n m) c.in_ok-children.children.items) (sym step) one.next_within;
      sized = subst (λ (d : ℕ). AreSized d c.in_ok-children.children.items) (ap (λ s. size_of s.algorithm) inv.salted) one.next_sized;
      numbers = λ e ed. one.numbers ∙ up e ed ∙ renewed-more k e l (l + 1) refl;
      places = λ e ed. one.places ∙ ap (λ ns. places c.loop-level.plan.items ++ map (λ i. change.first + start_of change.new l + i)
          ns) (up e ed)
          ∙ touched_places-more k e change.first n l (l + 1) (places c.loop-level.plan.items) refl (inv.places e ed);
      made = λ content shown e ed stands.
          let size : ℕ = g.H.BlockStore.size c.args.hash_store.now in
          let digest : ℕ = size_of c.args.hasher.now.salted.algorithm in
          let h : Hashing = hashing c.args.hasher.now.salted (length c.args.block.now) in
          let here : Hashing = hashing c.loop-level.hasher.salted (length c.loop-level.block) in
          let len : length c.loop-level.block ≡ length c.args.block.now = omega arith in
          let same : here ≡ h = λ j. hashing (inv.salted j) (len j) in
          let change_ok = c.requires.change in
          let big : 512 ≤ length c.args.block.now = (let low = block_size_low change.new.hash_size change_ok.new_shape.hash_size in
          let s = change_ok.new_size in let q = c.requires.sized in omega arith) in
          let ok : IsHashing h = IsHashing-hashing c.args.hasher.now.salted (length c.args.block.now) big in
          let width : per_block h ≡ k = (λ i. (c.requires.sized ∙ sym change_ok.new_size) i / sym change_ok.new_digest i) in
          let was = shows_before g.H.BlockStore c.loop-level.hash_store c.make_next.new.hash_store content one.read_only shown in
          let before = inv.made content was e ed stands in
          let new : List (List ℕ) = digests_of h e.working l in
          let r = ready_change h change e (length (g.H.BlockStore.content c.args.hash_store.now)) size digest l content
          c.args.leaves.items c.loop-level.children.items ok c.requires.sized refl change_ok ed stands there (inv.numbers e ed)
          before.1 in
          let long : length new ≡ row_len k n l = length-map (row h e.working l) h.digest
          ∙ length-row h e.working l (let b = ok.branching in omega arith) ∙ (λ i. row_len (width i) (ed.working i) l) in
          let held_here : Holds here r.old (level_of change l).old content =
          subst (λ (x : Hashing). Holds x r.old (level_of change l).old content) (sym same) r.holds in
          let renews_here : Renews here.digest_size r.old new c.loop-level.children.items =
          subst (λ (x : Hashing). Renews x.digest_size r.old new c.loop-level.children.items) (sym same) r.renews in
          let made = one.made content shown r.old new long held_here renews_here in
          let next : c.in_ok-children.children.items ≡ made_digests h new (touched k e l) =
          made.1 ∙ (λ i. made_digests (same i) new (up e ed i)) in
          let inside : (d : ℕ) → d < length c.in_ok-children.children.items →
          (child_at c.in_ok-children.children.items d).number < length (row h e.working (suc l)) = λ d below.
          let w = one.next_within d below in
          let m : length (row h e.working (suc l)) ≡ row_len k n (suc l) = length-row h e.working (suc l) (let b = ok.branching in
          omega arith) ∙ (λ i. row_len (width i) (ed.working i) (suc l)) in
          omega arith in (
            made.0 ∙ (λ i. c.loop-level.plan.items ++ made_blocks (same i) new (change.first + start_of change.new l) (up e ed i))
                ∙ touched_blocks-more h e change.first k n l (l + 1) c.loop-level.plan.items width refl before.0,
            subst (λ (m : ℕ). AreNamed (λ j. get_or (digests_of h e.working m) j []) c.in_ok-children.children.items) (sym step)
                (named_next h e l (touched k e l) c.in_ok-children.children.items next inside),
          );
      planned = subst (λ (m : ℕ). ArePlanned m c.make_next.new.plan.items)
          (let e : length c.loop-level.block ≡ length c.args.block.now = omega arith in
          e) (one.planned (subst (λ (m : ℕ). ArePlanned m c.loop-level.plan.items)
          (let e : length c.args.block.now ≡ length c.loop-level.block = omega arith in e) inv.planned));
      salted = one.salted ∙ inv.salted;
      hashed = λ e ed. let more = touched_below-more k e l (l + 1) refl in let now = ap length (up e ed) in let was =
          inv.hashed e ed in let h = one.hashed in omega arith;
      unfailed = one.fails ∙ inv.unfailed;
      reads = λ e ed. let more = touched_below-more k e l (l + 1) refl in let now = ap length (up e ed) in let was =
          inv.reads e ed in let r = one.reads in omega arith;
      gives = λ e ed. gives_then (IsTouchedPlace change e) _ _ _ (inv.gives e ed)
          (gives_more (IsOldOf (level_of change l) (parents k (numbers_of c.loop-level.children.items))) (IsTouchedPlace change e) _ _
          (λ m is. touched_place change _ _ _ e l m _ c.requires.change (up e ed) is) one.gives);
      read_only = only_read_then g.H.BlockStore _ _ _ inv.read_only one.read_only;
    }

pub returns-in_err-room-clause-reads : goal.returns-in_err-room-clause-reads
returns-in_err-room-clause-reads g c = λ e ed.
    let change = c.args.change.now in
    let k : ℕ = digests_per_block change.new in
    let l : ℕ = c.loop-level.level in
    let count : levels_of change.new ≡ level_count k (length e.working) = ap (level_count k) (sym ed.working) in
    let most = touched_below-mono k e l (level_count k (length e.working)) (omega arith) in
    let was = c.loop-level.invariant.reads e ed in
    omega arith

pub returns-in_err-children-clause-reads : goal.returns-in_err-children-clause-reads
returns-in_err-children-clause-reads g c = λ e ed.
    let inv = c.loop-level.invariant in
    let one = c.in_err-children.ensures in
    let change = c.args.change.now in
    let k : ℕ = digests_per_block change.new in
    let l : ℕ = c.loop-level.level in
    let two = branching change.new c.requires.change.new_shape in
    let left : 0 < length e.working = (let s = ed.left in let w = ed.working in omega arith) in
    let up : parents k (numbers_of c.loop-level.children.items) ≡ touched k e l =
    ap (parents k) (inv.numbers e ed) ∙ parents-renewed k e l (omega arith) left in
    let count : levels_of change.new ≡ level_count k (length e.working) = ap (level_count k) (sym ed.working) in
    let most = touched_below-mono k e (l + 1) (level_count k (length e.working)) (omega arith) in
    let more = touched_below-more k e l (l + 1) refl in let now = ap length up in let was = inv.reads e ed in let r = one.reads in
    omega arith

pub returns-in_err-children-clause-gives : goal.returns-in_err-children-clause-gives
returns-in_err-children-clause-gives g c = λ e ed.
    let inv = c.loop-level.invariant in
    let one = c.in_err-children.ensures in
    let change = c.args.change.now in
    let k : ℕ = digests_per_block change.new in
    let l : ℕ = c.loop-level.level in
    let two = branching change.new c.requires.change.new_shape in
    let left : 0 < length e.working = (let s = ed.left in let w = ed.working in omega arith) in
    let up : parents k (numbers_of c.loop-level.children.items) ≡ touched k e l =
    ap (parents k) (inv.numbers e ed) ∙ parents-renewed k e l (omega arith) left in
    gives_then (IsTouchedPlace change e) _ _ _ (inv.gives e ed)
    (gives_more (IsOldOf (level_of change l) (parents k (numbers_of c.loop-level.children.items))) (IsTouchedPlace change e) _ _
    (λ m is. touched_place change _ _ _ e l m _ c.requires.change up is) one.gives)

pub returns-clause-gives : goal.returns-clause-gives
returns-clause-gives g c = λ e ed. c.loop-level.invariant.gives e ed

pub returns-clause-made : goal.returns-clause-made
returns-clause-made g c = λ content shown e ed stands.
    let inv = c.loop-level.invariant in
    let change = c.args.change.now in
    let change_ok = c.requires.change in
    let h : Hashing = hashing c.args.hasher.now.salted (length c.args.block.now) in
    let big : 512 ≤ length c.args.block.now = (let low = block_size_low change.new.hash_size change_ok.new_shape.hash_size in
    let s = change_ok.new_size in let q = c.requires.sized in omega arith) in
    let ok : IsHashing h = IsHashing-hashing c.args.hasher.now.salted (length c.args.block.now) big in
    let at : c.loop-level.level ≡ levels_of change.new = omega arith in
    let made = inv.made content shown e ed stands in (
      made.0 ∙ ap (touched_blocks h e change.first change.new.blocks) at,
      finish h change e (length (g.H.BlockStore.content c.args.hash_store.now)) (g.H.BlockStore.size c.args.hash_store.now)
          (size_of c.args.hasher.now.salted.algorithm) c.loop-level.level content
          c.args.leaves.items c.loop-level.children.items c.top_digest.result
          ok c.requires.sized refl change_ok ed stands at inv.within (inv.numbers e ed) made.1
          c.top_digest.ensures.some c.top_digest.ensures.none,
    )

pub returns-clause-places : goal.returns-clause-places
returns-clause-places g c = λ e ed.
    let at : c.loop-level.level ≡ levels_of c.args.change.now.new = omega arith in
    c.loop-level.invariant.places e ed ∙ ap (touched_places (digests_per_block c.args.change.now.new) e c.args.change.now.first
    c.args.change.now.new.blocks) at

pub returns-clause-hashed : goal.returns-clause-hashed
returns-clause-hashed g c = λ e ed.
    let k : ℕ = digests_per_block c.args.change.now.new in
    let at : c.loop-level.level ≡ level_count k (length e.working) =
    (let l : c.loop-level.level ≡ levels_of c.args.change.now.new = omega arith in l) ∙ ap (level_count k) (sym ed.working) in
    c.loop-level.invariant.hashed e ed ∙ ap (λ m. c.args.hasher.now.hashed + touched_below k e m) at

pub returns-clause-reads : goal.returns-clause-reads
returns-clause-reads g c = λ e ed.
    let k : ℕ = digests_per_block c.args.change.now.new in
    let at : c.loop-level.level ≡ level_count k (length e.working) =
    (let l : c.loop-level.level ≡ levels_of c.args.change.now.new = omega arith in l) ∙ ap (level_count k) (sym ed.working) in
    let same = ap (touched_below k e) at in
    let reads = c.loop-level.invariant.reads e ed in omega arith

pub returns-clause-digest_size : goal.returns-clause-digest_size
returns-clause-digest_size g c =
    let children : List Child = c.loop-level.children.items in
    ⊎_elim
    (λ some. ap length (c.top_digest.ensures.some some) ∙ c.loop-level.invariant.sized 0 some)
    (λ none. ap length (c.top_digest.ensures.none (omega arith)) ∙ c.requires.change.sized)
    (cases_lt 0 (length children))
