-- One level more of the tree that a commit makes again.
use Rattle.std.proofs.Common.{◌≡◌, ℕ, zero, suc, ◌+◌, ◌-◌, ◌*◌, ◌/◌, ◌^◌, ◌<◌, ◌≤◌, true, false, ◌&&◌, ltb, eqb, cond, List, []}
use Rattle.std.proofs.Common.{◌∷◌, ◌++◌, length, map, drop, get_or, Some, None, Result, Ok, Err, ⊎_elim, inl, refl, sym, ap, ◌∙◌}
use Rattle.std.proofs.Common.{subst, arith}
use Rattle.std.specs.List.{sum_by, range_with_len}
use Rattle.std.specs.Int.{div_ceil}
use Rattle.std.specs.Prelude.{IfSome, IfOk}
use Rattle.std.specs.List.Sorted.{IsNonDecreasingBy}
use Rattle.std.proofs.Math.Nat.{div-mul-le_self, pow-le-pow_right}
use Rattle.std.proofs.lemmas.Bool.{cases_lt, cases_eq, cond-true, cond-false, lt-ltb, le-ltb, eq-eqb, ne_eqb, or_left, or_right}
use Rattle.std.proofs.lemmas.Bool.{and_from, false_from_ne_true}
use Rattle.std.proofs.lemmas.List.{length-map, get_or-map, ext_get_or, nil_from_length}
use Rattle.std.proofs.lemmas.List.FromFn.{sum_by-map-range_with_len_more}
use Rattle.std.proofs.lemmas.List.{map-id}
use Rattle.verity_digest.specs.Tree.{Hashing, IsHashing, per_block, root, tree}
use Rattle.verity_digest.specs.Shape.{row_len, level_count, level_len, level_start}
use Rattle.verity_digest.specs.Rows.{row, block_at}
use Rattle.verity_digest.proofs.Numbers.{IsLevelCount-level_count}
use Rattle.verity_digest.proofs.Counts.{level_within, row_len-suc, row_len-zero, row_len_top, quotient_below}
use Rattle.verity_digest.proofs.Rows.{length-row, root-row}
use Rattle.verity_geometry.specs.Geometry.{Shape, IsShape, digests_per_block, levels_of}
use Rattle.verity_geometry.proofs.Shapes.{branching, few, total_few}
use Rattle.verity_digest.proofs.Growth.{level_count-mono}
use Rattle.verity_pending.specs.declared.child.Child.{Child}
use Rattle.verity_plan.specs.declared.level.OldLevel.{OldLevel}
use Rattle.verity_plan.specs.declared.tree.Change.{Change}
use Rattle.verity_pending.specs.Edits.{Edits}
use Rattle.verity_pending.specs.Touched.{has_fallen, is_touched, touched}
use Rattle.verity_pending.specs.Parents.{is_edited, edited_blocks, parents}
use Rattle.verity_pending.specs.Kept.{KeepsUnchanged}
use Rattle.verity_pending.specs.Digests.{digests_of}
use Rattle.verity_pending.specs.Slots.{nobody, child_at, AreNamed, AreWithin}
use Rattle.verity_pending.specs.Plan.{Planned, numbers_of, made_blocks, made_digests}
use Rattle.verity_plan.specs.Level.{Holds, Renews, IsLevel}
use Rattle.verity_plan.specs.Making.{old_level, level_of, IsChange, renewed, touched_below, touched_places, touched_blocks}
use Rattle.verity_plan.specs.Making.{IsEdited, StandsFor}
use Rattle.verity_plan.specs.Standing.{BeginsWith}
use Rattle.verity_pending.proofs.ParentLemmas.{Rising, Has, Rising-filter, filter_has, parents_have, have_parents, touched-zero}
use Rattle.verity_pending.proofs.ParentLemmas.{touched-suc, has_number, get_has}
use Rattle.verity_pending.proofs.ChildLemmas.{rising_children}
use Rattle.verity_plan.proofs.Renewed.{renews_data, renews_level, renews_above}
use Rattle.verity_plan.proofs.Trees.{holds_level, holds_root, holds_none}

-- the blocks above those that are renewed are touched
pub parents-renewed : (k : ℕ) (e : Edits) (l : ℕ) → 0 < k → 0 < length e.working → parents k (renewed k e l) ≡ touched k e l
parents-renewed k e zero some left = sym (touched-zero k e some left)
parents-renewed k e (suc l) some left = sym (touched-suc k e l some left)

-- the renewed blocks rise

Rising-renewed : (k : ℕ) (e : Edits) (l : ℕ) → Rising 0 (renewed k e l)
Rising-renewed k e zero = Rising-filter (is_edited e) (length e.working) 0
Rising-renewed k e (suc l) = Rising-filter (is_touched k e l) (level_len k (length e.working) l) 0

pub rising-renewed : (k : ℕ) (e : Edits) (l : ℕ) (children : List Child) → numbers_of children ≡ renewed k e l →
    IsNonDecreasingBy (λ child. child.number) children
rising-renewed k e l children are = rising_children children (subst (Rising 0) (sym are) (Rising-renewed k e l))

-- one touched level more
pub touched_below-more : (k : ℕ) (e : Edits) (l next : ℕ) → next ≡ l + 1 →
    touched_below k e next ≡ touched_below k e l + length (touched k e l)
touched_below-more k e l next is =
    let f : ℕ → ℕ = λ m. length (touched k e m) in
    ap (λ m. sum_by f (range_with_len 0 m)) is
    ∙ ap (λ ls. sum_by f ls) (sym (map-id (range_with_len 0 (l + 1))))
    ∙ sum_by-map-range_with_len_more f (λ x. x) 0 l l (omega arith)
    ∙ ap (λ ls. sum_by f ls + f l) (map-id (range_with_len 0 l))

-- what stood at a level, by cases

pub old-there : (k first n l : ℕ) (r : List ℕ) → l < level_count k n →
    old_level k first n r l ≡ record { start = first + level_start k n l; len = level_len k n l; first = None }
old-there k first n l r below = cond-true (ltb l (level_count k n))
    (record { start = first + level_start k n l; len = level_len k n l; first = None })
    (cond (eqb l (level_count k n)) (record { start = 0; len = 0; first = Some r }) (record { start = 0; len = 0; first = None }))
    (lt-ltb l (level_count k n) below)

pub old-top : (k first n l : ℕ) (r : List ℕ) → l ≡ level_count k n → old_level k first n r l ≡ record { start = 0; len = 0; first = Some r }
old-top k first n l r same =
    cond-false (ltb l (level_count k n)) (record { start = first + level_start k n l; len = level_len k n l; first = None })
    (cond (eqb l (level_count k n)) (record { start = 0; len = 0; first = Some r })
    (record { start = 0; len = 0; first = None })) (le-ltb l (level_count k n) (omega arith))
    ∙ cond-true (eqb l (level_count k n)) (record { start = 0; len = 0; first = Some r })
    (record { start = 0; len = 0; first = None }) (eq-eqb l (level_count k n) same)

pub old-above : (k first n l : ℕ) (r : List ℕ) → level_count k n < l → old_level k first n r l ≡ record { start = 0; len = 0; first = None }
old-above k first n l r more =
    cond-false (ltb l (level_count k n)) (record { start = first + level_start k n l; len = level_len k n l; first = None })
    (cond (eqb l (level_count k n)) (record { start = 0; len = 0; first = Some r })
    (record { start = 0; len = 0; first = None })) (le-ltb l (level_count k n) (omega arith))
    ∙ cond-false (eqb l (level_count k n)) (record { start = 0; len = 0; first = Some r })
    (record { start = 0; len = 0; first = None }) (ne_eqb l (level_count k n) (λ e. absurd (omega arith)))

-- a row of a tree has no more blocks than there are data blocks
few_row : (s : Shape) (l : ℕ) → IsShape s → l < levels_of s → row_len (digests_per_block s) s.blocks l ≤ s.blocks
few_row s zero ok there = omega (arith, row_len-zero (digests_per_block s) s.blocks)
few_row s (suc l) ok there =
    let within = level_within (digests_per_block s) s.blocks l (omega arith) in
    let most = total_few s ok in
    omega arith

-- the level of a change fits the store
pub IsLevel-change : (c : Change) (blocks size digest l : ℕ) → IsChange c blocks size digest → l < levels_of c.new →
    IsLevel (level_of c l) blocks size digest
IsLevel-change c blocks size digest l ok there =
    let k : ℕ = digests_per_block c.old in
    let n : ℕ = c.old.blocks in
    let two : 2 ≤ digests_per_block c.new = branching c.new ok.new_shape in
    let wide : digests_per_block c.new ≡ size / digest = ap (λ b. b / c.new.digest_size) ok.new_size ∙ ap (λ d. size / d) ok.new_digest in
    let w = ok.within in
    record {
      within = ⊎_elim
          (λ below. let e = old-there k c.first n l c.root below in
          let in_tree = level_within k n l below in
          subst (λ (o : OldLevel). o.start + o.len ≤ blocks) (sym e) (omega arith))
          (λ more. ⊎_elim
          (λ same. subst (λ (o : OldLevel). o.start + o.len ≤ blocks) (sym (old-top k c.first n l c.root same)) (omega arith))
          (λ apart. subst (λ (o : OldLevel). o.start + o.len ≤ blocks)
          (sym (old-above k c.first n l c.root (⊎_elim (λ x. x) (λ y. absurd (apart (omega arith)))
          (cases_lt (level_count k n) l)))) (omega arith))
          (cases_eq l (level_count k n)))
          (cases_lt l (level_count k n));
      width = wide;
      room = (let at : digests_per_block c.new * c.new.digest_size ≡ size / digest * digest = (λ i. wide i * ok.new_digest i) in
          let most = div-mul-le_self size digest in omega arith);
      some = omega arith;
      digest_size = ok.new_digest;
      first = ⊎_elim
          (λ below. subst (λ (o : OldLevel). IfSome o.first (λ r. length r ≡ digest)) (sym (old-there k c.first n l c.root below)) tt)
          (λ more. ⊎_elim
          (λ same. subst (λ (o : OldLevel). IfSome o.first (λ r. length r ≡ digest)) (sym (old-top k c.first n l c.root same)) ok.sized)
          (λ apart. subst (λ (o : OldLevel). IfSome o.first (λ r. length r ≡ digest))
          (sym (old-above k c.first n l c.root (⊎_elim (λ x. x) (λ y. absurd (apart (omega arith)))
          (cases_lt (level_count k n) l)))) tt)
          (cases_eq l (level_count k n)))
          (cases_lt l (level_count k n));
      fits =
          let inside = level_within (digests_per_block c.new) c.new.blocks l there in
          let most = total_few c.new ok.new_shape in
          let blocks_few = few c.new ok.new_shape in
          let held = few_row c.new l ok.new_shape there in
          let near = ok.near in
          omega arith;
    }

-- a block above one of a row is one of the next
pub next_within : (k n l : ℕ) (children : List Child) (up : List Child) → 0 < k → AreWithin (row_len k n l) children →
    numbers_of up ≡ parents k (numbers_of children) → AreWithin (row_len k n (suc l)) up
next_within k n l children up some within are c below =
    let long : length (numbers_of up) ≡ length up = length-map up (λ x. x.number) in
    let inside : c < length (numbers_of up) = omega arith in
    let at : get_or (numbers_of up) c 0 ≡ (child_at up c).number = get_or-map (λ x. x.number) up c nobody 0 below in
    let P : List ℕ → Type 0 = λ ns. Has ns (get_or (numbers_of up) c 0) in
    let has = subst P are (get_has (numbers_of up) c inside) in
    let r = have_parents k (numbers_of children) (get_or (numbers_of up) c 0) has in
    let child = has_number children r.0 r.1 in
    let low : r.0 < row_len k n l = (let w = within child.0 child.1 in let same = child.2 in omega arith) in
    let next : r.0 / k < div_ceil (row_len k n l) k = quotient_below (row_len k n l) k r.0 some low in
    let same = r.2 in
    rw (row_len-suc k n l some) (omega arith)

-- what a level is made from: the old digests, and how the new ones differ
pub record IsReady (h : Hashing) (level : OldLevel) (content new : List (List ℕ)) (children : List Child) : Type 0 where
  pub old : List (List ℕ)
  pub holds : Holds h old level content
  pub renews : Renews h.digest_size old new children

renews_row : (h : Hashing) (e : Edits) (l : ℕ) (children : List Child) → IsHashing h → KeepsUnchanged e → 0 < length e.working →
    numbers_of children ≡ renewed (per_block h) e l
    → AreNamed (λ j. get_or (digests_of h e.working l) j []) children
    → Renews h.digest_size (digests_of h e.committed l) (digests_of h e.working l) children
renews_row h e zero children ok kept left are named =
    renews_data h e children ok kept left are named (rising-renewed (per_block h) e zero children are)
renews_row h e (suc l) children ok kept left are named =
    renews_level h e l children ok kept are named (rising-renewed (per_block h) e (suc l) children are)

ready_above : (h : Hashing) (e : Edits) (first l : ℕ) (content : List (List ℕ)) (r : List ℕ) (children : List Child) → IsHashing h →
    KeepsUnchanged e
    → level_count (per_block h) (length e.committed) < l → l < level_count (per_block h) (length e.working)
    → numbers_of children ≡ renewed (per_block h) e l → AreNamed (λ j. get_or (digests_of h e.working l) j []) children
    → Renews h.digest_size [] (digests_of h e.working l) children
ready_above h e first zero content r children ok kept more there are named = absurd (omega arith)
ready_above h e first (suc l) content r children ok kept more there are named =
    let k : ℕ = per_block h in
    let m : ℕ = length e.committed in
    let two : 2 ≤ k = ok.branching in
    let enough = IsLevelCount-level_count k m two in
    let wide : k ^ level_count k m ≤ k ^ l = pow-le-pow_right (omega arith) (omega arith) in
    let far = enough.enough in
    let grown : m < length e.working = ⊎_elim (λ x. x) (λ y. let less = level_count-mono k (length e.working) m two y in
    absurd (omega arith)) (cases_lt m (length e.working)) in
    renews_above h e l children ok kept are (omega arith) grown named (rising-renewed k e (suc l) children are)

pub ready : (h : Hashing) (e : Edits) (first l : ℕ) (content : List (List ℕ)) (r : List ℕ) (children : List Child) → IsHashing h →
    KeepsUnchanged e → 0 < length e.committed → 0 < length e.working
    → BeginsWith (drop first content) (tree h e.committed) → r ≡ root h e.committed
    → l < level_count (per_block h) (length e.working)
    → numbers_of children ≡ renewed (per_block h) e l → AreNamed (λ j. get_or (digests_of h e.working l) j []) children
    → IsReady h (old_level (per_block h) first (length e.committed) r l) content (digests_of h e.working l) children
ready h e first l content r children ok kept some left stands is there are named =
    let k : ℕ = per_block h in
    let n : ℕ = length e.committed in
    let two : 2 ≤ k = ok.branching in
    ⊎_elim
    (λ below. record {
      old = digests_of h e.committed l;
      holds = subst (λ (o : OldLevel). Holds h (digests_of h e.committed l) o content) (sym (old-there k first n l r below))
          (holds_level h e.committed content first l two stands below);
      renews = renews_row h e l children ok kept left are named;
    })
    (λ more. ⊎_elim
    (λ same. record {
      old = digests_of h e.committed l;
      holds =
          let top : Holds h (digests_of h e.committed (level_count k n))
          (record { start = 0; len = 0; first = Some (root h e.committed) }) content = holds_root h e.committed content two some in
          let at : Holds h (digests_of h e.committed l) (record { start = 0; len = 0; first = Some (root h e.committed) }) content =
          subst (λ (m : ℕ). Holds h (digests_of h e.committed m)
          (record { start = 0; len = 0; first = Some (root h e.committed) }) content) (sym same) top in
          let with_root : Holds h (digests_of h e.committed l) (record { start = 0; len = 0; first = Some r }) content =
          subst (λ (q : List ℕ). Holds h (digests_of h e.committed l) (record { start = 0; len = 0; first = Some q }) content)
          (sym is) at in
          subst (λ (o : OldLevel). Holds h (digests_of h e.committed l) o content) (sym (old-top k first n l r same)) with_root;
      renews = renews_row h e l children ok kept left are named;
    })
    (λ apart.
    let above : level_count k n < l = ⊎_elim (λ x. x) (λ y. absurd (apart (omega arith))) (cases_lt (level_count k n) l) in
    record {
      old = [];
      holds = subst (λ (o : OldLevel). Holds h [] o content) (sym (old-above k first n l r above)) (holds_none h content);
      renews = ready_above h e first l content r children ok kept above there are named;
    })
    (cases_eq l (level_count k n)))
    (cases_lt l (level_count k n))

-- the digests of a level that was made name it
each_made : (h : Hashing) (e : Edits) (l : ℕ) (ns : List ℕ) → (c : ℕ) → c < length (made_digests h (digests_of h e.working l) ns)
    → (child_at (made_digests h (digests_of h e.working l) ns) c).digest ≡ h.digest
    (block_at h e.working (suc l) (child_at (made_digests h (digests_of h e.working l) ns) c).number)
each_made h e l [] c below = absurd (omega arith)
each_made h e l (n ∷ ns) zero below = refl
each_made h e l (n ∷ ns) (suc c) below = each_made h e l ns c (omega arith)

pub named_next : (h : Hashing) (e : Edits) (l : ℕ) (ns : List ℕ) (next : List Child) → next ≡ made_digests h (digests_of h e.working l) ns
    → ((c : ℕ) → c < length next → (child_at next c).number < length (row h e.working (suc l)))
    → AreNamed (λ j. get_or (digests_of h e.working (suc l)) j []) next
named_next h e l ns next is within = record {
  each = λ c below.
      let P : List Child → Type 0 = λ xs. (d : ℕ) → d < length xs →
      (child_at xs d).digest ≡ h.digest (block_at h e.working (suc l) (child_at xs d).number) in
      subst P (sym is) (each_made h e l ns) c below
      ∙ sym (get_or-map h.digest (row h e.working (suc l)) (child_at next c).number [] [] (within c below));
}

no_parents : (k : ℕ) (ns : List ℕ) → parents k ns ≡ [] → ns ≡ []
no_parents k [] e = refl
no_parents k (n ∷ ns) e =
    let h : Has (parents k (n ∷ ns)) (n / k) = parents_have k (n ∷ ns) n (inl refl) in
    let P : List ℕ → Type 0 = λ xs. Has xs (n / k) in
    absurd (subst P e h)

-- nothing is touched at the top only where nothing was edited
none_edited : (k : ℕ) (e : Edits) (l : ℕ) → 0 < k → 0 < length e.working → renewed k e l ≡ [] → edited_blocks e ≡ []
none_edited k e zero some left none = none
none_edited k e (suc l) some left none =
    none_edited k e l some left (no_parents k (renewed k e l) (parents-renewed k e l some left ∙ none))

-- an image without edits is the committed one
pub working_is : (e : Edits) → KeepsUnchanged e → 0 < length e.working → edited_blocks e ≡ [] → e.working ≡ e.committed
working_is e kept left none =
    let n : ℕ = length e.working in
    let P : ℕ → List ℕ → Type 0 = λ b xs. Has xs b in
    let free : (b : ℕ) → b < n → is_edited e b ≡ true → ⊥ =
    λ b below t. subst (P b) none (filter_has (is_edited e) n 0 b (record { low = omega arith; high = omega arith; passes = t })) in
    let plain : (b : ℕ) → b < n → e.changed b ≡ false =
    λ b below. false_from_ne_true (e.changed b) (λ t. free b below (or_left (e.changed b) (has_fallen e && eqb b (n - 1)) t)) in
    let last = kept (n - 1) (omega arith) (plain (n - 1) (omega arith)) in
    let low = last.0 in
    let same : n ≡ length e.committed = ⊎_elim
    (λ fell. absurd (free (n - 1) (omega arith) (or_right (e.changed (n - 1)) (has_fallen e && eqb (n - 1) (n - 1))
    (and_from (has_fallen e) (eqb (n - 1) (n - 1)) (lt-ltb n (length e.committed) fell) (eq-eqb (n - 1) (n - 1) refl)))))
    (λ stays. omega arith) (cases_lt n (length e.committed)) in
    ext_get_or [] e.working e.committed same (λ b below. (kept b below (plain b below)).1)

-- the one child that is left at the top has the root
pub top_is_root : (h : Hashing) (e : Edits) (children : List Child) → 2 ≤ per_block h → 0 < length e.working → 0 < length children
    → AreWithin (row_len (per_block h) (length e.working) (level_count (per_block h) (length e.working))) children
    → AreNamed (λ j. get_or (digests_of h e.working (level_count (per_block h) (length e.working))) j []) children
    → (child_at children 0).digest ≡ root h e.working
top_is_root h e children two left some within named =
    let k : ℕ = per_block h in
    let n : ℕ = length e.working in
    let L : ℕ = level_count k n in
    let one = row_len_top k n two left in
    let first : (child_at children 0).number ≡ 0 = (let w = within 0 some in omega arith) in
    let long : length (row h e.working L) ≡ 1 = length-row h e.working L (omega arith) ∙ one in
    named.each 0 some
    ∙ ap (λ j. get_or (digests_of h e.working L) j []) first
    ∙ get_or-map h.digest (row h e.working L) 0 [] [] (omega arith)
    ∙ sym (root-row h e.working two left)

pub no_child : (h : Hashing) (e : Edits) (l : ℕ) (children : List Child) → 0 < per_block h → KeepsUnchanged e →
    0 < length e.working → numbers_of children ≡ renewed (per_block h) e l → children ≡ [] → root h e.committed ≡ root h e.working
no_child h e l children some kept left are none =
    let empty : renewed (per_block h) e l ≡ [] = sym are ∙ ap numbers_of none in
    ap (root h) (sym (working_is e kept left (none_edited (per_block h) e l some left empty)))

pub if_ok : {T E : Type 0} (r : Result T E) (P Q : T → Type 0) → ((x : T) → P x → Q x) → IfOk r P → IfOk r Q
if_ok (Ok x) P Q f h = f x h
if_ok (Err e) P Q f h = tt

-- what a level of a change is made from
pub ready_change : (h : Hashing) (c : Change) (e : Edits) (blocks size digest l : ℕ) (content : List (List ℕ))
    (leaves children : List Child) → IsHashing h → h.block_size ≡ size → h.digest_size ≡ digest
    → IsChange c blocks size digest → IsEdited e c.old.blocks c.new.blocks leaves → StandsFor h e c.first content c.root leaves
    → l < levels_of c.new → numbers_of children ≡ renewed (digests_per_block c.new) e l →
    AreNamed (λ j. get_or (digests_of h e.working l) j []) children
    → IsReady h (level_of c l).old content (digests_of h e.working l) children
ready_change h c e blocks size digest l content leaves children ok block_size digest_size change ed stands there are named =
    let old_width : per_block h ≡ digests_per_block c.old =
    (λ i. (block_size ∙ sym change.old_size) i / (digest_size ∙ sym change.old_digest) i) in
    let new_width : per_block h ≡ digests_per_block c.new =
    (λ i. (block_size ∙ sym change.new_size) i / (digest_size ∙ sym change.new_digest) i) in
    let count : level_count (per_block h) (length e.working) ≡ levels_of c.new = (λ i. level_count (new_width i) (ed.working i)) in
    let some : 0 < length e.committed = (let s = ed.some in let m = ed.committed in omega arith) in
    let left : 0 < length e.working = (let s = ed.left in let n = ed.working in omega arith) in
    let r = ready h e c.first l content c.root children ok ed.kept some left stands.tree stands.root (omega arith) (are
    ∙ ap (λ k. renewed k e l) (sym new_width)) named in
    subst (λ (o : OldLevel). IsReady h o content (digests_of h e.working l) children)
    (λ i. old_level (old_width i) c.first (ed.committed i) c.root l) r

-- the leaves name the digests of the image
pub named_leaves : (h : Hashing) (e : Edits) (n : ℕ) (leaves : List Child) → length e.working ≡ n → AreWithin n leaves →
    AreNamed (λ j. h.digest (get_or e.working j [])) leaves → AreNamed (λ j. get_or (digests_of h e.working 0) j []) leaves
named_leaves h e n leaves len within named = record {
  each = λ c below.
      let w = within c below in
      let inside : (child_at leaves c).number < length e.working = omega arith in
      named.each c below ∙ sym (get_or-map h.digest e.working (child_at leaves c).number [] [] inside);
}

pub touched_below-le : (k : ℕ) (e : Edits) (t a : ℕ) → touched_below k e a ≤ touched_below k e (a + t)
touched_below-le k e zero a = (let z : a + 0 ≡ a = omega arith in let s = ap (touched_below k e) z in omega arith)
touched_below-le k e (suc t) a =
    let rest = touched_below-le k e t a in
    let more = touched_below-more k e (a + t) (a + suc t) (omega arith) in
    omega arith

pub touched_below-mono : (k : ℕ) (e : Edits) (a b : ℕ) → a ≤ b → touched_below k e a ≤ touched_below k e b
touched_below-mono k e a b le =
    let at : a + (b - a) ≡ b = omega arith in
    subst (λ (m : ℕ). touched_below k e a ≤ touched_below k e m) at (touched_below-le k e (b - a) a)

-- the digest that is left is the root of the working image
pub finish : (h : Hashing) (c : Change) (e : Edits) (blocks size digest l : ℕ) (content : List (List ℕ))
    (leaves children : List Child) (top : List ℕ) → IsHashing h → h.block_size ≡ size → h.digest_size ≡ digest
    → IsChange c blocks size digest → IsEdited e c.old.blocks c.new.blocks leaves → StandsFor h e c.first content c.root leaves
    → l ≡ levels_of c.new → AreWithin (row_len (digests_per_block c.new) c.new.blocks l) children
    → numbers_of children ≡ renewed (digests_per_block c.new) e l → AreNamed (λ j. get_or (digests_of h e.working l) j []) children
    → (0 < length children → top ≡ (child_at children 0).digest) → (length children ≡ 0 → top ≡ c.root)
    → top ≡ root h e.working
finish h c e blocks size digest l content leaves children top ok block_size digest_size change ed stands at within are named some none =
    let k : ℕ = digests_per_block c.new in
    let width : k ≡ per_block h = sym (λ i. (block_size ∙ sym change.new_size) i / (digest_size ∙ sym change.new_digest) i) in
    let count : l ≡ level_count (per_block h) (length e.working) = at ∙ (λ i. level_count (width i) (sym ed.working i)) in
    let two = ok.branching in
    let left : 0 < length e.working = (let s = ed.left in let n = ed.working in omega arith) in
    ⊎_elim
    (λ more.
    some more
    ∙ top_is_root h e children two left more
    (subst (λ (n : ℕ). AreWithin n children) (λ i. row_len (width i) (sym ed.working i) (count i)) within)
    (subst (λ (m : ℕ). AreNamed (λ j. get_or (digests_of h e.working m) j []) children) count named))
    (λ z.
    let empty : length children ≡ 0 = omega arith in
    none empty ∙ stands.root ∙ no_child h e l children (omega arith) ed.kept left (are ∙ ap (λ w. renewed w e l) width)
    (nil_from_length children empty))
    (cases_lt 0 (length children))

-- one level more of the plan
pub touched_blocks-more : (h : Hashing) (e : Edits) (first k n l next : ℕ) (old : List Planned) → per_block h ≡ k → next ≡ l + 1 →
    old ≡ touched_blocks h e first n l
    → old ++ made_blocks h (digests_of h e.working l) (first + level_start k n l) (touched k e l) ≡ touched_blocks h e first n next
touched_blocks-more h e first k n l next old width is before =
    let at : next ≡ suc l = omega arith in
    (λ i. before i ++ made_blocks h (digests_of h e.working l) (first + level_start (sym width i) n l) (touched (sym width i) e l))
    ∙ ap (touched_blocks h e first n) (sym at)

pub touched_places-more : (k : ℕ) (e : Edits) (first n l next : ℕ) (old : List ℕ) → next ≡ l + 1 → old ≡ touched_places k e first n l
    → old ++ map (λ i. first + level_start k n l + i) (touched k e l) ≡ touched_places k e first n next
touched_places-more k e first n l next old is before =
    let at : next ≡ suc l = omega arith in
    ap (λ ps. ps ++ map (λ i. first + level_start k n l + i) (touched k e l)) before ∙ ap (touched_places k e first n) (sym at)

-- the renewed blocks of the next level
pub renewed-more : (k : ℕ) (e : Edits) (l next : ℕ) → next ≡ l + 1 → touched k e l ≡ renewed k e next
renewed-more k e l next is = let at : suc l ≡ next = omega arith in ap (renewed k e) at
