-- How many blocks a plan under a table line reads: those of the old tree above edited blocks, each once.
use Rattle.std.proofs.Common.{◌≡◌, ℕ, zero, suc, ◌+◌, ◌/◌, ◌<◌, ◌≤◌, Bool, true, List, [], ◌++◌, length, map, Contains}
use Rattle.std.proofs.Common.{None, ⊎_elim, refl, sym, ap, ◌∙◌, subst, arith}
use Rattle.std.specs.Prelude.{sum_by}
use Rattle.std.specs.List.{filter, range_with_len}
use Rattle.std.proofs.lemmas.Bool.{cases_lt}
use Rattle.std.proofs.lemmas.List.{length-map, get_or-map, length-append}
use Rattle.std.proofs.lemmas.List.Elements.{Contains-append_left, Contains-append_right}
use Rattle.verity_digest.specs.Hash.{size_of}
use Rattle.verity_digest.specs.Shape.{level_count, level_len, place}
use Rattle.verity_geometry.specs.Geometry.{digests_per_block}
use Rattle.verity_store.specs.declared.store.BlockStore as store
use Rattle.verity_superblock.specs.Superblock.{Volume}
use Rattle.verity_chain.specs.Table.{Table, branching, height, row_len, hash_place}
use Rattle.verity_chain.specs.Notes.{IsAmong, AsksWithin}
use Rattle.verity_chain.specs.Origin.{facts_of, rows_of}
use Rattle.verity_chain.specs.Checked.{Checking, IsChecking, AsksOnly, Covers, bound_to}
use Rattle.verity_chain.proofs.NoteLaws.{same_level, same_index}
use Rattle.verity_chain.proofs.CheckedLemmas.{few_reads}
use Rattle.verity_pending.specs.Edits.{Edits}
use Rattle.verity_pending.specs.Draft.{Draft, edits_of}
use Rattle.verity_pending.specs.Touched.{is_touched}
use Rattle.verity_plan.specs.Making.{IsTouchedPlace}
use Rattle.verity_plan.specs.Planning.{volume_shape, change_of, GivesTouched, ReadsPaths}
use Rattle.verity_trusted.specs.Under.{IsLineFor}
use Rattle.verity_plan.proofs.Sums.{sum_more}
use Rattle.verity_pending.proofs.ParentLemmas.{filter_has}
use Rattle.verity_plan.proofs.TouchedLemmas.{has_contains, touched_upward}
use Rattle.verity_pending.proofs.Drafts.{length-working}
use Rattle.verity_trusted.proofs.UnderLemmas.{same_table, was_then}

contains_map : (f : ℕ → ℕ) (xs : List ℕ) (i : ℕ) → Contains xs i → Contains (map f xs) (f i)
contains_map f xs i has =
    let len = length-map xs f in
    let below = has.1 in
    (has.0, omega arith, get_or-map f xs has.0 i (f i) below ∙ ap f has.2)

-- the indexes of a level that are in a set of places, the numbers of those of the first levels, and how many these are
abbrev members : (ℕ → ℕ → Bool) → ℕ → ℕ → ℕ → List ℕ
members set k n l = filter (set l) (range_with_len 0 (level_len k n l))

abbrev places_of : Table → (ℕ → ℕ → Bool) → ℕ → List ℕ
places_of t set zero = []
places_of t set (suc l) = places_of t set l ++ map (λ i. hash_place t l i) (members set (branching t) t.data_blocks l)

abbrev count_of : (ℕ → ℕ → Bool) → ℕ → ℕ → ℕ → ℕ
count_of set k n m = sum_by (λ l. length (members set k n l)) (range_with_len 0 m)

length-places : (t : Table) (set : ℕ → ℕ → Bool) (m : ℕ) → length (places_of t set m) ≡ count_of set (branching t) t.data_blocks m
length-places t set zero = refl
length-places t set (suc l) =
    let k : ℕ = branching t in
    let here : List ℕ = members set k t.data_blocks l in
    let at : ℕ → ℕ = λ i. hash_place t l i in
    let rest = length-places t set l in
    let both = length-append (places_of t set l) (map at here) in
    let one = length-map here at in
    let more = sum_more (λ j. length (members set k t.data_blocks j)) l in
    omega arith

among_places : (t : Table) (set : ℕ → ℕ → Bool) (n m : ℕ) (a : IsAmong t set n) → a.level < m → Contains (places_of t set m) n
among_places t set n zero a low = absurd (omega (arith, low))
among_places t set n (suc l) a low =
    let here : List ℕ = map (λ i. hash_place t l i) (members set (branching t) t.data_blocks l) in
    ⊎_elim
    (λ less. Contains-append_left (places_of t set l) here n (among_places t set n l a less))
    (λ no.
    let at : a.level ≡ l = omega (arith, low, no) in
    let inside : a.index < level_len (branching t) t.data_blocks l =
    subst (λ j. a.index < level_len (branching t) t.data_blocks j) at a.is_index in
    let passes : set l a.index ≡ true = subst (λ j. set j a.index ≡ true) at a.among in
    let is : hash_place t l a.index ≡ n = subst (λ j. hash_place t j a.index ≡ n) at a.place in
    let member : Contains (members set (branching t) t.data_blocks l) a.index =
    has_contains (members set (branching t) t.data_blocks l) a.index (filter_has (set l) (level_len (branching t) t.data_blocks l) 0 a.index
    (record { low = omega arith; high = omega (arith, inside); passes = passes })) in
    Contains-append_right (places_of t set l) here n
    (subst (Contains here) is (contains_map (λ i. hash_place t l i) (members set (branching t) t.data_blocks l) a.index member)))
    (cases_lt a.level l)

-- the same place in the words of the table line
touched_within : (t : Table) (v : Volume) (first : ℕ) (old_root : List ℕ) (count : ℕ) (e : Edits) (n : ℕ) → IsLineFor t v first old_root
    → IsTouchedPlace (change_of v first old_root count) e n → AsksWithin t (is_touched (branching t) e) n
touched_within t v first old_root count e n line p l i there inside at =
    let width : digests_per_block (volume_shape v.params v.data_blocks) ≡ branching t =
    λ j. sym line.hash_block_size j / size_of (sym line.algorithm j) in
    let blocks : v.data_blocks ≡ t.data_blocks = sym line.data_blocks in
    let is : n ≡ hash_place t p.level p.index = p.is ∙ (λ j. sym line.start j + place (width j) (blocks j) p.level p.index) in
    let p_there : p.level < height t = subst (λ m. p.level < m) (λ j. level_count (width j) (blocks j)) p.there in
    let p_inside : p.index < row_len t (suc p.level) = subst (λ m. p.index < m) (λ j. level_len (width j) (blocks j) p.level) p.inside in
    let passes : is_touched (branching t) e p.level p.index ≡ true = subst (λ w. is_touched w e p.level p.index ≡ true) width p.touched in
    let same : hash_place t p.level p.index ≡ hash_place t l i = sym is ∙ sym at in
    let l_is : p.level ≡ l = same_level t p.level l p.index i p_there there p_inside inside same in
    let i_is : p.index ≡ i = same_index t p.level l p.index i l_is same in
    (λ j. is_touched (branching t) e (sym l_is j) (sym i_is j)) ∙ passes

module _ {H : Type 0} (hash : store.Ghosts H) (t : Table) (h : H) (new : Checking H) (is : IsChecking hash new)
    (bound : bound_to new.table new.origin ≡ bound_to t (rows_of (facts_of hash h))) (v : Volume) (d : Draft) (first : ℕ)
    (old_root : List ℕ) (line : IsLineFor t v first old_root) (count : v.data_blocks ≡ d.committed) (some : 1 ≤ d.working)
    (gives : GivesTouched v d first old_root [] new.given) where
  asks_only : (image : List (List ℕ)) → length image ≡ d.committed → AsksOnly t (is_touched (branching t) (edits_of image d)) new.given
  asks_only image len = (
    λ l i touched. touched_upward (branching t) (edits_of image d) l i (let w = length-working image d in omega arith) touched,
    λ n block has. ⊎_elim (λ before. absurd (omega (arith, before.1)))
        (touched_within t v first old_root d.working (edits_of image d) n line) (gives image len n block has),
  )

  reads_then : (image : List (List ℕ)) → length image ≡ d.committed
      → let places = places_of t (is_touched (branching t) (edits_of image d)) (height t) in
      (new.refusal ≡ None → hash.reads new.hash_store ≤ is.was.reads + length places)
      × (hash.reads new.hash_store ≤ is.was.reads + length places + height new.table)
  reads_then image len =
      let set : ℕ → ℕ → Bool = is_touched (branching t) (edits_of image d) in
      let places : List ℕ = places_of t set (height t) in
      let P : Table → Type 0 = λ u. AsksOnly u set new.given × Covers u set places in
      let both : P new.table = subst P (sym (same_table hash t h new is bound))
      (asks_only image len, λ n a. among_places t set n (height t) a a.is_level) in
      few_reads hash new is set places both.0 both.1

  few_places : (image : List (List ℕ)) → length image ≡ d.committed
      → length (places_of t (is_touched (branching t) (edits_of image d)) (height t))
      ≡ count_of (is_touched (digests_per_block (volume_shape v.params d.working)) (edits_of image d))
      (digests_per_block (volume_shape v.params d.working)) (length image)
      (level_count (digests_per_block (volume_shape v.params d.working)) (length image))
  few_places image len =
      let e : Edits = edits_of image d in
      let width : branching t ≡ digests_per_block (volume_shape v.params d.working) =
      λ j. line.hash_block_size j / size_of (line.algorithm j) in
      let blocks : t.data_blocks ≡ length image = line.data_blocks ∙ count ∙ sym len in
      length-places t (is_touched (branching t) e) (height t)
      ∙ (λ j. count_of (is_touched (width j) e) (width j) (blocks j) (level_count (width j) (blocks j)))

  -- where no read was refused
  pub reads_paths : new.refusal ≡ None → ReadsPaths v d 0 (hash.reads h) (hash.reads new.hash_store)
  reads_paths none image len =
      let most = (reads_then image len).0 none in
      let few = few_places image len in
      let was = ap (λ w. w.reads) (was_then hash t h new is bound) in
      omega arith

  -- and where one was
  pub reads_most : ReadsPaths v d (height t) (hash.reads h) (hash.reads new.hash_store)
  reads_most image len =
      let most = (reads_then image len).1 in
      let few = few_places image len in
      let was = ap (λ w. w.reads) (was_then hash t h new is bound) in
      let high = ap height (same_table hash t h new is bound) in
      omega arith
