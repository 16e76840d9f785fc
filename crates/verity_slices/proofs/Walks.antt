-- The blocks of level 0 come to the tree above it, a run at a time.
use Rattle.std.proofs.Common.{◌≡◌, ℕ, ◌+◌, ◌-◌, ◌*◌, ◌<◌, ◌≤◌, inl, inr, List, [], ◌∷◌, ◌++◌, length, take, drop, get_or, true}
use Rattle.std.proofs.Common.{refl, sym, ap, ◌∙◌, subst, arith}
use Rattle.std.specs.Prelude.{Option, None}
use Rattle.std.specs.Fork.{slice_chunk}
use Rattle.std.proofs.Math.Nat.{mul-le-mul_right, add-mul}
use Rattle.std.proofs.lemmas.Bool.{cases_lt}
use Rattle.std.proofs.lemmas.List.{get_or_append_left, get_or-append-add, length-append}
use Rattle.verity_digest.specs.Tree.{Hashing, tree}
use Rattle.verity_digest.proofs.Sized.{length-run}
use Rattle.verity_geometry.specs.Geometry.{Shape}
use Rattle.verity_store.specs.Blocks.{cut}
use Rattle.verity_store.specs.Given.{GoesOn, GaveSince, run_of}
use Rattle.verity_store.proofs.BlockLemmas.{length-cut, get_or-cut}
use Rattle.verity_store.proofs.GivenLemmas.{goes_on_same}
use Rattle.verity_store.proofs.RunLemmas.{since_run, goes_on_more}
use Rattle.verity_store.specs.declared.store.BlockStore as store
use Rattle.verity_tree.specs.Open.{Open}
use Rattle.verity_tree.specs.Climb.{open_at, AreEmpty}
use Rattle.verity_build.specs.Progress.{IsRight}
use Rattle.verity_build.specs.Device.{AreStored}
use Rattle.verity_build.proofs.Rightly.{right_empty}
use Rattle.verity_slices.specs.Given.{AreGivenFrom}
use Rattle.verity_slices.specs.Taking.{AreDigests}
use Rattle.verity_slices.specs.Walked.{Walked, IsLevel}
use Rattle.verity_slices.proofs.Givens.{given_nothing, given_on, given_then}

-- a block of a run has its size
length_chunk : (run : List ℕ) (size j count : ℕ) → length run ≡ count * size → j < count → length (slice_chunk run size j) ≡ size
length_chunk run size j count whole below =
    let next : j + 1 ≤ count = omega (arith, below) in
    let fits : (j + 1) * size ≤ count * size = mul-le-mul_right size next in
    let more : (j + 1) * size ≡ j * size + 1 * size = add-mul j 1 size in
    let least = length-run run size j in
    omega (arith, least, whole, fits, more)

module _ {S : Type 0} (facts : store.Ghosts S) (old : S) (s : Shape) (start level : ℕ) (h : Hashing) where
  -- none yet
  pub walked_none : (opens : List Open) (top : Option (List ℕ)) → AreEmpty opens → top ≡ None
      → Walked facts old old s start level 0 h opens top
  walked_none opens top empty none = record {
    made = [];
    len = refl;
    given = given_nothing facts old old level;
    real = λ tells j below. absurd (omega (arith, below));
    right = λ image count same. subst (λ r. IsRight h image opens r) (sym none) (right_empty h image opens empty);
    stored = λ tells image count same l i there below. let zeros = (empty l there).1 in absurd (omega (arith, below, zeros));
  }

  -- a run of blocks that were read and hashed, and whose digests came
  pub walked_more : (now mid new : S) (n count size : ℕ) (run : List ℕ) (digests : List (List ℕ)) (opens opens' : List Open)
      (top top' : Option (List ℕ))
      → length digests ≡ count
      → ((j : ℕ) → j < count → get_or digests j [] ≡ h.digest (slice_chunk run size j))
      → facts.size old ≡ size → length run ≡ count * size
      → facts.given mid ≡ facts.given now ++ run_of (level + n) size count run → facts.given new ≡ facts.given mid
      → length (facts.given old) ≤ length (facts.given now)
      → (facts.tells old ≡ true → (j : ℕ) → j < count → get_or (facts.content old) (level + (n + j)) [] ≡ slice_chunk run size j)
      → ((image : List (List ℕ)) → length image ≡ s.blocks → AreDigests h image n digests → IsRight h image opens top
      → IsRight h image opens' top')
      → (facts.tells old ≡ true → (image : List (List ℕ)) → length image ≡ s.blocks → AreDigests h image n digests
      → IsRight h image opens top → AreStored s start (tree h image) opens (facts.content now)
      → AreStored s start (tree h image) opens' (facts.content new))
      → Walked facts old now s start level n h opens top → Walked facts old new s start level (n + count) h opens' top'
  walked_more now mid new n count size run digests opens opens' top top' many hashed sized long gave same_given mark real right stored w =
      record {
        made = w.made ++ cut size count run;
        len = omega (arith, w.len, length-append w.made (cut size count run), length-cut size count run);
        given = given_then facts old new level w.made (cut size count run)
            (given_on facts old now new level w.made on w.given)
            (subst (λ m. AreGivenFrom facts old new (level + m) (cut size count run)) (sym w.len) given_run);
        real = λ tells j below. elim (cases_lt j n) [
          | inl early ↦ before j early ∙ w.real tells j early
          | inr late ↦
              let at : n + (j - n) ≡ j = omega (arith, late) in
              let inside : j - n < count = omega (arith, late, below) in
              ap (λ m. get_or (w.made ++ cut size count run) m []) (sym at) ∙ here (j - n) inside ∙ sym (real tells (j - n) inside)
              ∙ ap (λ m. get_or (facts.content old) (level + m) []) at
        ];
        right = λ image all same. right image all (digests_of image same) (w.right image all (earlier image same));
        stored = λ tells image all same. stored tells image all (digests_of image same) (w.right image all (earlier image same))
            (w.stored tells image all (earlier image same));
      } where
        before : (j : ℕ) → j < n → get_or (w.made ++ cut size count run) j [] ≡ get_or w.made j []
        before j early = get_or_append_left w.made (cut size count run) [] j (omega (arith, early, w.len))

        here : (j : ℕ) → j < count → get_or (w.made ++ cut size count run) (n + j) [] ≡ slice_chunk run size j
        here j below =
            let at : n + j ≡ length w.made + j = omega (arith, w.len) in
            ap (λ m. get_or (w.made ++ cut size count run) m []) at ∙ get_or-append-add w.made (cut size count run) j []
            ∙ get_or-cut size count run j below

        earlier : (image : List (List ℕ)) → ((j : ℕ) → j < n + count → get_or image j [] ≡ get_or (w.made ++ cut size count run) j [])
            → (j : ℕ) → j < n → get_or image j [] ≡ get_or w.made j []
        earlier image same j early = same j (omega (arith, early)) ∙ before j early

        digests_of : (image : List (List ℕ)) → ((j : ℕ) → j < n + count → get_or image j [] ≡ get_or (w.made ++ cut size count run) j [])
            → AreDigests h image n digests
        digests_of image same j below =
            let inside : j < count = omega (arith, below, many) in
            hashed j inside ∙ ap h.digest (sym (same (n + j) (omega (arith, inside)) ∙ here j inside))

        on : GoesOn (facts.given now) (facts.given new)
        on = subst (λ rows. GoesOn (facts.given now) rows) (sym same_given)
            (goes_on_more (facts.given now) (facts.given mid) (run_of (level + n) size count run) gave)

        given_run : AreGivenFrom facts old new (level + n) (cut size count run)
        given_run = record {
          sized = λ j below.
              let inside : j < count = omega (arith, below, length-cut size count run) in
              ap length (get_or-cut size count run j inside) ∙ length_chunk run size j count long inside ∙ sym sized;
          gave = λ j below.
              let inside : j < count = omega (arith, below, length-cut size count run) in
              subst (λ y. GaveSince (facts.given new) (length (facts.given old)) (level + n + j) y)
              (sym (get_or-cut size count run j inside))
              (subst (λ rows. GaveSince rows (length (facts.given old)) (level + n + j) (slice_chunk run size j)) (sym (same_given ∙ gave))
              (since_run (facts.given now) (length (facts.given old)) (level + n) size count run mark j inside));
        }

  -- all of them
  pub walked_given : (now : S) (n : ℕ) (opens : List Open) (top : Option (List ℕ)) → n ≡ s.blocks
      → Walked facts old now s start level n h opens top
      → (made : List (List ℕ)) × (length made ≡ s.blocks) × AreGivenFrom facts old now level made × IsRight h made opens top
  walked_given now n opens top all w = (w.made, w.len ∙ all, w.given, w.right w.made (w.len ∙ all) (λ j below. refl))

  pub walked_level : (now : S) (n : ℕ) (opens : List Open) (top : Option (List ℕ)) (image : List (List ℕ)) → n ≡ s.blocks
      → facts.tells old ≡ true → IsLevel level s.blocks (facts.content old) image → Walked facts old now s start level n h opens top
      → IsRight h image opens top × AreStored s start (tree h image) opens (facts.content now)
  walked_level now n opens top image all tells stands w =
      let same : (j : ℕ) → j < n → get_or image j [] ≡ get_or w.made j [] =
      λ j below. stands.each j (omega (arith, below, all)) ∙ sym (w.real tells j below) in
      (w.right image stands.len same, w.stored tells image stands.len same)
