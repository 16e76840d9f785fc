use Rattle.std.proofs.Common.{◌≡◌, ℕ, ◌+◌, ◌-◌, ◌/◌, ◌<◌, ◌≤◌, ◌⊎◌, inl, inr, ◌++◌, ◌∷◌, List, length, refl, sym, ap, ◌∙◌, arith}
use Rattle.std.proofs.lemmas.Bool.{cases_lt}
use Rattle.verity_digest.specs.Hash.{Salted, hashing}
use Rattle.verity_digest.specs.Tree.{Hashing, root, tree}
use Rattle.verity_digest.specs.Rows.{row}
use Rattle.verity_geometry.specs.Geometry.{Shape, levels_of, total_of, start_of}
use Rattle.verity_superblock.specs.Image.{hash_blocks, superblock_block}
use Rattle.verity_superblock.specs.Superblock.{Params}
use Rattle.verity_build.specs.Parameters.{salted_by, volume, shape_over, front}
use Rattle.verity_slices.specs.Joins.{device_over}
use Rattle.verity_slices.proofs.Orders.{front_all, level_is}
use Rattle.verity_slices.proofs.Uppers.{parts_tree, parts_root}
use Rattle.verity_slices.proofs.laws.slices_build.Goals as goal

pub returns : goal.returns
returns c p data_size hash_size offset image made told old now new digest shaped slices among joins =
    let s : Shape = shape_over p data_size hash_size (length image) in
    let salted : Salted = salted_by p in
    let h : Hashing = hashing salted hash_size in
    let v : Params = volume p data_size hash_size in
    let same : front offset hash_size now ≡ front offset hash_size old =
    front_all p s offset (offset / hash_size) image made old now slices (omega arith) (omega arith) in
    elim (cases_lt 0 (levels_of s)) [
      | inl there ↦
          let done = joins.levels there in
          let level = level_is p s offset image made told old now shaped refl refl there slices among joins.covered in
          let parts = parts_tree s shaped there salted refl image refl in (
            done.0
                ∙ (λ i. device_over p s (level i) (same i))
                ∙ ap (λ b. front offset hash_size old ++ (superblock_block v (length image) ∷ b)) (sym parts),
            done.1 ∙ ap (λ l. root h l) level ∙ sym (parts_root s shaped there salted refl image refl),
          )
      | inr none ↦
          let done = joins.single (omega (arith, none)) in
          (done.0 ∙ ap (λ f. hash_blocks v image f) same, done.1)
    ]
