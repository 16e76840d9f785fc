use Rattle.std.proofs.Common.{rules, ◌≡◌, ℕ, ◌+◌, ◌-◌, ◌*◌, ◌<◌, ◌≤◌, ◌∙◌, ◌++◌, take, drop, ap, arith, inl, inr}
use Rattle.std.proofs.Math.Nat.{mul-le-mul_left}
use Rattle.std.proofs.lemmas.Bool.{cases_lt}
use Rattle.std.proofs.lemmas.Slice.{overwrites}
use Rattle.verity_digest_lanes.specs.Lanes.{piece_at}
use Rattle.verity_digest_lanes.proofs.Parts.{part_below, part_at, same_part}
use Rattle.verity_digest_lanes.proofs.pieces.fill_lanes.Goals as goal

-- a lane's part is whole
within : (size j n : ℕ) → j < n → j * size + size ≤ n * size
within size j n lt =
    let next : j + 1 ≤ n = omega arith in
    omega (arith, mul-le-mul_left size next)

pub lanes-preserved : goal.lanes-preserved
lanes-preserved c =
    let piece = c.args.piece in
    let size = c.args.size in
    let part = within piece c.lanes.j c.args.lanes (omega arith) in (
      search (rules, overwrites),
      λ k below. elim (cases_lt k c.lanes.j) [
        | inl a ↦ part_below c.lanes.room _ piece k c.lanes.j _ a (omega arith) ∙ c.lanes.invariant.1 k a
        | inr b ↦
            let e : c.lanes.j ≡ k = omega arith in
            let long : c.lanes.j * piece + piece - c.lanes.j * piece ≡ piece = omega arith in
            let width : c.lanes.j * size + size - c.lanes.j * size ≡ size = omega arith in
            rw (← e) (part_at c.lanes.room c.fill.new.room piece c.lanes.j _ (omega arith) (omega arith)
            ∙ same_part c.lanes.room c.fill.new.room _ (c.lanes.j * piece) _ piece c.args.from c.fill.ensures long (omega arith)
            ∙ ap (λ m. piece_at piece (c.args.salt.now ++ (take m (drop (c.lanes.j * size) c.args.blocks.now) ++ c.args.pad.now))
            c.args.from) width)
      ],
    )
