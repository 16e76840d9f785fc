use Rattle.std.proofs.Common.{◌≡◌, ℕ, ◌+◌, ◌*◌, ◌-◌, ◌≤◌, ◌++◌, length, take, drop, arith, ◌∙◌, ap}
use Rattle.std.proofs.Math.Nat.{mul-le-mul_right, add-mul}
use Rattle.std.proofs.lemmas.Slice.{drop-put_mid}
use Rattle.std.proofs.lemmas.List.{drop-drop}
use Rattle.verity_pending.specs.Slots.{slots}
use Rattle.verity_plan.proofs.SlotLemmas.{slots-written_over}
use Rattle.verity_plan.proofs.plan.set_slot.Goals as goal

pub returns-clause-slots : goal.returns-clause-slots
returns-clause-slots c = λ k below fits.
    let d : ℕ = c.args.size in
    let a : ℕ = c.args.slot * d in
    let n : a + d - a ≡ length c.args.digest.now = omega arith in
    (λ i. slots d k (take a c.args.block.now ++ (c.copy_from_slice.ensures.after i ++ drop (n i) (drop a c.args.block.now))))
    ∙ ap (λ rest. slots d k (take a c.args.block.now ++ (c.args.digest.now ++ rest)))
    (drop-drop (length c.args.digest.now) a c.args.block.now)
    ∙ slots-written_over d c.args.digest.now c.args.block.now c.args.slot k c.requires.sized below fits

pub returns-clause-tail : goal.returns-clause-tail
returns-clause-tail c = λ k below.
    let d : ℕ = c.args.size in
    let a : ℕ = c.args.slot * d in
    let wide : (c.args.slot + 1) * d ≤ k * d = mul-le-mul_right d (omega arith) in
    drop-put_mid a (a + d - a) c.args.block.now c.copy_from_slice.new.self (k * d) (omega (arith, add-mul c.args.slot 1 d))
    (omega arith) (ap length c.copy_from_slice.ensures.after ∙ (let e : length c.args.digest.now ≡ a + d - a = omega arith in e))
