use Rattle.std.proofs.Common.{◌≡◌, ℕ, ◌∙◌, ◌+◌, ◌*◌, ◌≤◌, ◌++◌, ◌∷◌, [], List, length, ap, sym, arith}
use Rattle.std.proofs.Math.Nat.{mul-le-mul_right, add-mul}
use Rattle.verity_tree.specs.Filled.{slots}
use Rattle.verity_tree.specs.Waits.{Waits}
use Rattle.verity_tree.proofs.SlotLemmas.{length-slots, pushed_slots, pushed_len}
use Rattle.verity_tree.proofs.waiting.Waiting.put.Goals as goal

pub write_over-requires : goal.write_over-requires
write_over-requires g c =
    let w = c.self.inside in
    let sized : length c.args.block.now ≡ w.size = c.requires.sized ∙ sym (ap (λ (x : Waits). x.size) c.self.view_is) in
    let below = rw (← c.self.view_is) at c.requires.room in
    let count = length-slots w.size w.count w.bytes.items in
    let held : (w.count + 1) * w.size ≤ w.room * w.size = mul-le-mul_right w.size (omega (arith, below, count)) in
    omega (arith, held, sized, c.self.invariant.whole, w.bytes.ok.0, add-mul w.count 1 w.size)

pub overflow_add-self : goal.overflow_add-self
overflow_add-self g c = omega (arith, c.self.invariant.most, c.self.invariant.few)

pub invariant_of-self : goal.invariant_of-self
invariant_of-self g c =
    let w = c.self.inside in
    let sized : length c.args.block.now ≡ w.size = c.requires.sized ∙ sym (ap (λ (x : Waits). x.size) c.self.view_is) in
    let below = rw (← c.self.view_is) at c.requires.room in
    let count = length-slots w.size w.count w.bytes.items in
    let most : w.count + 1 ≤ w.room = omega (arith, below, count) in
    let held : (w.count + 1) * w.size ≤ w.room * w.size = mul-le-mul_right w.size most in
    record {
      most = most;
      few = c.self.invariant.few;
      whole =
          ap length c.write_over.ensures
          ∙ pushed_len w.size w.count w.bytes.items c.args.block.now sized (omega (arith, held, c.self.invariant.whole))
          (omega (arith, held, c.self.invariant.whole, add-mul w.count 1 w.size))
          ∙ c.self.invariant.whole;
    }

pub returns : goal.returns
returns g c =
    let w = c.self.inside in
    let d : List ℕ = c.args.block.now in
    let sized : length d ≡ w.size = c.requires.sized ∙ sym (ap (λ (x : Waits). x.size) c.self.view_is) in
    let below = rw (← c.self.view_is) at c.requires.room in
    let count = length-slots w.size w.count w.bytes.items in
    let held : (w.count + 1) * w.size ≤ w.room * w.size = mul-le-mul_right w.size (omega (arith, below, count)) in
    ap {A = List (List ℕ)} {B = Waits} (λ bs. record { size = w.size; room = w.room; blocks = bs })
    (ap (slots w.size (w.count + 1)) c.write_over.ensures
    ∙ pushed_slots w.size w.count w.bytes.items d sized (omega (arith, held, c.self.invariant.whole))
    (omega (arith, held, c.self.invariant.whole, add-mul w.count 1 w.size)))
    ∙ ap {A = Waits} {B = Waits} (λ x. record x { blocks = x.blocks ++ d ∷ [] }) c.self.view_is
