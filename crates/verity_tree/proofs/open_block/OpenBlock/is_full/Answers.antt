use Rattle.std.proofs.Common.{◌≡◌, ℕ, ◌∙◌, ◌+◌, ◌*◌, ◌/◌, ◌≤◌, length, ap, sym, arith}
use Rattle.std.proofs.lemmas.Bool.{ltb-true, lt-ltb}
use Rattle.verity_tree.proofs.SlotLemmas.{length-slots, full_when, room_for}
use Rattle.verity_tree.proofs.open_block.OpenBlock.is_full.Goals as goal

pub overflow_sub-result : goal.overflow_sub-result
overflow_sub-result g c =
    let b = c.self.inside in
    let n : ℕ = b.filled + c.args.coming in
    let few = rw (← c.self.view_is) at c.requires in
    let count = length-slots b.digest_size b.filled b.bytes.items in
    let fits : n * b.digest_size ≤ length b.bytes.items = room_for b.digest_size n (length b.bytes.items) (omega (arith, few, count)) in
    omega (arith, fits, c.len.ensures, b.bytes.ok.0)

pub returns : goal.returns
returns g c =
    let b = c.self.inside in
    let n : ℕ = b.filled + c.args.coming in
    let few = rw (← c.self.view_is) at c.requires in
    let count = length-slots b.digest_size b.filled b.bytes.items in
    let held = ap (λ m. m + c.args.coming) count in
    let len : c.len.result ≡ length b.bytes.items = c.len.ensures ∙ b.bytes.ok.0 in
    let fits : n * b.digest_size ≤ length b.bytes.items = room_for b.digest_size n (length b.bytes.items) (omega (arith, few, count)) in
    let within : n * b.digest_size ≤ c.len.result = omega (arith, fits, len) in
    let full = full_when b.digest_size n c.len.result c.self.invariant.some within in
    rw (← c.self.view_is) (
      (λ none. held ∙ full.0 (ltb-true _ _ none) ∙ ap (λ m. m / b.digest_size) len),
      (λ full_of. lt-ltb _ _ (full.1 (sym held ∙ full_of ∙ ap (λ m. m / b.digest_size) (sym len)))),
    )
