use Rattle.std.proofs.Common.{◌≡◌, ◌∙◌, ◌+◌, ◌*◌, ◌<◌, ◌≤◌, [], length, take, get_or, ap, sym, arith}
use Rattle.std.specs.Fork.{slice_chunk}
use Rattle.std.proofs.Math.Nat.{mul-le-mul_right, zero-mul}
use Rattle.std.proofs.lemmas.List.{length-take-le}
use Rattle.verity_digest.proofs.Groups.{block_in_group}
use Rattle.verity_tree.specs.Waits.{Waits}
use Rattle.verity_tree.proofs.SlotLemmas.{length-slots, slot_chunk}
use Rattle.verity_tree.proofs.waiting.Waiting.bytes.Goals as goal

pub returns-clause-len : goal.returns-clause-len
returns-clause-len g c =
    let w = c.self.inside in
    let held : w.count * w.size ≤ w.room * w.size = mul-le-mul_right w.size c.self.invariant.most in
    let within : w.count * w.size ≤ length w.bytes.items = omega (arith, held, c.self.invariant.whole) in
    ap (λ bytes. length (take (w.count * w.size) bytes)) c.deref.ensures.value
    ∙ length-take-le (w.count * w.size) w.bytes.items within
    ∙ ap (λ n. n * w.size) (sym (length-slots w.size w.count w.bytes.items))
    ∙ ap (λ (x : Waits). length x.blocks * x.size) c.self.view_is

pub returns-clause-value : goal.returns-clause-value
returns-clause-value g c = λ j below.
    let w = c.self.inside in
    let count = length-slots w.size w.count w.bytes.items in
    let there : j < w.count = omega (arith, below, count, ap (λ (x : Waits). length x.blocks) c.self.view_is) in
    ap (λ bytes. slice_chunk (take (w.count * w.size) bytes) c.args.self.now.size j) c.deref.ensures.value
    ∙ ap (λ (x : Waits). slice_chunk (take (w.count * w.size) w.bytes.items) x.size j) (sym c.self.view_is)
    ∙ block_in_group w.bytes.items w.size 0 j w.count 0 there (sym (zero-mul w.size))
    ∙ ap (slice_chunk w.bytes.items w.size) (let e : 0 + j ≡ j = omega arith in e)
    ∙ sym (slot_chunk w.size w.count w.bytes.items j there)
    ∙ ap (λ (x : Waits). get_or x.blocks j []) c.self.view_is
