use Rattle.std.proofs.Common.{◌≡◌, ℕ, ◌+◌, ◌-◌, ◌*◌, ◌≤◌, ◌++◌, List, length, take, drop, replicate, ap, ◌∙◌}
use Rattle.std.proofs.Common.{sym, subst, arith}
use Rattle.std.proofs.Math.Nat.{add-mul}
use Rattle.verity_tree.proofs.SlotLemmas.{put_slot, room_for_one, length-slots, same_open}
use Rattle.verity_tree.proofs.open_block.OpenBlock.put.Goals as goal

pub write_over-requires : goal.write_over-requires
write_over-requires g c =
    let b = c.self.inside in
    let d = c.args.digest.now in
    let sized : length d ≡ b.digest_size = c.requires.sized ∙ sym (ap (λ o. o.digest_size) c.self.view_is) in
    let fits = rw (← c.self.view_is) at c.requires.room in
    let room : (b.filled + 1) * b.digest_size ≤ length b.bytes.items =
    room_for_one b.digest_size b.filled (length b.bytes.items) (omega (arith, fits, length-slots b.digest_size b.filled b.bytes.items)) in
    omega (arith, b.bytes.ok.0, ap length c.bytes.ensures, add-mul b.filled 1 b.digest_size)

pub invariant_of-self : goal.invariant_of-self
invariant_of-self g c =
    let b = c.self.inside in
    let d = c.args.digest.now in
    let sized : length d ≡ b.digest_size = c.requires.sized ∙ sym (ap (λ o. o.digest_size) c.self.view_is) in
    let fits = rw (← c.self.view_is) at c.requires.room in
    let room : (b.filled + 1) * b.digest_size ≤ length b.bytes.items =
    room_for_one b.digest_size b.filled (length b.bytes.items) (omega (arith, fits, length-slots b.digest_size b.filled b.bytes.items)) in
    let put = put_slot b.digest_size b.filled b.bytes.items d sized room
    (record { within = c.self.invariant.within; zeros = c.self.invariant.zeros }) in
    let is : c.write_over.new.bytes.items ≡ take (b.filled * b.digest_size) b.bytes.items ++
    (d ++ drop (b.filled * b.digest_size + length d) b.bytes.items) =
    rw (← c.bytes.ensures) c.write_over.ensures in
    let P : List ℕ → Type 0 = λ bytes. (b.filled + 1) * b.digest_size ≤ length bytes in
    let Q : List ℕ → Type 0 = λ bytes. drop ((b.filled + 1) * b.digest_size) bytes ≡ replicate
    (length bytes - (b.filled + 1) * b.digest_size) 0 in
    record { some = c.self.invariant.some; within = subst P (sym is) put.holds.within; zeros = subst Q (sym is) put.holds.zeros }

pub returns : goal.returns
returns g c =
    let b = c.self.inside in
    let d = c.args.digest.now in
    let sized : length d ≡ b.digest_size = c.requires.sized ∙ sym (ap (λ o. o.digest_size) c.self.view_is) in
    let fits = rw (← c.self.view_is) at c.requires.room in
    let room : (b.filled + 1) * b.digest_size ≤ length b.bytes.items =
    room_for_one b.digest_size b.filled (length b.bytes.items) (omega (arith, fits, length-slots b.digest_size b.filled b.bytes.items)) in
    let put = put_slot b.digest_size b.filled b.bytes.items d sized room
    (record { within = c.self.invariant.within; zeros = c.self.invariant.zeros }) in
    let is : c.write_over.new.bytes.items ≡ take (b.filled * b.digest_size) b.bytes.items ++
    (d ++ drop (b.filled * b.digest_size + length d) b.bytes.items) =
    rw (← c.bytes.ensures) c.write_over.ensures in
    same_open b.digest_size b.filled b.index b.bytes.items d c.write_over.new.bytes.items c.args.self.now is put c.self.view_is
