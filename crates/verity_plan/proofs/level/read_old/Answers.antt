use Rattle.std.proofs.Common.{◌≡◌, ℕ, ◌+◌, ◌*◌, ◌<◌, ◌≤◌, List, [], length, get_or, Option, arith, subst, refl, sym, ap, ◌∙◌}
use Rattle.std.specs.Prelude.{IfSome}
use Rattle.std.proofs.Math.Nat.{mul-le-mul_right}
use Rattle.std.proofs.lemmas.List.{get_or-set_same}
use Rattle.verity_store.proofs.BlockLemmas.{length-cut}
use Rattle.verity_pending.specs.Slots.{slots}
use Rattle.verity_plan.specs.Level.{IsOldBlock}
use Rattle.verity_plan.proofs.SeenLemmas.{shows_read, gives_read}
use Rattle.verity_plan.proofs.level.read_old.Goals as goal

pub set_slot-requires-clause-room : goal.set_slot-requires-clause-room
set_slot-requires-clause-room g c =
    let l = c.requires.level in
    let one : 1 * c.args.level.now.digest_size ≤ c.args.level.now.per_block * c.args.level.now.digest_size =
    mul-le-mul_right c.args.level.now.digest_size l.some in
    omega (arith, l.room)

pub returns-then-index-level-clause-read : goal.returns-then-index-level-clause-read
returns-then-index-level-clause-read g c =
    let read = c.in_ok-read.ensures in
    λ blocks shown below.
    shows_read g.H.BlockStore c.args.hash_store.now c.read.new.self (c.args.level.now.old.start + c.args.index) c.read.new.out
    blocks read.tells read.content read.right read.given shown

pub returns-in-Some-clause-first : goal.returns-in-Some-clause-first
returns-in-Some-clause-first g c = λ far here.
    let level = c.args.level.now in
    let k : ℕ = level.per_block in
    let d : ℕ = level.digest_size in
    let l = c.requires.level in
    let inside : 0 < length (slots d k c.fill.new.self) = (let n = length-cut d k c.fill.new.self in omega (arith, l.some)) in
    let P : Option (List ℕ) → Type 0 = λ o. IfSome o (λ digest. get_or (slots d k c.set_slot.new.block) 0 [] ≡ digest) in
    let fits : k * d ≤ length c.fill.new.self = omega (arith, l.room) in
    subst P (sym c.in-Some.is)
    (ap (λ ss. get_or ss 0 []) (c.set_slot.ensures.slots k l.some fits)
    ∙ get_or-set_same (slots d k c.fill.new.self) 0 c.bytes.result.now [] inside ∙ c.bytes.ensures)

pub returns-then-index-level-clause-gives : goal.returns-then-index-level-clause-gives
returns-then-index-level-clause-gives g c =
    let H = g.H.BlockStore in
    gives_read c.read.result (IsOldBlock c.args.level.now c.args.index) (H.given c.args.hash_store.now) (H.given c.read.new.self)
    (c.args.level.now.old.start + c.args.index) c.read.new.out c.read.ensures.given c.read.ensures.ungiven
    (c.if-index-level.true, refl)
