use Rattle.std.proofs.Common.{◌≡◌, ℕ, ap, ◌∙◌, arith}
use Rattle.verity_digest.specs.Hash.{hashing}
use Rattle.verity_tree.specs.Climb.{open_at}
use Rattle.verity_tree.specs.Opens.{hashing_of, opens}
use Rattle.verity_tree.proofs.Trees.{closes_as}
use Rattle.verity_tree.proofs.open_tree.OpenTree.close.Goals as goal

pub make_room-requires-clause-most : goal.make_room-requires-clause-most
make_room-requires-clause-most g c =
    let below = c.requires.room (omega (arith, c.requires.level, c.len.ensures, c.if-level-len.false)) in
    omega (arith, below)

pub wait-requires-clause-settled : goal.wait-requires-clause-settled
wait-requires-clause-settled g c = c.make_room.ensures.others c.args.level (λ e. absurd (omega arith)) ∙ c.requires.settled

pub wait-requires-clause-few : goal.wait-requires-clause-few
wait-requires-clause-few g c =
    omega (arith, c.requires.few, ap (λ os. (open_at os c.args.level).index) c.make_room.ensures.opens)

pub returns-clause-closes : goal.returns-clause-closes
returns-clause-closes g c =
    let tree = c.args.self.now in
    let mid = c.make_room.new.self in
    let new = c.wait.new.self in
    let level : ℕ = c.args.level in
    let room = c.make_room.ensures in
    let hashes : hashing_of mid ≡ hashing_of tree = λ i. hashing (room.salted i) (room.geometry i).hash_size in
    closes_as (hashing_of tree) (hashing_of mid) level (opens mid) (opens tree) (opens new) mid.root tree.root new.root hashes room.opens
    room.root c.wait.ensures.closes
