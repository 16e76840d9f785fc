use Rattle.std.proofs.Common.{◌≡◌, ℕ, ◌<◌, ◌≤◌, [], length, sym, ap, ◌∙◌, subst, arith}
use Rattle.std.proofs.Math.Numerals.{add-one}
use Rattle.std.proofs.lemmas.List.{length-map}
use Rattle.verity_digest.specs.Tree.{Hashing}
use Rattle.verity_geometry.specs.Geometry.{digests_per_block, levels_of}
use Rattle.verity_tree.specs.Climb.{open_at}
use Rattle.verity_tree.specs.Coming.{waits_at, coming}
use Rattle.verity_tree.specs.Opens.{hashing_of, opens}
use Rattle.verity_tree.proofs.open_tree.OpenTree.make_room.Goals as goal

pub settle-requires-clause-most : goal.settle-requires-clause-most
settle-requires-clause-most g c =
    let tree = c.args.self.now in
    subst (λ l. length (open_at (opens tree) l).digests ≤ digests_per_block tree.geometry) (sym (add-one c.args.level)) c.requires.most

pub returns-clause-others : goal.returns-clause-others
returns-clause-others g c = λ l apart. c.settle.ensures.others l (λ e. apart (e ∙ add-one c.args.level))

pub returns-clause-room : goal.returns-clause-room
returns-clause-room g c =
    let tree = c.args.self.now in
    let new = c.settle.new.self in
    let level : ℕ = c.args.level in
    let h : Hashing = hashing_of new in
    let row : level < length new.waiting.items =
    omega (arith, new.rows, ap levels_of c.settle.ensures.geometry, tree.levels, c.requires.level) in
    let none = ap length (subst (λ l. coming h new.waiting.items l ≡ []) (add-one level) c.settle.ensures.settled) in
    let count = length-map (waits_at new.waiting.items level).blocks h.digest in
    let some = (new.waits level row).1 in
    omega (arith, none, count, some)
