use Rattle.std.proofs.Common.{ℕ, ◌<◌, length, refl, ap, ◌∙◌, arith}
use Rattle.std.proofs.lemmas.List.{length-replicate, get_or-replicate}
use Rattle.verity_geometry.specs.Geometry.{levels_of}
use Rattle.verity_tree.specs.Open.{Open}
use Rattle.verity_tree.specs.Waits.{Waits}
use Rattle.verity_tree.specs.Climb.{open_at, nothing_open, empty}
use Rattle.verity_tree.specs.Coming.{with_room, waits_at}
use Rattle.verity_digest.specs.Hash.{hashing}
use Rattle.verity_tree.proofs.Comings.{opens_empty, no_waits}
use Rattle.verity_tree.proofs.open_tree.OpenTree.new.Goals as goal

pub returns-clause-empty : goal.returns-clause-empty
returns-clause-empty g c =
    let s = c.args.geometry in
    let n : ℕ = levels_of s in
    let e : Open = empty s.hash_size s.digest_size in
    let w : Waits = with_room s.hash_size c.most_waiting-room.result in
    opens_empty (hashing c.args.hasher.salted s.hash_size) c.in_ok-waiting.waiting.items c.in_ok-blocks.blocks.items
    (λ l below.
    let there : l < n = omega (arith, ap length c.in_ok-blocks.ensures, length-replicate n e) in
    let is = ap (λ xs. open_at xs l) c.in_ok-blocks.ensures ∙ get_or-replicate n l e nothing_open there in
    (ap (λ (o : Open). o.digests) is, ap (λ (o : Open). o.index) is))
    (λ l. ap (λ xs. (waits_at xs l).blocks) c.in_ok-waiting.ensures ∙ no_waits n w l refl)
