use Rattle.std.proofs.Common.{rules, ◌≡◌, ◌++◌, [], ◌∷◌}
use Rattle.verity_store.specs.RawFile.{with_length}
use Rattle.verity_disks.specs.Tearing.{resized}
use Rattle.verity_disks.proofs.Tears.{reads_on}
use Rattle.verity_disks.proofs.tearing.TearingDevice.resize.Goals as goal

pub invariant_of-self-2 : goal.invariant_of-self-2
invariant_of-self-2 g c =
    let next : c.resize.new.self.items ≡ with_length c.args.len c.self.inside.seen.items = search rules in
    let more : c.push.new.self.items ≡ c.self.inside.log.items ++ resized c.args.len ∷ [] = search rules in
    reads_on _ _ _ _ _ (resized c.args.len) c.self.invariant next more
