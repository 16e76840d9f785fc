use Rattle.std.proofs.Common.{rules, ◌≡◌, ◌++◌, [], ◌∷◌}
use Rattle.verity_store.specs.RawFile.{overwritten}
use Rattle.verity_disks.specs.Tearing.{written}
use Rattle.verity_disks.proofs.Tears.{reads_on}
use Rattle.verity_disks.proofs.tearing.TearingDevice.write.Goals as goal

pub invariant_of-self-2 : goal.invariant_of-self-2
invariant_of-self-2 g c =
    let next : c.in_ok-next.next.items ≡ overwritten c.args.at c.args.bytes.now c.self.inside.seen.items = search rules in
    let more : c.push.new.self.items ≡ c.self.inside.log.items ++ written c.args.at c.args.bytes.now ∷ [] = search rules in
    reads_on _ _ _ _ _ (written c.args.at c.args.bytes.now) c.self.invariant next more
