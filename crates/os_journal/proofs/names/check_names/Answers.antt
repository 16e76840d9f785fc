use Rattle.std.proofs.Common.{◌≡◌, IfSome, rules, subst, sym}
use Rattle.os_journal.specs.Names.{IsVolumeAt}
use Rattle.os_journal.proofs.Volumes.{of_volume}
use Rattle.os_journal.proofs.names.check_names.Goals as goal

pub returns-in_default-2-clause-own : goal.returns-in_default-2-clause-own
returns-in_default-2-clause-own g c =
    let uuid = c.in-Some.uuid.now in
    of_volume g.S.System c.args.system.now c.args.device.now c.args.files.now c.args.names.now uuid c.in-Some.rest.now
    c.in-Some-split_first_chunk.offset.now c.in-Some-split_first_chunk.rest.now c.in_ok-other.field-0 (search rules) (search rules)
    (search rules) (search rules) (search rules) (search rules) (search rules)
    (subst (λ n. IsVolumeAt g.S.System c.args.system.now c.args.device.now n c.in_ok-other.field-0) c.from_le_bytes.ensures
    c.in_ok-other.ensures.found) (subst (λ o. IfSome o (λ other. other ≡ uuid)) (sym c.in-Some-2.is) (search rules))

pub returns-in_default-2-2-clause-own : goal.returns-in_default-2-2-clause-own
returns-in_default-2-2-clause-own g c =
    let uuid = c.in-Some.uuid.now in
    of_volume g.S.System c.args.system.now c.args.device.now c.args.files.now c.args.names.now uuid c.in-Some.rest.now
    c.in-Some-split_first_chunk.offset.now c.in-Some-split_first_chunk.rest.now c.in_ok-other.field-0 (search rules) (search rules)
    (search rules) (search rules) (search rules) (search rules) (search rules)
    (subst (λ n. IsVolumeAt g.S.System c.args.system.now c.args.device.now n c.in_ok-other.field-0) c.from_le_bytes.ensures
    c.in_ok-other.ensures.found) (subst (λ o. IfSome o (λ other. other ≡ uuid)) (sym c.in_default-2.is) tt)
