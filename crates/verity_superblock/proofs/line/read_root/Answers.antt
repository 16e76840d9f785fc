use Rattle.std.proofs.Common.{◌≡◌, sym, ap, ◌∙◌, Some}
use Rattle.verity_digest.specs.declared.algorithm.Algorithm.TheVariants.{Sha256, Sha512}
use Rattle.verity_superblock.proofs.Readings.{root-taken, root-refused, ok_from, ok_not_err}
use Rattle.verity_superblock.proofs.line.read_root.Goals as goal

pub returns-in-Ok-clause-refused : goal.returns-in-Ok-clause-refused
returns-in-Ok-clause-refused c =
    let named = sym c.as_bytes.ensures.value ∙ c.from_name.ensures.sha256.0 (c.in-Some-Sha256.is ∙ ap Some c.in-Some-Sha256.field-0-is) in
    root-taken Sha256 c.args.name.now c.args.digits.now named (ok_from _ _ c.in-Ok.ensures)

pub returns-in-Err-clause-refused : goal.returns-in-Err-clause-refused
returns-in-Err-clause-refused c =
    let named = sym c.as_bytes.ensures.value ∙ c.from_name.ensures.sha256.0 (c.in-Some-Sha256.is ∙ ap Some c.in-Some-Sha256.field-0-is) in
    root-refused Sha256 c.args.name.now c.args.digits.now named (ok_not_err _ _ (sym c.in-Err.ensures))

pub returns-in-Ok-from_hex-clause-refused : goal.returns-in-Ok-from_hex-clause-refused
returns-in-Ok-from_hex-clause-refused c =
    let named = sym c.as_bytes.ensures.value ∙ c.from_name.ensures.sha512.0 (c.in-Some-Sha512.is ∙ ap Some c.in-Some-Sha512.field-0-is) in
    root-taken Sha512 c.args.name.now c.args.digits.now named (ok_from _ _ c.in-Ok-from_hex.ensures)

pub returns-in-Err-from_hex-clause-refused : goal.returns-in-Err-from_hex-clause-refused
returns-in-Err-from_hex-clause-refused c =
    let named = sym c.as_bytes.ensures.value ∙ c.from_name.ensures.sha512.0 (c.in-Some-Sha512.is ∙ ap Some c.in-Some-Sha512.field-0-is) in
    root-refused Sha512 c.args.name.now c.args.digits.now named (ok_not_err _ _ (sym c.in-Err-from_hex.ensures))
