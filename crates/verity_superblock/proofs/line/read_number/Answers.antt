use Rattle.std.proofs.Common.{◌≡◌, sym, ◌∙◌}
use Rattle.verity_superblock.proofs.Readings.{parsed-number}
use Rattle.verity_superblock.proofs.line.read_number.Goals as goal

pub returns-clause-found : goal.returns-clause-found
returns-clause-found c =
    let told = parsed-number c.args.digits.now c.parse.result c.parse.ensures.value.0 (sym c.are_digits.ensures
    ∙ c.if-not-are_digits.false) c.if-digits-gt20.false in
    (λ found. told.0 (sym c.ok.ensures.variant ∙ found), λ is. c.ok.ensures.variant ∙ told.1 is)
