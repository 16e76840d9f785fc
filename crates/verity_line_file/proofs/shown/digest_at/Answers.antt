use Rattle.std.proofs.Common.{◌≡◌, ◌∙◌, ap, ℕ, List}
use Rattle.verity_digest.specs.Hash.{Salted, salted_digest}
use Rattle.verity_superblock.specs.Superblock.{salted}
use Rattle.verity_line_file.proofs.shown.digest_at.Goals as goal

pub returns-clause-digest : goal.returns-clause-digest
returns-clause-digest g c =
    let block : List ℕ = c.in_ok-block.block.items in
    let hashed : c.new-hasher.result.salted ≡ salted c.args.superblock.now.params = c.new-hasher.ensures.salted
    ∙ (λ i. record { algorithm = c.algorithm.ensures i; salt = (c.in-Ok.ensures ∙ c.salt.ensures) i }) in (
      block,
      c.in_ok-block.ensures.given,
      c.digest.ensures.digest
          ∙ (ap (λ (b : List ℕ). salted_digest c.new-hasher.result.salted b) c.deref.ensures.value
          ∙ ap (λ (s : Salted). salted_digest s block) hashed),
    )
