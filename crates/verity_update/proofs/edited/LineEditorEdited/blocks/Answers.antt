use Rattle.verity_update.proofs.DraftLemmas.{length_working}
use Rattle.verity_update.proofs.edited.LineEditorEdited.blocks.Goals as goal

pub returns-clause-length : goal.returns-clause-length
returns-clause-length g c = λ image. length_working image c.args.self.now.draft
