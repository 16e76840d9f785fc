use Rattle.std.proofs.Common.{◌≡◌, ◌*◌, ◌/◌, sym, subst, arith}
use Rattle.std.proofs.lemmas.Grind.{common_steps}
use Rattle.verity_store.specs.RawFile.{HasLength}
use Rattle.verity_store.proofs.FileLemmas.{length-file_blocks, concat-file_blocks}
use Rattle.verity_store.proofs.file.FileStore.of_len.Goals as goal

pub returns-clause-content : goal.returns-clause-content
returns-clause-content g c =
    let even : c.args.len / c.args.size * c.args.size ≡ c.args.len = grind (arith, common_steps) in
    concat-file_blocks c.args.size _ (g.F.RawFile.bytes c.args.file)
    (subst (HasLength (g.F.RawFile.bytes c.args.file)) (sym even) c.requires)

pub returns-clause-len : goal.returns-clause-len
returns-clause-len g c =
    let count = length-file_blocks c.args.size (c.args.len / c.args.size) (g.F.RawFile.bytes c.args.file) in
    let even : c.args.len / c.args.size * c.args.size ≡ c.args.len = grind (arith, common_steps) in
    rw count even
