use Rattle.std.proofs.Common.{◌∙◌, arith}
use Rattle.verity_store.proofs.FileLemmas.{file_run, file_start}
use Rattle.verity_store.proofs.file.FileStoreBlockStore.read_run.Goals as goal

pub overflow_mul-start : goal.overflow_mul-start
overflow_mul-start g c = let s = c.args.self.now in
    omega (arith, file_start s.size s.blocks c.args.first (g.F.RawFile.bytes s.file) (omega (arith, c.requires.within)), s.fits)

pub returns-in-Ok-clause-right : goal.returns-in-Ok-clause-right
returns-in-Ok-clause-right g c = let s = c.args.self.now in
    file_run s.size s.blocks c.args.first c.args.count (g.F.RawFile.bytes s.file) c.read_exact_at.new.out c.requires.within
    (c.read_exact_at.auto.out ∙ c.requires.sized) c.in-Ok.ensures.given
