use Rattle.verity_profile.proofs.Bounds.{block_size_some}
use Rattle.verity_store.proofs.BlockLemmas.{resized_toward, resized_not}
use Rattle.verity_store.proofs.FileLemmas.{AllSized-file_blocks, file_resized, file_resized_len, file_told, file_kept}
use Rattle.verity_store.proofs.file.FileStoreBlockStore.set_len.Goals as goal

pub returns-in-Ok-clause-done : goal.returns-in-Ok-clause-done
returns-in-Ok-clause-done g c = let s = c.args.self.now in
    file_resized s.size s.blocks c.args.blocks (g.F.RawFile.bytes s.file) (g.F.RawFile.bytes c.set_byte_len.new.self) s.whole
    c.in-Ok.ensures.set

pub returns-in-Ok-clause-partly : goal.returns-in-Ok-clause-partly
returns-in-Ok-clause-partly g c = let s = c.args.self.now in
    rw (file_resized s.size s.blocks c.args.blocks (g.F.RawFile.bytes s.file) (g.F.RawFile.bytes c.set_byte_len.new.self) s.whole
    c.in-Ok.ensures.set) (resized_toward _ _ _)

pub returns-in-Ok-clause-blocks : goal.returns-in-Ok-clause-blocks
returns-in-Ok-clause-blocks g c = λ _. let s = c.args.self.now in
    AllSized-file_blocks s.size c.args.blocks (g.F.RawFile.bytes c.set_byte_len.new.self) (file_resized_len _ _ _ c.in-Ok.ensures.set)

pub returns-then-has_len-clause-partly : goal.returns-then-has_len-clause-partly
returns-then-has_len-clause-partly g c = let s = c.args.self.now in
    rw (file_told s.size s.blocks c.args.blocks (g.F.RawFile.bytes s.file) (g.F.RawFile.bytes c.set_byte_len.new.self)
    (block_size_some s.size s.profile) s.whole c.in-Err.ensures.failed (c.has_len.ensures.told c.if-has_len.true))
    (resized_toward _ _ _)

pub returns-then-has_len-clause-blocks : goal.returns-then-has_len-clause-blocks
returns-then-has_len-clause-blocks g c = λ _. let s = c.args.self.now in
    AllSized-file_blocks s.size c.args.blocks (g.F.RawFile.bytes c.set_byte_len.new.self) (c.has_len.ensures.told c.if-has_len.true)

pub returns-else-has_len-clause-partly : goal.returns-else-has_len-clause-partly
returns-else-has_len-clause-partly g c = let s = c.args.self.now in
    rw (file_kept _ (g.F.RawFile.bytes s.file) (g.F.RawFile.bytes c.set_byte_len.new.self) c.has_len.result c.in-Err.ensures.failed
    c.has_len.ensures.known c.if-has_len.false) (resized_not _ _ _)
