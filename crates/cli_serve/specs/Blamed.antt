-- Which words a command blames, and of which of them a clause says that they aren't understood.
use Rattle.std.specs.Prelude.{⊤}
use Rattle.cli_faults.specs.Misread.{IsMisread}
use Rattle.cli_faults.specs.declared.failure.Failure.{Failure}
use Rattle.cli_faults.specs.declared.failure.Failure.TheVariants as failure
use Rattle.cli_faults.specs.declared.failure.Word.TheVariants as word
use Rattle.cli_arguments.specs.declared.words.serve.ServeWords.{ServeWords}
use Rattle.cli_arguments.specs.declared.words.talk.TalkWords.{TalkWords}

-- `serve`
abbrev pub ServeBlames : ServeWords → Failure → Type 0
ServeBlames words (failure.Word word.Cache) = IsMisread word.Cache words.cache.now
ServeBlames words (failure.Word word.DataCache) = IsMisread word.DataCache words.data_cache.now
ServeBlames words (failure.Word word.Sessions) = IsMisread word.Sessions words.sessions.now
ServeBlames words (failure.Word word.Memory) = IsMisread word.Memory words.memory.now
ServeBlames words (failure.Word word.Idle) = IsMisread word.Idle words.idle.now
ServeBlames words (failure.Word word.Stall) = IsMisread word.Stall words.stall.now
ServeBlames words (failure.Word _) = ⊥
ServeBlames words _ = ⊤

-- `talk`
abbrev pub TalkBlames : TalkWords → Failure → Type 0
TalkBlames words (failure.Word word.Cache) = IsMisread word.Cache words.cache.now
TalkBlames words (failure.Word word.DataCache) = IsMisread word.DataCache words.data_cache.now
TalkBlames words (failure.Word _) = ⊥
TalkBlames words _ = ⊤

-- `verify --slice`
abbrev pub SliceBlames : Failure → Type 0
SliceBlames (failure.Word word.Slice) = ⊤
SliceBlames (failure.Word _) = ⊥
SliceBlames _ = ⊤
