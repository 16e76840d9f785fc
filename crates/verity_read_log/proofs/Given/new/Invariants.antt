use Rattle.std.proofs.Common.{[]}
use Rattle.verity_read_log.proofs.Given.new.Given as goal

abbrev pub ghost-given_at : goal.ghost-given_at
ghost-given_at a = []
