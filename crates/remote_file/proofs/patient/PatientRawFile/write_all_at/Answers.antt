use Rattle.std.proofs.Common.{length}
use Rattle.remote_file.proofs.Unwritten.{unwritten}
use Rattle.remote_file.proofs.patient.PatientRawFile.write_all_at.Goals as goal

pub returns-clause-failed : goal.returns-clause-failed
returns-clause-failed g c = unwritten (g.S.Source.bytes c.args.self.now.source) c.args._at (length c.args._block.now) c.requires
