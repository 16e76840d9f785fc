use Rattle.std.proofs.Common.{◌≡◌, ◌≢◌, ◌<◌, ◌≤◌, ◌+◌, ◌*◌, arith, vec_len, vec_capacity, ℕ, ◌++◌, List, OnOk, IfErr, sym, ◌∙◌, subst}
use Rattle.nbd_session.specs.Export.{Served, Failed}
use Rattle.verity_check.specs.declared.fault.CheckFault.{CheckFault}
use Rattle.verity_check.specs.declared.fault.CheckFault.TheVariants as faults
use Rattle.verity_chain.specs.Table.{height}
use Rattle.verity_check.specs.Range.{ServesBytes, touched}
use Rattle.verity_check.specs.Refusal.{Refuses}
use Rattle.verity_check.specs.Verifier.{Verifying, given_to, IsOnlyReading, DataFailed, HashFailed, MayRefuse}
use Rattle.verity_hub.specs.Verdicts.{facts_of}
use Rattle.verity_hub.proofs.VerdictLaws.{facts_keep, costs, served, failed}
use Rattle.verity_hub.proofs.Answering.{ok_answer, io_answer, lack_answer}
use Rattle.verity_hub.proofs.checked_image.CheckedImageExport.read_at.Goals as goal

pub returns-clause-keeps : goal.returns-clause-keeps
returns-clause-keeps g c =
    let D = g.D.BlockStore in
    let H = g.H.BlockStore in
    let v : Verifying g.row.D.Denot g.row.H.Denot = c.args.self.now in
    let w : Verifying g.row.D.Denot g.row.H.Denot = c.read_at-answer.new.self.verifier in
    facts_keep D H v w (subst (λ x. IsOnlyReading D H x w) c.self.view_is c.read_at-answer.ensures.keeps)

pub returns-clause-ok : goal.returns-clause-ok
returns-clause-ok g c =
    let D = g.D.BlockStore in
    let H = g.H.BlockStore in
    let v : Verifying g.row.D.Denot g.row.H.Denot = c.args.self.now in
    let w : Verifying g.row.D.Denot g.row.H.Denot = c.read_at-answer.new.self.verifier in
    let keeps : IsOnlyReading D H v w = subst (λ x. IsOnlyReading D H x w) c.self.view_is c.read_at-answer.ensures.keeps in
    let Given : Type 0 = (bytes : List ℕ) × (c.read_at-answer.new.out.items ≡ c.args.out.now.items ++ bytes) ×
    ServesBytes w.table (given_to D H w) c.args.offset c.args.len bytes in
    let Gives : Type 0 = (bytes : List ℕ) × (c.read_at-answer.new.out.items ≡ c.args.out.now.items ++ bytes) ×
    Served (facts_of D H v) (facts_of D H w) c.args.offset c.args.len bytes in
    subst (λ r. OnOk r Gives) (sym c.export_answer.ensures)
    (ok_answer c.read_at-answer.result Given Gives
    (λ x. (x.0, x.1, served D H v w c.check.ensures keeps c.args.offset c.args.len x.0 x.2)) c.read_at-answer.ensures.ok)

pub returns-clause-io : goal.returns-clause-io
returns-clause-io g c = λ is.
    let D = g.D.BlockStore in
    let H = g.H.BlockStore in
    let v : Verifying g.row.D.Denot g.row.H.Denot = c.args.self.now in
    let w : Verifying g.row.D.Denot g.row.H.Denot = c.read_at-answer.new.self.verifier in
    let keeps : IsOnlyReading D H v w = subst (λ x. IsOnlyReading D H x w) c.self.view_is c.read_at-answer.ensures.keeps in
    let P : Verifying g.row.D.Denot g.row.H.Denot → CheckFault → Type 0 =
    λ x fault. Refuses w.table (given_to D H w) (DataFailed D H x w) (HashFailed D H x w) c.args.offset c.args.len fault in
    let Q : CheckFault → Type 0 = λ fault. fault ≢ faults.NoMemory → MayRefuse D H w c.args.offset c.args.len in
    io_answer c.read_at-answer.result (P v) Q (Failed (facts_of D H v) (facts_of D H w) c.args.offset c.args.len)
    (λ fault other why may. failed D H v w c.check.ensures keeps c.args.offset c.args.len c.requires fault other why (may other))
    (subst (λ x. IfErr c.read_at-answer.result (P x)) c.self.view_is c.read_at-answer.ensures.refused)
    c.read_at-answer.ensures.may_refuse (sym c.export_answer.ensures ∙ is)

pub returns-clause-costs : goal.returns-clause-costs
returns-clause-costs g c =
    let D = g.D.BlockStore in
    let H = g.H.BlockStore in
    let v : Verifying g.row.D.Denot g.row.H.Denot = c.args.self.now in
    let w : Verifying g.row.D.Denot g.row.H.Denot = c.read_at-answer.new.self.verifier in
    let n : ℕ = c.args.offset in
    let len : ℕ = c.args.len in
    let Few : Verifying g.row.D.Denot g.row.H.Denot → Type 0 =
    λ x. D.reads w.data_store ≤ D.reads x.data_store + touched x.table n len in
    let Most : Verifying g.row.D.Denot g.row.H.Denot → Type 0 =
    λ x. H.reads w.hash_store ≤ H.reads x.hash_store + touched x.table n len * height x.table in
    costs D H v w c.check.ensures (subst (λ x. IsOnlyReading D H x w) c.self.view_is c.read_at-answer.ensures.keeps) n len
    (subst Few c.self.view_is c.read_at-answer.ensures.data_reads) (subst Most c.self.view_is c.read_at-answer.ensures.hash_reads)

pub returns-clause-unread : goal.returns-clause-unread
returns-clause-unread g c = λ is.
    let D = g.D.BlockStore in
    let H = g.H.BlockStore in
    let v : Verifying g.row.D.Denot g.row.H.Denot = c.args.self.now in
    let w : Verifying g.row.D.Denot g.row.H.Denot = c.read_at-answer.new.self.verifier in
    let Unread : Verifying g.row.D.Denot g.row.H.Denot → Type 0 = λ x. (D.reads w.data_store ≡ D.reads x.data_store) ×
    (H.reads w.hash_store ≡ H.reads x.hash_store) in
    let unread = lack_answer c.read_at-answer.result (Unread v)
    (subst (λ x. IfErr c.read_at-answer.result (λ fault. fault ≡ faults.NoMemory → Unread x)) c.self.view_is
    c.read_at-answer.ensures.unread) (sym c.export_answer.ensures ∙ is) in
    let same = unread.0 in let hashes = unread.1 in omega arith

pub returns-clause-room : goal.returns-clause-room
returns-clause-room g c = λ is.
    lack_answer c.read_at-answer.result (vec_capacity c.args.out.now < vec_len c.args.out.now + c.args.len)
    c.read_at-answer.ensures.memory (sym c.export_answer.ensures ∙ is)
