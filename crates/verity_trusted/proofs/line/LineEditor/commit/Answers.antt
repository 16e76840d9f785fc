use Rattle.std.proofs.Common.{◌≡◌, ℕ, ◌+◌, ◌≤◌, false, length, arith, sym, ap, subst}
use Rattle.std.proofs.lemmas.Bool.{false≢true}
use Rattle.verity_superblock.specs.Superblock.{Volume}
use Rattle.verity_chain.specs.Table.{Table, height}
use Rattle.verity_edit.specs.declared.command.Committed.{Committed}
use Rattle.verity_pending.specs.declared.fault.EditFault.{EditFault}
use Rattle.verity_trusted.specs.declared.under.PlanUnder.{PlanUnder}
use Rattle.verity_pending.specs.Draft.{Draft}
use Rattle.verity_edit.specs.Committing.{IsCarriedOut}
use Rattle.verity_edit.specs.Editing.{Stays}
use Rattle.verity_trusted.specs.Under.{ExplainsUncommitted, IsMadeUnder, LeavesWhole, ReadsAll}
use Rattle.verity_trusted.specs.Line.{LineEditing, CommitsUnder, IsRefusalUnder, editing_of, paths_in, moved_in}
use Rattle.verity_pending.proofs.Frames.{stays_of}
use Rattle.verity_trusted.proofs.UnderLemmas.{from_ok}
use Rattle.verity_trusted.proofs.LineCommits.{commits_under, refused_under, at_ok, at_err}
use Rattle.verity_trusted.proofs.line.LineEditor.commit.Goals as goal

pub returns-in-Ok-clause-committed : goal.returns-in-Ok-clause-committed
returns-in-Ok-clause-committed g c =
    let D = g.D.BlockStore in
    let H = g.H.BlockStore in
    let s = c.self.inside in
    let t : Table = s.tree in
    let v : Volume = s.superblock in
    let d : Draft = s.pending in
    let sound : s.broken ≡ false = c.if-self.false in
    let invariant = c.self.invariant in
    let r = c.commit_under-tree.result.2 in
    let told = c.commit_under-tree.ensures in
    let new_data = c.commit_under-tree.new.data_store in
    let new_hash = c.commit_under-tree.result.1 in
    let hashed : ℕ = c.commit_under-tree.new.hasher.hashed in
    let checked : ℕ = c.commit_under-tree.new.checks.steps in
    let made : PlanUnder g.row.A.Denot = c.in-Ok.made in
    let is = c.in-Ok.is in
    let old : LineEditing g.row.D.Denot g.row.H.Denot = record {
      data_store = s.data_store;
      hash_store = s.hash_store;
      table = t;
      volume = v;
      draft = d;
      hashed = s.hasher.hashed;
      checks = s.checks.steps;
      broken = s.broken;
    } in
    let new : LineEditing g.row.D.Denot g.row.H.Denot = record {
      data_store = new_data;
      hash_store = new_hash;
      table = made.tree;
      volume = made.plan.superblock;
      draft = c.settle.new.self;
      hashed = hashed;
      checks = checked;
      broken = false;
    } in
    let committed : Committed = record { root = made.plan.root; hashed = made.plan.hashed } in
    let done = at_ok r made (IsCarriedOut D H v d t.hash_start_block t.root s.data_store new_data s.hash_store new_hash) is told.done in
    let m = from_ok r made (IsMadeUnder H t s.hash_store new_hash v d s.hasher.hashed hashed) is told.made in
    let unfailed = at_ok r made ((D.failures new_data ≡ D.failures s.data_store) × (H.failures new_hash ≡ H.failures s.hash_store)) is
    told.unfailed in
    let reads = at_ok r made (ReadsAll v d (H.reads s.hash_store) (H.reads new_hash) checked) is told.reads in
    let P : LineEditing g.row.D.Denot g.row.H.Denot → Type 0 = λ e. CommitsUnder D H e new committed in
    subst P c.self.view_is
    (commits_under D H old made.plan new_data new_hash hashed checked c.facts.ensures invariant.line invariant.behind (invariant.fits sound)
    done m.plan m.told told.data_store.later.tells told.hash_store.tells sound m.right unfailed.0 unfailed.1 m.counted reads.paths
    reads.moved reads.checks_most reads.each made.tree c.settle.new.self m.next c.settle.ensures)

pub returns-in-Ok-clause-stays : goal.returns-in-Ok-clause-stays
returns-in-Ok-clause-stays g c =
    let D = g.D.BlockStore in
    let H = g.H.BlockStore in
    let s = c.self.inside in
    let t : Table = s.tree in
    let v : Volume = s.superblock in
    let d : Draft = s.pending in
    let r = c.commit_under-tree.result.2 in
    let told = c.commit_under-tree.ensures in
    let made : PlanUnder g.row.A.Denot = c.in-Ok.made in
    let is = c.in-Ok.is in
    let hashed : ℕ = c.commit_under-tree.new.hasher.hashed in
    let m = from_ok r made (IsMadeUnder H t s.hash_store c.commit_under-tree.result.1 v d s.hasher.hashed hashed) is told.made in
    let new : LineEditing g.row.D.Denot g.row.H.Denot = record {
      data_store = c.commit_under-tree.new.data_store;
      hash_store = c.commit_under-tree.result.1;
      table = made.tree;
      volume = made.plan.superblock;
      draft = c.settle.new.self;
      hashed = c.commit_under-tree.new.hasher.hashed;
      checks = c.commit_under-tree.new.checks.steps;
      broken = false;
    } in
    let P : LineEditing g.row.D.Denot g.row.H.Denot → Type 0 = λ e. Stays D H (editing_of e) (editing_of new) in
    subst P c.self.view_is (record {
      params = ap (λ w. w.params) m.plan.superblock;
      first = ap (λ u. u.hash_start_block) m.next;
      size = ap (λ x. x.size) c.settle.ensures;
      data_reads = told.data_store.reads;
      data_store = stays_of D _ _ told.data_store.later;
      hash_store = told.hash_store;
      front = λ q below. told.front.each q below;
      broken = λ whole broken. absurd (false≢true broken);
    })

pub returns-in-Err-clause-refused : goal.returns-in-Err-clause-refused
returns-in-Err-clause-refused g c =
    let D = g.D.BlockStore in
    let H = g.H.BlockStore in
    let s = c.self.inside in
    let t : Table = s.tree in
    let sound : s.broken ≡ false = c.if-self.false in
    let r = c.commit_under-tree.result.2 in
    let told = c.commit_under-tree.ensures in
    let new_data = c.commit_under-tree.new.data_store in
    let new_hash = c.commit_under-tree.result.1 in
    let new : LineEditing g.row.D.Denot g.row.H.Denot = record {
      data_store = new_data;
      hash_store = new_hash;
      table = c.commit_under-tree.result.0;
      volume = s.superblock;
      draft = s.pending;
      hashed = c.commit_under-tree.new.hasher.hashed;
      checks = c.commit_under-tree.new.checks.steps;
      broken = c.commit_under-tree.new.broken;
    } in
    let old : LineEditing g.row.D.Denot g.row.H.Denot = record {
      data_store = s.data_store;
      hash_store = s.hash_store;
      table = t;
      volume = s.superblock;
      draft = s.pending;
      hashed = s.hasher.hashed;
      checks = s.checks.steps;
      broken = s.broken;
    } in
    let why = at_err r c.in-Err.why (ExplainsUncommitted D H t (length (H.given s.hash_store)) s.data_store new_data s.hash_store
    new_hash) c.in-Err.is told.refused in
    let whole = at_err r c.in-Err.why (LeavesWhole c.commit_under-tree.new.broken) c.in-Err.is told.whole in
    let P : LineEditing g.row.D.Denot g.row.H.Denot → Type 0 = λ e. IsRefusalUnder D H e new c.fault_of_commit.result in
    subst P c.self.view_is
    (subst (λ (f : EditFault). IsRefusalUnder D H old new f) (sym c.fault_of_commit.ensures)
    (refused_under D H old new c.in-Err.why sound why whole))

pub returns-in-Err-clause-refused_reads : goal.returns-in-Err-clause-refused_reads
returns-in-Err-clause-refused_reads g c = λ whole.
    let D = g.D.BlockStore in
    let H = g.H.BlockStore in
    let s = c.self.inside in
    let sound : s.broken ≡ false = c.if-self.false in
    let old : LineEditing g.row.D.Denot g.row.H.Denot = record {
      data_store = s.data_store;
      hash_store = s.hash_store;
      table = s.tree;
      volume = s.superblock;
      draft = s.pending;
      hashed = s.hasher.hashed;
      checks = s.checks.steps;
      broken = s.broken;
    } in
    let P : LineEditing g.row.D.Denot g.row.H.Denot → Type 0 = λ e. H.reads c.commit_under-tree.result.1
    ≤ H.reads e.hash_store + paths_in D e + height e.table in
    let here : P old = c.commit_under-tree.ensures.most_reads whole (D.content s.data_store) (c.self.invariant.fits sound).committed in
    subst P c.self.view_is here

pub returns-in-Err-clause-most_reads : goal.returns-in-Err-clause-most_reads
returns-in-Err-clause-most_reads g c =
    let D = g.D.BlockStore in
    let H = g.H.BlockStore in
    let s = c.self.inside in
    let sound : s.broken ≡ false = c.if-self.false in
    let old : LineEditing g.row.D.Denot g.row.H.Denot = record {
      data_store = s.data_store;
      hash_store = s.hash_store;
      table = s.tree;
      volume = s.superblock;
      draft = s.pending;
      hashed = s.hasher.hashed;
      checks = s.checks.steps;
      broken = s.broken;
    } in
    let P : LineEditing g.row.D.Denot g.row.H.Denot → Type 0 = λ e. H.reads c.commit_under-tree.result.1
    ≤ H.reads e.hash_store + paths_in D e + height e.table + moved_in e in
    let all = c.commit_under-tree.ensures.all_reads (D.content s.data_store) (c.self.invariant.fits sound).committed in
    let here : P old = omega arith in
    subst P c.self.view_is here

pub returns-in-Err-clause-refused_checks : goal.returns-in-Err-clause-refused_checks
returns-in-Err-clause-refused_checks g c = λ whole.
    let D = g.D.BlockStore in
    let H = g.H.BlockStore in
    let s = c.self.inside in
    let sound : s.broken ≡ false = c.if-self.false in
    let old : LineEditing g.row.D.Denot g.row.H.Denot = record {
      data_store = s.data_store;
      hash_store = s.hash_store;
      table = s.tree;
      volume = s.superblock;
      draft = s.pending;
      hashed = s.hasher.hashed;
      checks = s.checks.steps;
      broken = s.broken;
    } in
    let P : LineEditing g.row.D.Denot g.row.H.Denot → Type 0 = λ e. c.commit_under-tree.new.checks.steps
    ≤ paths_in D e + height e.table in
    let most = c.commit_under-tree.ensures.most_checks (D.content s.data_store) (c.self.invariant.fits sound).committed in
    let here : P old = omega arith in
    subst P c.self.view_is here
