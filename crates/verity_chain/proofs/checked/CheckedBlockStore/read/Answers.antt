use Rattle.std.proofs.Common.{Some, sym, subst, ◌∙◌}
use Rattle.verity_chain.specs.Table.{Table}
use Rattle.verity_chain.specs.Checked.{Checking, IsChecking}
use Rattle.verity_chain.proofs.CheckedLemmas.{checking_answered, checking_refused, checking_again, not_some, is_some_not_none}
use Rattle.verity_chain.proofs.checked.CheckedBlockStore.read.Goals as goal

pub invariant_of-self-in-Ok : goal.invariant_of-self-in-Ok
invariant_of-self-in-Ok g c =
    let e = c.in-Ok.ensures in
    let i = c.self.inside in
    let was : Checking g.row.H.Denot = record {
      table = i.tree;
      hash_store = i.hash_store;
      notes = i.notes.items;
      given = i.given.blocks;
      hashed = i.hashed.steps;
      asked = i.asked.steps;
      refused = i.refused.steps;
      changes = i.changed.steps;
      refusal = i.refusal;
      blocks = i.blocks;
      since = i.since.steps;
      origin = i.origin.rows;
    } in
    subst (λ (t : Table). IsChecking {H = g.row.H.Denot} g.H.BlockStore (record was {
      table = t;
      hash_store = c.look_up.new.store;
      notes = c.look_up.new.notes.items;
      given = c.note.new.self.blocks;
      hashed = c.look_up.new.hashed.steps;
      asked = c.step.new.self.steps;
    })) (sym e.same)
    (checking_answered g.H.BlockStore was c.look_up.new.store c.look_up.new.notes.items c.self.invariant e.keeps e.checked e.given
    e.kept (not_some i.refusal (sym c.is_some.ensures ∙ c.if-is_some.false)) e.apart c.note.new.self.blocks
    c.look_up.new.hashed.steps c.step.new.self.steps c.args.n c.look_up.new.out c.note.ensures e.gave e.unfailed e.within e.read
    e.hashed_each)

pub invariant_of-self-in-Err : goal.invariant_of-self-in-Err
invariant_of-self-in-Err g c =
    let e = c.in-Err.ensures in
    let i = c.self.inside in
    let was : Checking g.row.H.Denot = record {
      table = i.tree;
      hash_store = i.hash_store;
      notes = i.notes.items;
      given = i.given.blocks;
      hashed = i.hashed.steps;
      asked = i.asked.steps;
      refused = i.refused.steps;
      changes = i.changed.steps;
      refusal = i.refusal;
      blocks = i.blocks;
      since = i.since.steps;
      origin = i.origin.rows;
    } in
    subst (λ (t : Table). IsChecking {H = g.row.H.Denot} g.H.BlockStore (record was {
      table = t;
      hash_store = c.look_up.new.store;
      notes = c.look_up.new.notes.items;
      hashed = c.look_up.new.hashed.steps;
      asked = c.step.new.self.steps;
      refused = c.step-in-Err.new.self.steps;
      refusal =
          Some c.in-Err.why;
    })) (sym e.same)
    (checking_refused g.H.BlockStore was c.look_up.new.store c.look_up.new.notes.items c.self.invariant e.keeps e.checked e.given
    e.kept (not_some i.refusal (sym c.is_some.ensures ∙ c.if-is_some.false)) e.apart c.look_up.new.hashed.steps c.step.new.self.steps
    c.step-in-Err.new.self.steps c.in-Err.why c.step-in-Err.ensures e.err e.refused_unfailed e.few e.hashed)

pub invariant_of-self : goal.invariant_of-self
invariant_of-self g c =
    let i = c.self.inside in
    let was : Checking g.row.H.Denot = record {
      table = i.tree;
      hash_store = i.hash_store;
      notes = i.notes.items;
      given = i.given.blocks;
      hashed = i.hashed.steps;
      asked = i.asked.steps;
      refused = i.refused.steps;
      changes = i.changed.steps;
      refusal = i.refusal;
      blocks = i.blocks;
      since = i.since.steps;
      origin = i.origin.rows;
    } in
    checking_again g.H.BlockStore was c.step.new.self.steps c.step-then-is_some.new.self.steps
    (is_some_not_none i.refusal (sym c.is_some.ensures ∙ c.if-is_some.true)) c.step-then-is_some.ensures c.self.invariant
