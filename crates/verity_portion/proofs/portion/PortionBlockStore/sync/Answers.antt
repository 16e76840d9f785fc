use Rattle.verity_portion.proofs.PortionLemmas.{portion_kept}
use Rattle.verity_portion.proofs.portion.PortionBlockStore.sync.Goals as goal

pub invariant_of-self : goal.invariant_of-self
invariant_of-self g c =
    let e = c.sync.ensures in
    let i = c.self.inside in
    portion_kept g.S.BlockStore
    (record { store = i.store; runs = i.runs.items; given = i.given.blocks; asked = i.asked.steps; past = i.past.rows })
    c.sync.new.self c.self.invariant e.tells e.fixed e.given e.reads e.changes e.content
