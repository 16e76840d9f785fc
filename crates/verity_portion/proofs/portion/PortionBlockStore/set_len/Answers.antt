use Rattle.verity_portion.proofs.PortionLemmas.{portion_changed}
use Rattle.verity_portion.proofs.portion.PortionBlockStore.set_len.Goals as goal

pub invariant_of-self : goal.invariant_of-self
invariant_of-self g c =
    let e = c.set_len.ensures in
    let i = c.self.inside in
    portion_changed g.S.BlockStore
    (record { store = i.store; runs = i.runs.items; given = i.given.blocks; asked = i.asked.steps; past = i.past.rows })
    c.set_len.new.self c.self.invariant e.tells e.fixed e.given e.reads e.counted
