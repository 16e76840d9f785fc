use Rattle.std.proofs.Common.{rules, subst, sym, ap, ◌∙◌, ◌<◌, ℕ, length}
use Rattle.verity_chain.specs.Table.{Table}
use Rattle.verity_chain.specs.Stores.{hash_given}
use Rattle.verity_update.specs.Walk.{TakesTo}
use Rattle.verity_update.specs.declared.fault.UpdateFault.{UpdateFault}
use Rattle.verity_update.specs.Refused.{CanBegin}
use Rattle.verity_update.proofs.RefusedLemmas.{err_weaker, refused_later, stops_from}
use Rattle.verity_update.proofs.WalkLemmas.{updates_all}
use Rattle.verity_update.proofs.DraftLemmas.{ok_weaker}
use Rattle.verity_update.proofs.walk.update.Goals as goal

pub returns-clause-updated : goal.returns-clause-updated
returns-clause-updated g c =
    let H = g.H.BlockStore in
    let N = g.N.BlockStore in
    let t = c.args.tree.now in
    let h = c.args.hash_store.now in
    let now = c.take_blocks.new in
    ok_weaker c.take_blocks.result
    (λ taken. updates_all H N t h now.hash_store c.args.new_store.now now.new_store c.len-count.result
    (g.E.Edited.working c.prepare.new.edited) (g.E.Edited.working now.edited) (g.E.Edited.changed c.prepare.new.edited)
    (g.E.Edited.changed now.edited) c.len-count.ensures c.in_ok-prepare.ensures.wide
    (λ i own within. c.in_ok-prepare.ensures.spared i (subst (λ n. i < n) (sym (c.data_blocks-blocks.ensures.value
    ∙ ap (λ (x : Table). x.data_blocks) c.table.ensures.value)) own))
    (subst (λ (mark : ℕ). TakesTo N t (hash_given H t mark now.hash_store) c.args.new_store.now now.new_store c.len-count.result
    (g.E.Edited.working c.prepare.new.edited) (g.E.Edited.working now.edited) (g.E.Edited.changed c.prepare.new.edited)
    (g.E.Edited.changed now.edited)) c.end_of-since.ensures taken))
    c.take_blocks.ensures.taken

pub returns-clause-refused : goal.returns-clause-refused
returns-clause-refused g c =
    let E = g.E.Edited in
    let H = g.H.BlockStore in
    let N = g.N.BlockStore in
    let t = c.args.tree.now in
    let h = c.args.hash_store.now in
    let s = c.args.new_store.now in
    let e = c.args.edited.now in
    let now = c.take_blocks.new in
    let begun : CanBegin E H N t h s e = search rules in
    let stop = λ (fault : UpdateFault) (n : ℕ). stops_from E H N t c.end_of-since.result.steps (length (H.given h)) h now.hash_store s
    now.new_store c.prepare.new.edited e now.edited fault n c.end_of-since.ensures c.prepare.ensures.size in
    err_weaker c.take_blocks.result
    (λ fault stops. refused_later E H N t h now.hash_store s now.new_store e now.edited fault begun stops.0
    (stop fault stops.0 stops.1))
    c.take_blocks.ensures.refused
