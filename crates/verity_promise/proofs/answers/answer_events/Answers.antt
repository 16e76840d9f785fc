use Rattle.std.proofs.Common.{◌+◌, ◌<◌, [], length, ap, refl, rules}
use Rattle.nbd_hub.specs.Sessions.{HubState}
use Rattle.verity_check.specs.Verifier.{Verifying}
use Rattle.verity_check.specs.declared.fault.CheckFault.TheVariants.{CacheSize}
use Rattle.verity_promise.specs.Answers.{IsMadeOver}
use Rattle.verity_promise.proofs.Answered.{answered, named}
use Rattle.verity_promise.proofs.answers.answer_events.Goals as goal

pub returns-in-Err-clause-cache_size : goal.returns-in-Err-clause-cache_size
returns-in-Err-clause-cache_size g c = named c.in-Err.fault CacheSize _ c.in-Err.ensures.cache_size

pub returns-in-Err-clause-refused : goal.returns-in-Err-clause-refused
returns-in-Err-clause-refused g c = (refl, c.in-Err.ensures.error)

pub returns-in-Ok-run-clause-right : goal.returns-in-Ok-run-clause-right
returns-in-Ok-run-clause-right g c =
    let D = g.D.BlockStore in
    let H = g.H.BlockStore in
    let v : Verifying g.row.D.Denot g.row.H.Denot = c.in-Ok.verifier in
    let made = c.in-Ok.ensures.value in
    let over : IsMadeOver D H c.args.table c.args.data_store c.args.hash_store v = record {
      table = ap (λ x. x.table) made;
      data_store = ap (λ x. x.data_store) made;
      hash_store = ap (λ x. x.hash_store) made;
      data_mark = ap (λ x. x.data_mark) made;
      hash_mark = ap (λ x. x.hash_mark) made;
      since = ap (λ x. x.since) made;
    } in
    let hub : HubState × Verifying g.row.D.Denot g.row.H.Denot = c.new-hub.result in
    let hub' : HubState × Verifying g.row.D.Denot g.row.H.Denot = c.run.new.self in
    let r = c.run.ensures.ran in
    answered D H c.args.table c.args.data_store c.args.hash_store c.args.name c.args.events.now c.args.replies.now.items
    c.run.new.replies.items r.0 v hub hub'
    over c.new-hub.ensures.verifier c.new-hub.ensures.offer c.new-hub.ensures.after c.run.ensures.verifier r.1 (λ after. (r.3 [] after).1)

pub returns-clause-refused : goal.returns-clause-refused
returns-clause-refused g c =
    let D = g.D.BlockStore in
    let H = g.H.BlockStore in
    let v : Verifying g.row.D.Denot g.row.H.Denot = c.in-Ok.verifier in
    let made = c.in-Ok.ensures.value in
    let over : IsMadeOver D H c.args.table c.args.data_store c.args.hash_store v = record {
      table = ap (λ x. x.table) made;
      data_store = ap (λ x. x.data_store) made;
      hash_store = ap (λ x. x.hash_store) made;
      data_mark = ap (λ x. x.data_mark) made;
      hash_mark = ap (λ x. x.hash_mark) made;
      since = ap (λ x. x.since) made;
    } in
    let hub : HubState × Verifying g.row.D.Denot g.row.H.Denot = c.new-hub.result in
    let hub' : HubState × Verifying g.row.D.Denot g.row.H.Denot = c.run.new.self in
    let r = c.run.ensures.ran in
    let replied = answered D H c.args.table c.args.data_store c.args.hash_store c.args.name c.args.events.now c.args.replies.now.items
    c.run.new.replies.items r.0 v hub hub'
    over c.new-hub.ensures.verifier c.new-hub.ensures.offer c.new-hub.ensures.after c.run.ensures.verifier r.1
    (λ after. (r.3 [] after).1) in
    let short : length c.run.new.replies.items < length c.args.replies.now.items + length c.args.events.now = search rules in
    (replied, short)
