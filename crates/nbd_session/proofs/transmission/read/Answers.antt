use Rattle.std.proofs.Common.{rules, ◌≡◌, ◌++◌, List, ℕ, length, take, drop, Err, ap, ◌∙◌}
use Rattle.std.proofs.lemmas.List.{take_at}
use Rattle.nbd_session.proofs.Reading.{read_gives, read_fails}
use Rattle.nbd_session.proofs.transmission.read.Goals as goal

pub returns-in-Ok-clause-ok : goal.returns-in-Ok-clause-ok
returns-in-Ok-clause-ok g c =
    let x = c.in-Ok.ensures.ok in
    read_gives _ _ c.args.size c.args.request.now c.args.out.now.items _ _ c.simple_reply-2.result x.0
    c.if-not-may_read.ensures c.if-request-eq0.false c.in_ok-extend_from_slice-2.ensures.items c.simple_reply-2.ensures x.1 x.2
    c.in-Ok.ensures.costs

pub returns-in-Err-clause-ok : goal.returns-in-Err-clause-ok
returns-in-Err-clause-ok g c =
    let before = c.args.out.now.items in
    let head = c.simple_reply-head.result in
    let whole : length c.overwrite_end.new.out ≡ c.read_at.new.out.len = c.overwrite_end.auto.out ∙ c.deref_mut.ensures.len in
    let shown : c.overwrite_end.new.out ≡ before ++ head =
    c.overwrite_end.ensures
    ∙ ap (λ (x : List ℕ). take c.len-start.result x ++ head) (c.deref_mut.ensures.value ∙ c.in-Err.ensures.unchanged
    ∙ c.in_ok-extend_from_slice-2.ensures.items)
    ∙ ap (λ (x : List ℕ). x ++ head) (take_at before c.simple_reply-2.result c.len-start.result (search rules)) in
    let back = take_at c.overwrite_end.new.out (drop (length c.overwrite_end.new.out) c.read_at.new.out.items) c.read_at.new.out.len
    whole in
    read_fails _ _ c.args.size c.error_number.result c.args.request.now before _ head c.in-Err.fault
    c.if-not-may_read.ensures c.if-request-eq0.false (back ∙ shown) c.error_number.ensures c.simple_reply-head.ensures
    (λ e. c.in-Err.ensures.io (ap Err e)) (λ e. c.in-Err.ensures.lack (ap Err e)) c.in-Err.ensures.costs
