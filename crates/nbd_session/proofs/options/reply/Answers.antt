use Rattle.std.proofs.Common.{◌++◌, ap, ◌∙◌}
use Rattle.nbd_session.proofs.InfoTypes.{two_parts}
use Rattle.nbd_session.proofs.options.reply.Goals as goal

pub returns-clause-ok : goal.returns-clause-ok
returns-clause-ok g c =
    two_parts _ _ _ c.reply_head-head.result c.args.bytes.now c.in_ok-extend_from_slice.ensures.items
    c.in_ok-extend_from_slice-2.ensures.items
    ∙ ap (λ h. c.args.out.now.items ++ (h ++ c.args.bytes.now)) c.reply_head-head.ensures
