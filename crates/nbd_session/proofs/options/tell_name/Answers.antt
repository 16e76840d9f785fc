use Rattle.std.proofs.Common.{◌∙◌}
use Rattle.nbd_session.proofs.InfoTypes.{four_parts, name_told}
use Rattle.nbd_session.proofs.options.tell_name.Goals as goal

pub returns-clause-ok : goal.returns-clause-ok
returns-clause-ok g c =
    four_parts _ _ _ _ _ c.reply_head-head.result c.u32_bytes-size.result c.bytes-name.result.now c.reply_head-end.result
    c.in_ok-extend_from_slice.ensures.items c.in_ok-extend_from_slice-2.ensures.items c.in_ok-extend_from_slice-3.ensures.items
    c.in_ok-extend_from_slice-4.ensures.items
    ∙ name_told c.args.offer.now c.args.number c.args.out.now.items c.reply_head-head.result c.u32_bytes-size.result
    c.bytes-name.result.now c.reply_head-end.result
    c.reply_head-head.ensures c.u32_bytes-size.ensures c.bytes-name.ensures.value c.reply_head-end.ensures
