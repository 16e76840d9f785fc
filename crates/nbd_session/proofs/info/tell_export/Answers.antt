use Rattle.std.proofs.Common.{◌++◌, ap, ◌∙◌}
use Rattle.byteorder.specs.Endian.{big_bytes}
use Rattle.nbd_session.specs.Options.{ack, block_size_reply, option_reply, transmission_flags}
use Rattle.nbd_session.proofs.InfoTypes.{three_parts}
use Rattle.nbd_session.proofs.info.tell_export.Goals as goal

pub returns-clause-ok : goal.returns-clause-ok
returns-clause-ok g c =
    three_parts _ _ _ _ (option_reply c.args.number 3 c.export_info.result) (block_size_reply c.wants_block_size-wanted.result
    c.args.offer.now.block c.args.number) (ack c.args.number)
    c.in_ok-reply.ensures.ok c.in_ok-tell_block_size.ensures.ok c.in_ok-reply-2.ensures.ok
    ∙ ap (λ x. c.args.out.now.items ++ ((option_reply c.args.number 3 x ++ block_size_reply c.wants_block_size-wanted.result
    c.args.offer.now.block c.args.number) ++ ack c.args.number)) c.export_info.ensures
    ∙ ap (λ w. c.args.out.now.items ++ ((option_reply c.args.number 3 (big_bytes 2 0 ++ big_bytes 8 c.args.offer.now.size ++
    big_bytes 2 transmission_flags) ++ block_size_reply w c.args.offer.now.block c.args.number) ++ ack c.args.number))
    c.wants_block_size-wanted.ensures
