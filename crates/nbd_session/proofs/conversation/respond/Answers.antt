use Rattle.std.proofs.Common.{refl}
use Rattle.nbd_session.proofs.Moving.{answers_option}
use Rattle.nbd_session.proofs.conversation.respond.Goals as goal

pub returns-in_ok-next-in-Options-clause-ok : goal.returns-in_ok-next-in-Options-clause-ok
returns-in_ok-next-in-Options-clause-ok g c = (
  _,
  c.in_ok-next-in-Options.ensures.ok,
  answers_option _ _ c.args.offer.now c.args.phase c.in-Options.fixed_newstyle c.in-Options.no_zeroes c.header_size.result c.u32_at.result
      c.args.message.now c.split_at.result.0.now c.split_at.result.1.now c.in-Options.is c.header_size.ensures
      c.split_at.ensures.front c.split_at.ensures.back c.u32_at.ensures refl,
)
