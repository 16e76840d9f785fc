use Rattle.std.proofs.Common.{take}
use Rattle.std.proofs.KnownBytes.{Keeps-trans}
use Rattle.remote_nbd.proofs.Handshake.{informs_more, goes_not}
use Rattle.remote_nbd.proofs.go.take_replies.Goals as goal

pub returns-in-2147483649-clause-given : goal.returns-in-2147483649-clause-given
returns-in-2147483649-clause-given g c =
    goes_not _ _ _ c.replies.found _ (take c.in_ok-reply.reply.len c.take_reply.new.buffer) c.replies.invariant.informed
    c.in-2147483649.is c.in_ok-reply.ensures.given

pub replies-preserved : goal.replies-preserved
replies-preserved g c = record {
  informed = informs_more _ _ _ c.replies.found _ _ (take c.in_ok-reply.reply.len c.take_reply.new.buffer) c.replies.invariant.informed
      c.in-3.is c.in_ok-reply.ensures.given c.in_ok-found-in-3.ensures;
  unwritten = Keeps-trans _ _ _ c.replies.invariant.unwritten c.take_reply.ensures.unwritten;
}
