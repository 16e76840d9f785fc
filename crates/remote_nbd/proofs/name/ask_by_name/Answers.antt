use Rattle.std.proofs.Common.{length}
use Rattle.remote_nbd.specs.Messages.{option_head}
use Rattle.remote_nbd.proofs.Handshake.{sent_two}
use Rattle.remote_nbd.proofs.name.ask_by_name.Goals as goal

pub returns-clause-asked : goal.returns-clause-asked
returns-clause-asked g c =
    sent_two _ _ _ c.option_bytes.result (option_head 1 (length c.args.name.now)) c.args.name.now c.option_bytes.ensures
    c.in_ok-send_all.ensures.written c.in_ok-send_all-2.ensures.written
