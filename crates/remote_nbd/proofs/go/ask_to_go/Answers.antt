use Rattle.std.proofs.Common.{◌+◌, ◌++◌, length}
use Rattle.byteorder.specs.Endian.{big_bytes}
use Rattle.remote_nbd.specs.Messages.{option_head}
use Rattle.remote_nbd.proofs.Handshake.{sent_three}
use Rattle.remote_nbd.proofs.go.ask_to_go.Goals as goal

pub returns-clause-asked : goal.returns-clause-asked
returns-clause-asked g c =
    let len = length c.args.name.now in
    sent_three _ _ _ _ c.go_front.result (big_bytes 4 c.args.flags ++ option_head 7 (len + 6) ++ big_bytes 4 len)
    c.args.name.now (big_bytes 2 0)
    c.go_front.ensures
    c.in_ok-send_all.ensures.written c.in_ok-send_all-2.ensures.written c.in_ok-send_all-3.ensures.written
