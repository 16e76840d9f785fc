-- "Fixed newstyle negotiation": the greeting and the client's flags.
use Rattle.std.specs.Prelude.{ℕ, ◌+◌, ◌/◌, ◌%◌, ◌==◌, List, ◌++◌}
use Rattle.nbd_session.specs.declared.phase.Phase.{Phase}
use Rattle.nbd_session.specs.declared.phase.Phase.TheVariants.{Options}
use Rattle.nbd_session.specs.Protocol.{nbdmagic, ihaveopt, nbd_flag_fixed_newstyle, nbd_flag_no_zeroes}
use Rattle.byteorder.specs.Endian.{big_bytes}

-- what the server sends first: NBDMAGIC, IHAVEOPT, the handshake flags
abbrev pub greeting : List ℕ
greeting = big_bytes 8 nbdmagic ++ big_bytes 8 ihaveopt ++ big_bytes 2 (nbd_flag_fixed_newstyle + nbd_flag_no_zeroes)

-- the phase after the client's flags: bit 0 is fixed newstyle, bit 1 is no zeroes
abbrev pub phase_after_flags : ℕ → Phase
phase_after_flags flags = Options (flags % 2 == 1) ((flags / 2) % 2 == 1)
