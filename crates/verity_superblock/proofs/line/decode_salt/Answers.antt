use Rattle.std.proofs.Common.{◌≡◌, ◌<◌, ◌≤◌, ◌/◌, length, take, refl, sym, ap, ◌∙◌, arith}
use Rattle.std.proofs.lemmas.List.{length-take-le}
use Rattle.hex.proofs.HexLemmas.{IsOk-written, IsOk-decode_sized}
use Rattle.hex.specs.Hex.{decode_sized}
use Rattle.verity_superblock.proofs.Readings.{sized-salt, salt-sized, ok_from, ok_not_err}
use Rattle.verity_superblock.proofs.line.decode_salt.Goals as goal

pub returns-in-Ok-clause-found : goal.returns-in-Ok-clause-found
returns-in-Ok-clause-found c =
    let n = length (take (length c.args.digits.now / 2) c.args.room.now) in
    let written = IsOk-written (decode_sized c.args.digits.now n) c.decode_to_slice.result c.decode_to_slice.new.out
    c.decode_to_slice.ensures.value in
    let ok = written.0 (ok_from _ _ (sym c.in-Ok.is)) in
    let len = ((IsOk-decode_sized c.args.digits.now n).0 ok).0 in
    (λ _. sized-salt c.args.digits.now n (omega arith) (omega arith) ok, λ _. refl)

pub returns-in-Err-clause-found : goal.returns-in-Err-clause-found
returns-in-Err-clause-found c =
    let n = length (take (length c.args.digits.now / 2) c.args.room.now) in
    let written = IsOk-written (decode_sized c.args.digits.now n) c.decode_to_slice.result c.decode_to_slice.new.out
    c.decode_to_slice.ensures.value in
    let told = c.told-room in
    let len : n ≡ length c.args.digits.now / 2 = length-take-le (length c.args.digits.now / 2) c.args.room.now (omega arith) in
    (λ h. cc, λ is. absurd (ok_not_err _ _ c.in-Err.is (written.1 ((salt-sized c.args.digits.now n len is).2))))
