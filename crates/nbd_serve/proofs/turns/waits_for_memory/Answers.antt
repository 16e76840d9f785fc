use Rattle.std.proofs.Common.{◌+◌, length, inl, inr, refl, arith}
use Rattle.std.proofs.lemmas.Bool.{cases_lt}
use Rattle.std.proofs.lemmas.Option.{slice_get_read}
use Rattle.nbd_session.specs.Short.{reply_head}
use Rattle.nbd_serve.proofs.turns.waits_for_memory.Goals as goal

pub returns-then-not-has_room : goal.returns-then-not-has_room
returns-then-not-has_room g c = λ e.
    let cs = c.args.clients.now in
    let d = c.index-clients-at in
    record {
      client = d.result;
      is_there = slice_get_read cs (length cs) c.args.at d.result refl c.requires d.is;
      bytes = c.asks.result;
      asks = c.asks.ensures;
      long = elim (cases_lt c.args.budget.share (reply_head + c.asks.result)) [
        | inl l ↦ l
        | inr l ↦
            let t = c.has_room.ensures.share (omega (arith, c.from-reply.ensures, l)) in
            let f = c.if-not-has_room.true in
            absurd (let z : ⊥ = cc in z)
      ];
    }
