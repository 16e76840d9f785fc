use Rattle.nbd_serve.proofs.connected.Connected.has_stalled.Goals as goal

pub returns-then-is_lulled : goal.returns-then-is_lulled
returns-then-is_lulled g c = λ e.
    let l = c.is_lulled.ensures.lulled c.if-is_lulled.true in
    let w = c.another_waits.ensures e in
    record {
      client = l.0;
      is_there = l.2;
      seat = l.1;
      sits = l.3;
      lulled = l.4;
      other = w.0;
      another = w.1;
      waits = w.2;
    }
