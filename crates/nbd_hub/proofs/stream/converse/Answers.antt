use Rattle.std.proofs.Common.{◌≡◌, ◌++◌, List, [], ℕ, Some, take, inr, sym, ◌∙◌, subst, refl, arith, length-append}
use Rattle.std.specs.Io.KnownBytes.{Appends}
use Rattle.std.proofs.KnownBytes.{Consumes-nil}
use Rattle.nbd_session.specs.Session.{State, IsAt, Talked}
use Rattle.nbd_session.specs.Handshake.{greeting}
use Rattle.nbd_session.proofs.Moving.{Keeps-refl, Keeps-trans}
use Rattle.nbd_hub.proofs.Turns.{talked_first, taken_at, taken_on, sets_none, sets_on, sets_at, some_is, on_err, on_ok, turned}
use Rattle.nbd_hub.proofs.Turns.{served_err, ended_if, open_if, turned_first, turned_on, failed_at, unfailed}
use Rattle.nbd_hub.proofs.stream.converse.Goals as goal

pub returns-then-is_err-clause-served : goal.returns-then-is_err-clause-served
returns-then-is_err-clause-served g c =
    let f = g.E.Export.facts in
    let q = on_err c.write_out.result _ c.if-is_err.ensures.value c.write_out.ensures.err in
    let e : greeting ≡ q.0 ++ q.1 = sym c.requires.greets ∙ sym c.deref.ensures.value ∙ q.2 in
    let P : List ℕ → Type 0 = λ x. Talked (f c.args.hub.now.1) (f c.args.hub.now.1) c.args.hub.now.0.offer [] x in (
      [],
      q.0,
      q.1,
      record { reads = Consumes-nil (g.R.Input.remaining c.args.reader.now); writes = q.3 },
      subst P e (talked_first (f c.args.hub.now.1) c.args.hub.now.0.offer),
      taken_at c.args.hub.now.0.offer c.args.limit 0 []
          (λ e. let z : ⊥ = cc in z) (omega arith) (omega arith),
    )

pub returns-then-is_err-clause-write_failed : goal.returns-then-is_err-clause-write_failed
returns-then-is_err-clause-write_failed g c =
    failed_at c.write_out.result _ _ c.if-is_err.ensures.value c.write_out.ensures.fault c.write_out.ensures.failed

pub returns-then-is_err-clause-after : goal.returns-then-is_err-clause-after
returns-then-is_err-clause-after g c = λ history x. turned_first (g.E.Export.facts c.args.hub.now.1) c.args.hub.now.0 history c.args.id x

pub loop-turn-init : goal.loop-turn-init
loop-turn-init g c =
    let f = g.E.Export.facts in
    let o = c.requires.one in
    let w = on_ok c.write_out.result _ c.if-is_err.ensures.value c.write_out.ensures.ok in
    let P : List ℕ → Type 0 = λ x. Appends (g.W.Output.contents c.args.writer.now) (g.W.Output.contents c.write_out.new.writer) x in
    record {
      offer = refl;
      keeps = Keeps-refl (f c.args.hub.now.1);
      later = g.met.E.Export.later_same c.args.hub.now.1;
      read = refl;
      wrote = unfailed c.write_out.result _ _ c.if-is_err.ensures.value c.write_out.ensures.failed;
      next = refl;
      count = refl;
      after = λ history x. turned_first (f c.args.hub.now.1) c.args.hub.now.0 history c.args.id x;
      ran = (
        [],
        greeting,
        o.0,
        record {
          reads = Consumes-nil (g.R.Input.remaining c.args.reader.now);
          writes = subst P (c.deref.ensures.value ∙ c.requires.greets) w;
        },
        talked_first (f c.args.hub.now.1) c.args.hub.now.0.offer,
        o.2,
        o.3,
        o.4,
        sets_none c.args.hub.now.0.sessions c.args.id (Some o.0) o.1,
        omega arith,
        omega arith,
        λ e. let z : ⊥ = cc in z,
      );
    }

pub returns-then-over-clause-keeps : goal.returns-then-over-clause-keeps
returns-then-over-clause-keeps g c =
    let f = g.E.Export.facts in
    Keeps-trans (f c.args.hub.now.1) (f c.loop-turn.hub.1) (f c.exchange.new.hub.1) c.loop-turn.invariant.keeps
    c.in-Ok-exchange.ensures.keeps

pub returns-then-over-clause-others : goal.returns-then-over-clause-others
returns-then-over-clause-others g c =
    let x = c.in-Ok-exchange.ensures.exchanged in
    let n = c.loop-turn.invariant.ran in (
      x.1,
      sets_on c.args.hub.now.0.sessions c.loop-turn.hub.0.sessions c.exchange.new.hub.0.sessions c.args.id (Some n.2) (Some x.1)
          n.8 x.5,
    )

pub returns-then-over-clause-after : goal.returns-then-over-clause-after
returns-then-over-clause-after g c = λ history x.
    let f = g.E.Export.facts in
    turned_on (f c.loop-turn.hub.1) (f c.exchange.new.hub.1) c.loop-turn.hub.0 c.exchange.new.hub.0 history c.args.id
    (c.loop-turn.invariant.after history x) c.in-Ok-exchange.ensures.after

pub returns-in-Err-exchange-clause-keeps : goal.returns-in-Err-exchange-clause-keeps
returns-in-Err-exchange-clause-keeps g c =
    let f = g.E.Export.facts in
    Keeps-trans (f c.args.hub.now.1) (f c.loop-turn.hub.1) (f c.exchange.new.hub.1) c.loop-turn.invariant.keeps
    c.in-Err-exchange.ensures.keeps

pub returns-in-Err-exchange-clause-others : goal.returns-in-Err-exchange-clause-others
returns-in-Err-exchange-clause-others g c =
    let x = c.in-Err-exchange.ensures.exchanged in
    let n = c.loop-turn.invariant.ran in (
      x.1,
      sets_on c.args.hub.now.0.sessions c.loop-turn.hub.0.sessions c.exchange.new.hub.0.sessions c.args.id (Some n.2) (Some x.1)
          n.8 x.5,
    )

pub returns-in-Err-exchange-clause-after : goal.returns-in-Err-exchange-clause-after
returns-in-Err-exchange-clause-after g c = λ history x.
    let f = g.E.Export.facts in
    turned_on (f c.loop-turn.hub.1) (f c.exchange.new.hub.1) c.loop-turn.hub.0 c.exchange.new.hub.0 history c.args.id
    (c.loop-turn.invariant.after history x) c.in-Err-exchange.ensures.after

pub returns-in-Err-exchange-clause-served : goal.returns-in-Err-exchange-clause-served
returns-in-Err-exchange-clause-served g c =
    let f = g.E.Export.facts in
    let R = g.R.Input.remaining in
    let W = g.W.Output.contents in
    let i = c.loop-turn.invariant in
    let n = i.ran in
    let e = c.in-Err-exchange.ensures in
    let x = e.exchanged in
    let piece = take c.in-Ok.taken c.read.new.buf in
    let A : State → Type 0 = λ s. IsAt s n.0 in
    let at : IsAt x.0 n.0 = subst A (some_is n.2 x.0
    (sym (sets_at c.args.hub.now.0.sessions c.loop-turn.hub.0.sessions c.args.id (Some n.2) n.8) ∙ x.2)) n.5 in
    served_err (f c.args.hub.now.1) (f c.loop-turn.hub.1) (f c.exchange.new.hub.1) c.args.hub.now.0.offer x.0 x.1
    (R c.args.reader.now) (R c.loop-turn.reader) (R c.read.new.self)
    (W c.args.writer.now) (W c.loop-turn.writer) (W c.exchange.new.writer) c.args.limit n.0 n.1 piece c.in-Err-exchange.fault
    i.keeps e.keeps (x.3 ∙ i.offer) n.3 n.4 at c.in-Ok.ensures.bytes.0
    (taken_on c.args.hub.now.0.offer c.args.limit c.loop-turn.turn n.0 piece n.11 n.10 (omega arith)
    (omega (arith, c.in-Ok.ensures.bound.0, c.in-Ok.ensures.bound.1))) x.6

pub returns-then-over-clause-served : goal.returns-then-over-clause-served
returns-then-over-clause-served g c =
    let f = g.E.Export.facts in
    let R = g.R.Input.remaining in
    let W = g.W.Output.contents in
    let i = c.loop-turn.invariant in
    let n = i.ran in
    let e = c.in-Ok-exchange.ensures in
    let x = e.exchanged in
    let y = x.6 in
    let piece = take c.in-Ok.taken c.read.new.buf in
    let A : State → Type 0 = λ s. IsAt s n.0 in
    let at : IsAt x.0 n.0 = subst A (some_is n.2 x.0
    (sym (sets_at c.args.hub.now.0.sessions c.loop-turn.hub.0.sessions c.args.id (Some n.2) n.8) ∙ x.2)) n.5 in
    let t = turned (f c.args.hub.now.1) (f c.loop-turn.hub.1) (f c.exchange.new.hub.1) c.args.hub.now.0.offer x.0 x.1
    (R c.args.reader.now) (R c.loop-turn.reader) (R c.read.new.self)
    (W c.args.writer.now) (W c.loop-turn.writer) (W c.exchange.new.writer) n.0 n.1 piece y.0 i.keeps e.keeps (x.3 ∙ i.offer) n.3 n.4
    at c.in-Ok.ensures.bytes.0 y.1 y.2 in (
      n.0 ++ piece,
      n.1 ++ y.0,
      t.moved,
      t.talked,
      taken_on c.args.hub.now.0.offer c.args.limit c.loop-turn.turn n.0 piece n.11 n.10 (omega arith)
          (omega (arith, c.in-Ok.ensures.bound.0, c.in-Ok.ensures.bound.1)),
      inr (ended_if c.in-Ok-exchange.over c.args.hub.now.0.offer x.1 (n.0 ++ piece) (x.4 ∙ i.offer) y.4 t.at y.3 c.if-over.true),
    )

pub loop-turn-preserved : goal.loop-turn-preserved
loop-turn-preserved g c =
    let f = g.E.Export.facts in
    let R = g.R.Input.remaining in
    let W = g.W.Output.contents in
    let i = c.loop-turn.invariant in
    let n = i.ran in
    let e = c.in-Ok-exchange.ensures in
    let x = e.exchanged in
    let y = x.6 in
    let piece = take c.in-Ok.taken c.read.new.buf in
    let A : State → Type 0 = λ s. IsAt s n.0 in
    let at : IsAt x.0 n.0 = subst A (some_is n.2 x.0
    (sym (sets_at c.args.hub.now.0.sessions c.loop-turn.hub.0.sessions c.args.id (Some n.2) n.8) ∙ x.2)) n.5 in
    let t = turned (f c.args.hub.now.1) (f c.loop-turn.hub.1) (f c.exchange.new.hub.1) c.args.hub.now.0.offer x.0 x.1
    (R c.args.reader.now) (R c.loop-turn.reader) (R c.read.new.self)
    (W c.args.writer.now) (W c.loop-turn.writer) (W c.exchange.new.writer) n.0 n.1 piece y.0 i.keeps e.keeps (x.3 ∙ i.offer) n.3 n.4
    at c.in-Ok.ensures.bytes.0 y.1 y.2 in
    record {
      offer = e.offer ∙ i.offer;
      keeps = Keeps-trans (f c.args.hub.now.1) (f c.loop-turn.hub.1) (f c.exchange.new.hub.1) i.keeps e.keeps;
      later = g.met.E.Export.later_on c.args.hub.now.1 c.loop-turn.hub.1 c.exchange.new.hub.1 i.later e.later;
      read = c.in-Ok.ensures.failures ∙ i.read;
      wrote = e.write_failed ∙ i.wrote;
      next = e.next ∙ i.next;
      count = e.count ∙ i.count;
      after = λ history x. turned_on (f c.loop-turn.hub.1) (f c.exchange.new.hub.1) c.loop-turn.hub.0 c.exchange.new.hub.0 history
          c.args.id (i.after history x) e.after;
      ran = (
        n.0 ++ piece,
        n.1 ++ y.0,
        x.1,
        t.moved,
        t.talked,
        t.at,
        y.4,
        x.4 ∙ i.offer,
        sets_on c.args.hub.now.0.sessions c.loop-turn.hub.0.sessions c.exchange.new.hub.0.sessions c.args.id (Some n.2) (Some x.1) n.8 x.5,
        omega (arith, length-append n.0 piece, c.in-Ok.ensures.bound.1, n.9, c.if-taken-eq0.false),
        omega (arith, length-append n.0 piece, c.in-Ok.ensures.bound.0, c.in-Ok.ensures.bound.1, n.10),
        open_if c.in-Ok-exchange.over c.args.hub.now.0.offer x.1 (n.0 ++ piece) (x.4 ∙ i.offer) y.4 t.at y.3 c.if-over.false,
      );
    }

pub returns-then-is_err-clause-later : goal.returns-then-is_err-clause-later
returns-then-is_err-clause-later g c = g.met.E.Export.later_same c.args.hub.now.1

pub returns-then-over-clause-later : goal.returns-then-over-clause-later
returns-then-over-clause-later g c = g.met.E.Export.later_on c.args.hub.now.1 c.loop-turn.hub.1 c.exchange.new.hub.1
    c.loop-turn.invariant.later c.in-Ok-exchange.ensures.later

pub returns-in-Err-exchange-clause-later : goal.returns-in-Err-exchange-clause-later
returns-in-Err-exchange-clause-later g c = g.met.E.Export.later_on c.args.hub.now.1 c.loop-turn.hub.1 c.exchange.new.hub.1
    c.loop-turn.invariant.later c.in-Err-exchange.ensures.later

pub returns-clause-served : goal.returns-clause-served
returns-clause-served g c =
    let n = c.loop-turn.invariant.ran in (
      n.0,
      n.1,
      n.3,
      n.4,
      taken_at c.args.hub.now.0.offer c.args.limit c.loop-turn.turn n.0 n.11 n.10 c.loop-turn.auto.turn-end,
      omega (arith, n.9),
      n.11,
    )
