use Rattle.std.proofs.Common.{◌≡◌, length, arith, sym, ◌∙◌, ap, subst, add-one, ℕ}
use Rattle.std.proofs.lemmas.Bool.{ne_eqb}
use Rattle.nbd_hub.specs.Sessions.{Entry, Passed}
use Rattle.nbd_hub.proofs.Lookup.{Passed-more, Place-of, lookup-passed}
use Rattle.nbd_hub.proofs.numbered.find.Goals as goal

pub returns-then-number-id : goal.returns-then-number-id
returns-then-number-id g c =
    Place-of c.args.id c.args.sessions.now c.loop-i.i c.index-sessions-i.result c.loop-i.invariant (omega arith)
    (ap (λ (n : Entry). n.number) (sym c.index-sessions-i.is) ∙ sym c.number.ensures ∙ c.if-number-id.true)

pub loop-i-preserved : goal.loop-i-preserved
loop-i-preserved g c =
    rw add-one (Passed-more c.args.id c.args.sessions.now c.loop-i.i c.index-sessions-i.result c.loop-i.invariant (omega arith)
    (ne_eqb _ c.args.id (λ q. c.if-number-id.false (c.number.ensures ∙ ap (λ (n : Entry). n.number) c.index-sessions-i.is ∙ q))))

pub returns : goal.returns
returns g c =
    let e : c.loop-i.i ≡ length c.args.sessions.now = omega arith in
    let P : ℕ → Type 0 = λ n. Passed c.args.id c.args.sessions.now n in
    lookup-passed c.args.id c.args.sessions.now (subst P e c.loop-i.invariant)
