use Rattle.std.proofs.Common.{◌≡◌, ◌-◌, ◌++◌, List, ℕ, length, take, drop, sym, ap, ◌∙◌, subst, arith, append_assoc, length-take}
use Rattle.std.proofs.Common.{length-drop}
use Rattle.std.proofs.lemmas.List.{take_rest, take-append-drop}
use Rattle.std.proofs.KnownBytes.{Appends-trans, Appends-kept}
use Rattle.std.specs.Io.KnownBytes.{Appends}
use Rattle.nbd_session.proofs.Moving.{next_bytes}
use Rattle.nbd_hub.proofs.stream.write_out.Goals as goal

parts : (bytes : List ℕ) (d n : ℕ) → bytes ≡ (take d bytes ++ take n (take (length bytes - d) (drop d bytes))) ++ drop n
    (take (length bytes - d) (drop d bytes))
parts bytes d n =
    let s = take (length bytes - d) (drop d bytes) in
    sym (take-append-drop d bytes) ∙ ap (λ x. take d bytes ++ x) (sym (take_rest bytes d) ∙ sym (take-append-drop n s))
    ∙ sym (append_assoc (take d bytes) (take n s) (drop n s))

pub returns-in-Ok-eq0-clause-err : goal.returns-in-Ok-eq0-clause-err
returns-in-Ok-eq0-clause-err g c =
    let bytes = c.args.bytes.now in
    let d = c.loop-done.done in
    let n = c.in-Ok-eq0.field-0 in
    let s = take (length bytes - d) (drop d bytes) in (
      take d bytes ++ take n s,
      drop n s,
      parts bytes d n,
      Appends-trans (g.W.Output.contents c.args.writer.now) (g.W.Output.contents c.loop-done.writer)
          (g.W.Output.contents c.write.new.self) (take d bytes) (take n s) c.loop-done.invariant.wrote c.in-Ok-eq0.ensures.bytes,
    )

pub returns-in-Err-clause-err : goal.returns-in-Err-clause-err
returns-in-Err-clause-err g c =
    let bytes = c.args.bytes.now in
    let d = c.loop-done.done in (
      take d bytes,
      drop d bytes,
      sym (take-append-drop d bytes),
      Appends-kept (g.W.Output.contents c.args.writer.now) (g.W.Output.contents c.loop-done.writer)
          (g.W.Output.contents c.write.new.self) (take d bytes) c.loop-done.invariant.wrote c.in-Err.ensures.bytes,
    )

pub loop-done-preserved : goal.loop-done-preserved
loop-done-preserved g c =
    let bytes = c.args.bytes.now in
    let d = c.loop-done.done in
    let n = c.in-Ok.taken in
    let s = take (length bytes - d) (drop d bytes) in
    let P : List ℕ → Type 0 = λ x. Appends (g.W.Output.contents c.args.writer.now) (g.W.Output.contents c.write.new.self) x in
    record {
      within = omega (
        arith,
        length-take (length bytes - d) (drop d bytes),
        length-drop d bytes,
        c.in-Ok.ensures.bound,
        c.loop-done.invariant.within,
      );
      wrote = subst P (next_bytes bytes d n) (Appends-trans (g.W.Output.contents c.args.writer.now)
          (g.W.Output.contents c.loop-done.writer) (g.W.Output.contents c.write.new.self) (take d bytes) (take n s)
          c.loop-done.invariant.wrote c.in-Ok.ensures.bytes);
      failures = c.in-Ok.ensures.failures.0 (omega (arith, c.in-Ok.taken-test)) ∙ c.loop-done.invariant.failures;
    }
