use Rattle.std.proofs.Common.{◌≡◌, ◌<◌, ◌++◌, length, take, Some, [], sym, ap, ◌∙◌, arith}
use Rattle.std.proofs.lemmas.Grind.{common_steps}
use Rattle.std.proofs.lemmas.List.{take_all}
use Rattle.nbd_session.specs.Messages.{Whole, body_size, header_size}
use Rattle.nbd_session.proofs.Waiting.{held_header, front_short, kept_before, missing_short, front_at, missing_at, kept_at}
use Rattle.nbd_session.proofs.Waiting.{front_needs, no_body}
use Rattle.nbd_session.proofs.inbox.Inbox.take_header.Goals as goal

pub returns-then-len-size-clause-moved : goal.returns-then-len-size-clause-moved
returns-then-len-size-clause-moved g c = λ u w.
    let all = take c.min-taken.result c.args.piece.now in
    let e : c.extend_from_slice.new.self.items ≡ u ++ all =
    c.in_ok-extend_from_slice.ensures.items ∙ ap (λ x. x ++ all) (held_header c.args.self.now.phase u c.args.self.now.held.items
    c.args.self.now.missing w.partial w.held w.missing c.requires.header) in
    let k : length c.extend_from_slice.new.self.items < header_size c.args.self.now.phase = grind (arith, common_steps) in
    let l : length (u ++ all) < header_size c.args.self.now.phase = rw (← e) k in
    record {
      partial = front_short c.args.self.now.phase (u ++ all) l;
      held = e ∙ sym (kept_before c.args.self.now.phase (u ++ all) l);
      missing = c.requires.header ∙ sym (missing_short c.args.self.now.phase (u ++ all) l);
    }

pub returns-in-Some-eq0-clause-moved : goal.returns-in-Some-eq0-clause-moved
returns-in-Some-eq0-clause-moved g c = λ u w.
    let all = take c.min-taken.result c.args.piece.now in
    let phase = c.args.self.now.phase in
    let e : c.extend_from_slice.new.self.items ≡ u ++ all =
    c.in_ok-extend_from_slice.ensures.items ∙ ap (λ x. x ++ all) (held_header c.args.self.now.phase u c.args.self.now.held.items
    c.args.self.now.missing w.partial w.held w.missing c.requires.header) in
    let k : length c.extend_from_slice.new.self.items ≡ header_size c.args.self.now.phase = grind (arith, common_steps) in
    let l : length (u ++ all) ≡ header_size c.args.self.now.phase = rw (← e) k in
    let b : Some 0 ≡ body_size c.args.self.now.phase (u ++ all) =
    ap Some (sym c.in-Some-eq0.field-0-test) ∙ c.in-Some-eq0.ensures ∙ ap (body_size c.args.self.now.phase) (c.deref.ensures.value ∙ e) in
    let h : take (header_size c.args.self.now.phase) c.extend_from_slice.new.self.items ≡ u ++ all =
    take_all (header_size c.args.self.now.phase) c.extend_from_slice.new.self.items (omega arith) ∙ e in (
      [],
      no_body c.args.self.now.phase c.extend_from_slice.new.self.items k,
      front_at c.args.self.now.phase (u ++ all) (Some 0) l b ∙ ap (λ x. Whole (record { header = x; body = [] }) []) (sym h),
    )

pub returns-in-Some-clause-moved : goal.returns-in-Some-clause-moved
returns-in-Some-clause-moved g c = λ u w.
    let all = take c.min-taken.result c.args.piece.now in
    let e : c.extend_from_slice.new.self.items ≡ u ++ all =
    c.in_ok-extend_from_slice.ensures.items ∙ ap (λ x. x ++ all) (held_header c.args.self.now.phase u c.args.self.now.held.items
    c.args.self.now.missing w.partial w.held w.missing c.requires.header) in
    let k : length c.extend_from_slice.new.self.items ≡ header_size c.args.self.now.phase = grind (arith, common_steps) in
    let l : length (u ++ all) ≡ header_size c.args.self.now.phase = rw (← e) k in
    let b : Some c.in-Some.n ≡ body_size c.args.self.now.phase (u ++ all) =
    c.in-Some.ensures ∙ ap (body_size c.args.self.now.phase) (c.deref.ensures.value ∙ e) in
    record {
      partial = front_needs c.args.self.now.phase (u ++ all) c.in-Some.n l b c.in-Some.n-test.1;
      held = e ∙ sym (kept_at c.args.self.now.phase (u ++ all) l);
      missing = missing_at c.args.self.now.phase (u ++ all) c.in-Some.n l b;
    }
