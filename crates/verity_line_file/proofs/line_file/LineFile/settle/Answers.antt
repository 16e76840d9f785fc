use Rattle.std.proofs.Common.{◌≡◌, inl, inr, true}
use Rattle.os_line_file.specs.Folder.{Texts, MayReplace, MayRemove}
use Rattle.verity_line_file.proofs.Moments.{once}
use Rattle.verity_line_file.proofs.Settling.{fits_as_read, next_as_read, no_next_as_read}
use Rattle.verity_line_file.specs.Standing.{IsWholeLineOf, FitsLine, HasNext, Settles}
use Rattle.verity_line_file.proofs.line_file.LineFile.settle.Goals as goal

pub returns-in_err-replace-clause-any_moment : goal.returns-in_err-replace-clause-any_moment
returns-in_err-replace-clause-any_moment g c =
    let old = c.args.self.now.folder in
    let seen = g.F.LineFolder.seen old in
    let v = c.args.shown.now in
    let has : HasNext v seen = next_as_read v c.in-Some.next.now seen c.in-Some.ensures
    (c.in_ok-is_whole_line_of.ensures.value.0 c.if-branch.true) in
    once g.F.LineFolder.moment g.F.LineFolder.left_since old c.replace.new.self
    (Settles v seen (g.F.LineFolder.may_leave old)) (MayReplace seen)
    (λ d left. inl (g.met.F.LineFolder.only_now old d left)) c.replace.ensures.time (λ d part. inr (inl (has, part)))

pub returns-then-branch-clause-any_moment : goal.returns-then-branch-clause-any_moment
returns-then-branch-clause-any_moment g c =
    let old = c.args.self.now.folder in
    let seen = g.F.LineFolder.seen old in
    let v = c.args.shown.now in
    let has : HasNext v seen = next_as_read v c.in-Some.next.now seen c.in-Some.ensures
    (c.in_ok-is_whole_line_of.ensures.value.0 c.if-branch.true) in
    once g.F.LineFolder.moment g.F.LineFolder.left_since old c.replace.new.self
    (Settles v seen (g.F.LineFolder.may_leave old)) (MayReplace seen)
    (λ d left. inl (g.met.F.LineFolder.only_now old d left)) c.replace.ensures.time (λ d part. inr (inl (has, part)))

pub returns-in_err-remove_next-clause-any_moment : goal.returns-in_err-remove_next-clause-any_moment
returns-in_err-remove_next-clause-any_moment g c =
    let old = c.args.self.now.folder in
    let seen = g.F.LineFolder.seen old in
    let v = c.args.shown.now in
    let other : HasNext v seen → ⊥ = no_next_as_read v c.in-Some.next.now seen c.in-Some.ensures
    (λ (w : IsWholeLineOf v c.in-Some.next.now). let is : c.in_ok-is_whole_line_of.field-0 ≡ true =
    c.in_ok-is_whole_line_of.ensures.value.1 w in let not = c.if-branch.false in cc) in
    let fits : FitsLine v seen = fits_as_read v c.line.result seen c.line.ensures c.in_ok-check_line.ensures.fits in
    once g.F.LineFolder.moment g.F.LineFolder.left_since old c.remove_next.new.self
    (Settles v seen (g.F.LineFolder.may_leave old)) (MayRemove seen)
    (λ d left. inl (g.met.F.LineFolder.only_now old d left)) c.remove_next.ensures.time
    (λ d part. inr (inr (other, fits, part)))

pub returns-clause-any_moment : goal.returns-clause-any_moment
returns-clause-any_moment g c =
    let old = c.args.self.now.folder in
    let seen = g.F.LineFolder.seen old in
    let v = c.args.shown.now in
    let other : HasNext v seen → ⊥ = no_next_as_read v c.in-Some.next.now seen c.in-Some.ensures
    (λ (w : IsWholeLineOf v c.in-Some.next.now). let is : c.in_ok-is_whole_line_of.field-0 ≡ true =
    c.in_ok-is_whole_line_of.ensures.value.1 w in let not = c.if-branch.false in cc) in
    let fits : FitsLine v seen = fits_as_read v c.line.result seen c.line.ensures c.in_ok-check_line.ensures.fits in
    once g.F.LineFolder.moment g.F.LineFolder.left_since old c.remove_next.new.self
    (Settles v seen (g.F.LineFolder.may_leave old)) (MayRemove seen)
    (λ d left. inl (g.met.F.LineFolder.only_now old d left)) c.remove_next.ensures.time
    (λ d part. inr (inr (other, fits, part)))
