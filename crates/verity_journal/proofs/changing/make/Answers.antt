use Rattle.std.proofs.Common.{arith}
use Rattle.verity_disks.specs.Disks.{Contents, Reached}
use Rattle.verity_journal.specs.Plan.{Amid}
use Rattle.verity_journal.proofs.Made.{amid_trans}
use Rattle.verity_disks.proofs.Moments.{started, goes_on, joined, reached_more}
use Rattle.verity_journal.proofs.Sides.{here_self, stretch_crash, amid_crash}
use Rattle.verity_journal.proofs.changing.make.Goals as goal

pub returns-in_err-set_len-clause-crash : goal.returns-in_err-set_len-clause-crash
returns-in_err-set_len-clause-crash g c =
    let side = c.args.side.now in
    let old = c.args.disks.now in
    let device = c.args.device in
    let Q = Reached device (Amid side) (g.K.Disks.may_leave old) in
    let self = here_self side device (g.K.Disks.may_leave old) in
    let start = started g.K.Disks.moment g.K.Disks.left_since old Q (λ f left. self f (g.met.K.Disks.only_now old f left)) in
    let first = stretch_crash side device (g.K.Disks.may_leave old) _ _ _ (omega (
      arith,
      c.keep-keep.ensures,
      c.len-len.ensures,
      c.requires.kept,
    )) self c.set_len.ensures.crash in
    let kept = goes_on g.K.Disks.moment g.K.Disks.left_since old old c.set_len.new.self Q _ start c.set_len.ensures.time first in
    first

pub returns-in_err-set_len-clause-any_moment : goal.returns-in_err-set_len-clause-any_moment
returns-in_err-set_len-clause-any_moment g c =
    let side = c.args.side.now in
    let old = c.args.disks.now in
    let device = c.args.device in
    let Q = Reached device (Amid side) (g.K.Disks.may_leave old) in
    let self = here_self side device (g.K.Disks.may_leave old) in
    let start = started g.K.Disks.moment g.K.Disks.left_since old Q (λ f left. self f (g.met.K.Disks.only_now old f left)) in
    let first = stretch_crash side device (g.K.Disks.may_leave old) _ _ _ (omega (
      arith,
      c.keep-keep.ensures,
      c.len-len.ensures,
      c.requires.kept,
    )) self c.set_len.ensures.crash in
    let kept = goes_on g.K.Disks.moment g.K.Disks.left_since old old c.set_len.new.self Q _ start c.set_len.ensures.time first in
    kept

pub returns-in_err-set_len-2-clause-crash : goal.returns-in_err-set_len-2-clause-crash
returns-in_err-set_len-2-clause-crash g c =
    let side = c.args.side.now in
    let old = c.args.disks.now in
    let device = c.args.device in
    let Q = Reached device (Amid side) (g.K.Disks.may_leave old) in
    let self = here_self side device (g.K.Disks.may_leave old) in
    let start = started g.K.Disks.moment g.K.Disks.left_since old Q (λ f left. self f (g.met.K.Disks.only_now old f left)) in
    let first = stretch_crash side device (g.K.Disks.may_leave old) _ _ _ (omega (
      arith,
      c.keep-keep.ensures,
      c.len-len.ensures,
      c.requires.kept,
    )) self c.set_len.ensures.crash in
    let kept = goes_on g.K.Disks.moment g.K.Disks.left_since old old c.set_len.new.self Q _ start c.set_len.ensures.time first in
    let second = stretch_crash side device (g.K.Disks.may_leave old) _ _ _ (omega (
      arith,
      c.keep-keep.ensures,
      c.len-len.ensures,
      c.requires.kept,
    )) first c.set_len-2.ensures.crash in
    let resized = goes_on g.K.Disks.moment g.K.Disks.left_since old c.set_len.new.self c.set_len-2.new.self Q _ kept
    c.set_len-2.ensures.time second in
    second

pub returns-in_err-set_len-2-clause-any_moment : goal.returns-in_err-set_len-2-clause-any_moment
returns-in_err-set_len-2-clause-any_moment g c =
    let side = c.args.side.now in
    let old = c.args.disks.now in
    let device = c.args.device in
    let Q = Reached device (Amid side) (g.K.Disks.may_leave old) in
    let self = here_self side device (g.K.Disks.may_leave old) in
    let start = started g.K.Disks.moment g.K.Disks.left_since old Q (λ f left. self f (g.met.K.Disks.only_now old f left)) in
    let first = stretch_crash side device (g.K.Disks.may_leave old) _ _ _ (omega (
      arith,
      c.keep-keep.ensures,
      c.len-len.ensures,
      c.requires.kept,
    )) self c.set_len.ensures.crash in
    let kept = goes_on g.K.Disks.moment g.K.Disks.left_since old old c.set_len.new.self Q _ start c.set_len.ensures.time first in
    let second = stretch_crash side device (g.K.Disks.may_leave old) _ _ _ (omega (
      arith,
      c.keep-keep.ensures,
      c.len-len.ensures,
      c.requires.kept,
    )) first c.set_len-2.ensures.crash in
    let resized = goes_on g.K.Disks.moment g.K.Disks.left_since old c.set_len.new.self c.set_len-2.new.self Q _ kept
    c.set_len-2.ensures.time second in
    resized

pub returns-in_err-change-clause-crash : goal.returns-in_err-change-clause-crash
returns-in_err-change-clause-crash g c =
    let side = c.args.side.now in
    let old = c.args.disks.now in
    let device = c.args.device in
    let Q = Reached device (Amid side) (g.K.Disks.may_leave old) in
    let self = here_self side device (g.K.Disks.may_leave old) in
    let start = started g.K.Disks.moment g.K.Disks.left_since old Q (λ f left. self f (g.met.K.Disks.only_now old f left)) in
    let first = stretch_crash side device (g.K.Disks.may_leave old) _ _ _ (omega (
      arith,
      c.keep-keep.ensures,
      c.len-len.ensures,
      c.requires.kept,
    )) self c.set_len.ensures.crash in
    let kept = goes_on g.K.Disks.moment g.K.Disks.left_since old old c.set_len.new.self Q _ start c.set_len.ensures.time first in
    let second = stretch_crash side device (g.K.Disks.may_leave old) _ _ _ (omega (
      arith,
      c.keep-keep.ensures,
      c.len-len.ensures,
      c.requires.kept,
    )) first c.set_len-2.ensures.crash in
    let resized = goes_on g.K.Disks.moment g.K.Disks.left_since old c.set_len.new.self c.set_len-2.new.self Q _ kept
    c.set_len-2.ensures.time second in
    let third = amid_crash side device (g.K.Disks.may_leave old) _ _ second c.change.ensures.crash in
    let changed = joined g.K.Disks.moment g.K.Disks.left_since old c.set_len-2.new.self c.change.new.disks Q _ resized
    c.change.ensures.any_moment
    (λ f q. reached_more device (Amid side) (Amid side) (g.K.Disks.may_leave old) (g.K.Disks.may_leave c.set_len-2.new.self)
    (amid_trans side) second f q) in
    third

pub returns-in_err-change-clause-any_moment : goal.returns-in_err-change-clause-any_moment
returns-in_err-change-clause-any_moment g c =
    let side = c.args.side.now in
    let old = c.args.disks.now in
    let device = c.args.device in
    let Q = Reached device (Amid side) (g.K.Disks.may_leave old) in
    let self = here_self side device (g.K.Disks.may_leave old) in
    let start = started g.K.Disks.moment g.K.Disks.left_since old Q (λ f left. self f (g.met.K.Disks.only_now old f left)) in
    let first = stretch_crash side device (g.K.Disks.may_leave old) _ _ _ (omega (
      arith,
      c.keep-keep.ensures,
      c.len-len.ensures,
      c.requires.kept,
    )) self c.set_len.ensures.crash in
    let kept = goes_on g.K.Disks.moment g.K.Disks.left_since old old c.set_len.new.self Q _ start c.set_len.ensures.time first in
    let second = stretch_crash side device (g.K.Disks.may_leave old) _ _ _ (omega (
      arith,
      c.keep-keep.ensures,
      c.len-len.ensures,
      c.requires.kept,
    )) first c.set_len-2.ensures.crash in
    let resized = goes_on g.K.Disks.moment g.K.Disks.left_since old c.set_len.new.self c.set_len-2.new.self Q _ kept
    c.set_len-2.ensures.time second in
    let third = amid_crash side device (g.K.Disks.may_leave old) _ _ second c.change.ensures.crash in
    let changed = joined g.K.Disks.moment g.K.Disks.left_since old c.set_len-2.new.self c.change.new.disks Q _ resized
    c.change.ensures.any_moment
    (λ f q. reached_more device (Amid side) (Amid side) (g.K.Disks.may_leave old) (g.K.Disks.may_leave c.set_len-2.new.self)
    (amid_trans side) second f q) in
    changed

pub returns-clause-crash : goal.returns-clause-crash
returns-clause-crash g c =
    let side = c.args.side.now in
    let old = c.args.disks.now in
    let device = c.args.device in
    let Q = Reached device (Amid side) (g.K.Disks.may_leave old) in
    let self = here_self side device (g.K.Disks.may_leave old) in
    let start = started g.K.Disks.moment g.K.Disks.left_since old Q (λ f left. self f (g.met.K.Disks.only_now old f left)) in
    let first = stretch_crash side device (g.K.Disks.may_leave old) _ _ _ (omega (
      arith,
      c.keep-keep.ensures,
      c.len-len.ensures,
      c.requires.kept,
    )) self c.set_len.ensures.crash in
    let kept = goes_on g.K.Disks.moment g.K.Disks.left_since old old c.set_len.new.self Q _ start c.set_len.ensures.time first in
    let second = stretch_crash side device (g.K.Disks.may_leave old) _ _ _ (omega (
      arith,
      c.keep-keep.ensures,
      c.len-len.ensures,
      c.requires.kept,
    )) first c.set_len-2.ensures.crash in
    let resized = goes_on g.K.Disks.moment g.K.Disks.left_since old c.set_len.new.self c.set_len-2.new.self Q _ kept
    c.set_len-2.ensures.time second in
    let third = amid_crash side device (g.K.Disks.may_leave old) _ _ second c.change.ensures.crash in
    let changed = joined g.K.Disks.moment g.K.Disks.left_since old c.set_len-2.new.self c.change.new.disks Q _ resized
    c.change.ensures.any_moment
    (λ f q. reached_more device (Amid side) (Amid side) (g.K.Disks.may_leave old) (g.K.Disks.may_leave c.set_len-2.new.self)
    (amid_trans side) second f q) in
    let fourth : (f : Contents) → g.K.Disks.may_leave c.sync.new.self f → Q f = λ f now. third f (c.sync.ensures.crash f now) in
    let ended = goes_on g.K.Disks.moment g.K.Disks.left_since old c.change.new.disks c.sync.new.self Q _ changed c.sync.ensures.time
    fourth in
    fourth

pub returns-clause-any_moment : goal.returns-clause-any_moment
returns-clause-any_moment g c =
    let side = c.args.side.now in
    let old = c.args.disks.now in
    let device = c.args.device in
    let Q = Reached device (Amid side) (g.K.Disks.may_leave old) in
    let self = here_self side device (g.K.Disks.may_leave old) in
    let start = started g.K.Disks.moment g.K.Disks.left_since old Q (λ f left. self f (g.met.K.Disks.only_now old f left)) in
    let first = stretch_crash side device (g.K.Disks.may_leave old) _ _ _ (omega (
      arith,
      c.keep-keep.ensures,
      c.len-len.ensures,
      c.requires.kept,
    )) self c.set_len.ensures.crash in
    let kept = goes_on g.K.Disks.moment g.K.Disks.left_since old old c.set_len.new.self Q _ start c.set_len.ensures.time first in
    let second = stretch_crash side device (g.K.Disks.may_leave old) _ _ _ (omega (
      arith,
      c.keep-keep.ensures,
      c.len-len.ensures,
      c.requires.kept,
    )) first c.set_len-2.ensures.crash in
    let resized = goes_on g.K.Disks.moment g.K.Disks.left_since old c.set_len.new.self c.set_len-2.new.self Q _ kept
    c.set_len-2.ensures.time second in
    let third = amid_crash side device (g.K.Disks.may_leave old) _ _ second c.change.ensures.crash in
    let changed = joined g.K.Disks.moment g.K.Disks.left_since old c.set_len-2.new.self c.change.new.disks Q _ resized
    c.change.ensures.any_moment
    (λ f q. reached_more device (Amid side) (Amid side) (g.K.Disks.may_leave old) (g.K.Disks.may_leave c.set_len-2.new.self)
    (amid_trans side) second f q) in
    let fourth : (f : Contents) → g.K.Disks.may_leave c.sync.new.self f → Q f = λ f now. third f (c.sync.ensures.crash f now) in
    let ended = goes_on g.K.Disks.moment g.K.Disks.left_since old c.change.new.disks c.sync.new.self Q _ changed c.sync.ensures.time
    fourth in
    ended
