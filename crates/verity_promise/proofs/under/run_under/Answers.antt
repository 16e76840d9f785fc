use Rattle.std.proofs.Common.{◌≡◌, ℕ, ◌-◌, List, [], ◌∷◌, ◌++◌, length, vec_len, set, sym, ◌∙◌, subst, arith, rules}
use Rattle.std.proofs.Math.Seq.{set-append_seam}
use Rattle.verity_edit.specs.declared.command.Reply.{Reply}
use Rattle.verity_edit.specs.declared.command.Reply.TheVariants.{Done}
use Rattle.verity_promise.specs.OnTheWay.{AreAnsweredUnder}
use Rattle.verity_promise.proofs.WayLemmas.{answered_none, answered_more}
use Rattle.verity_promise.proofs.under.run_under.Goals as goal

pub loop-command-init : goal.loop-command-init
loop-command-init g c = record { answered = answered_none g.D.BlockStore g.H.BlockStore _ _ _; counted = omega arith }

pub loop-command-preserved : goal.loop-command-preserved
loop-command-preserved g c =
    let before : List Reply = c.loop-command.replies.items in
    let reply : Reply = c.answer-next.result.1 in
    let len : vec_len c.loop-command.replies ≡ length before = search rules in
    let pushed : c.push.new.self.items ≡ before ++ Done ∷ [] = c.in-Ok.ensures.items in
    let grown = c.in-Ok.ensures.len in
    let now = c.len-last.ensures in
    let at : c.len-last.result - 1 ≡ length before = omega arith in
    let is : set c.push.new.self.items (c.len-last.result - 1) reply ≡ before ++ reply ∷ [] = (λ i. set (pushed i) (at i) reply)
    ∙ set-append_seam before Done [] reply in
    let count = c.loop-command.invariant.counted in
    record {
      answered = answered_more g.D.BlockStore g.H.BlockStore c.args.commands.now c.loop-command.command-index c.command-item.result
          c.args.editor c.loop-command.editor c.answer-next.result.0
          c.args.replies.now.items before (set c.push.new.self.items (c.len-last.result - 1) reply) reply
          c.facts.ensures.line c.facts.ensures.fits
          c.loop-command.invariant.answered (omega arith) (sym c.command-item.is) c.answer-next.ensures is;
      counted = omega arith;
    }

pub returns-in-Err-clause-answered : goal.returns-in-Err-clause-answered
returns-in-Err-clause-answered g c =
    let count = c.loop-command.invariant.counted in
    let same = c.in-Err.ensures.len in
    let at : c.loop-command.command-index ≡ vec_len c.push.new.self - vec_len c.args.replies.now = omega arith in
    subst (λ (replies : List Reply). AreAnsweredUnder g.D.BlockStore g.H.BlockStore c.args.commands.now
    (vec_len c.push.new.self - vec_len c.args.replies.now) c.args.editor c.loop-command.editor c.args.replies.now.items replies)
    (sym c.in-Err.ensures.items)
    (subst (λ (n : ℕ). AreAnsweredUnder g.D.BlockStore g.H.BlockStore c.args.commands.now n c.args.editor c.loop-command.editor
    c.args.replies.now.items c.loop-command.replies.items) at c.loop-command.invariant.answered)

pub returns-clause-answered : goal.returns-clause-answered
returns-clause-answered g c =
    let count = c.loop-command.invariant.counted in
    let at : c.loop-command.command-index ≡ vec_len c.loop-command.replies - vec_len c.args.replies.now = omega arith in
    subst (λ (n : ℕ). AreAnsweredUnder g.D.BlockStore g.H.BlockStore c.args.commands.now n c.args.editor c.loop-command.editor
    c.args.replies.now.items c.loop-command.replies.items) at c.loop-command.invariant.answered
