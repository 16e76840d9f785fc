use Rattle.std.proofs.Common.{◌≡◌, ℕ, ◌+◌, ◌-◌, ◌∙◌, ap, sym, arith}
use Rattle.verity_journal.specs.Journal.{read_changes}
use Rattle.verity_journal.proofs.Parses.{behind, parse_start, parse_more, parse_none}
use Rattle.verity_journal.proofs.reading.parse_changes.Goals as goal

pub loop-init : goal.loop-init
loop-init g c =
    let none : c.args.count ≡ c.args.count - 0 = omega arith in
    record {
      within = omega arith;
      reads = parse_start c.args.len c.args.count c.args.reader.now
          ∙ ap (λ l. behind l (read_changes c.args.len c.args.count c.args.reader.now)) (sym c.new-changes.ensures.items)
          ∙ ap (λ (n : ℕ). behind c.new-changes.result.items (read_changes c.args.len n c.args.reader.now)) none;
    }

pub loop-preserved : goal.loop-preserved
loop-preserved g c =
    let inv = c.loop.invariant in
    let read = c.in_ok-parse_change.ensures.read c.if-not-branch.false in
    record {
      within = omega (arith, c.loop-test.true);
      reads = parse_more _ c.args.len (c.args.count - c.loop.counter) (c.args.count - (c.loop.counter + 1)) _ _ _ _ read.0
          (omega (arith, c.loop-test.true)) inv.reads read.1 read.2;
    }

pub returns-then-not-branch-clause-none : goal.returns-then-not-branch-clause-none
returns-then-not-branch-clause-none g c =
    parse_none _ c.args.len (c.args.count - c.loop.counter) (c.args.count - (c.loop.counter + 1)) _ _
    (omega (arith, c.loop-test.true)) c.loop.invariant.reads (c.in_ok-parse_change.ensures.none c.if-not-branch.true)
