use Rattle.std.proofs.Common.{◌+◌, ◌≤◌, length, arith}
use Rattle.verity_store.proofs.WindowLemmas.{window_outside, window_writes, window_behind}
use Rattle.verity_store.proofs.window.WindowRawFile.write_all_at.Goals as goal

pub returns-then-not-is_inside-clause-failed : goal.returns-then-not-is_inside-clause-failed
returns-then-not-is_inside-clause-failed g c = let s = c.args.self.now in
    window_outside s.len s.room c.args.at (g.F.RawFile.bytes s.file) c.args.block.now s.whole s.within c.requires (grind arith)

pub returns-in-Ok-clause-written : goal.returns-in-Ok-clause-written
returns-in-Ok-clause-written g c = let s = c.args.self.now in
    window_writes s.len s.room c.args.at (g.F.RawFile.bytes s.file) (g.F.RawFile.bytes c.write_all_at.new.self) c.args.block.now
    s.whole s.within (grind arith) c.in-Ok.ensures.written

pub returns-in-Ok-clause-behind : goal.returns-in-Ok-clause-behind
returns-in-Ok-clause-behind g c = let s = c.args.self.now in
    window_behind s.len s.room c.args.at (g.F.RawFile.bytes s.file) (g.F.RawFile.bytes c.write_all_at.new.self) c.args.block.now
    s.whole (grind arith) (grind arith) c.in-Ok.ensures.written

pub returns-in-Err-clause-failed : goal.returns-in-Err-clause-failed
returns-in-Err-clause-failed g c = let s = c.args.self.now in let w = c.in-Err.ensures.failed in
    let fits : c.args.at + length w.0 ≤ s.len = grind arith in (
      w.0,
      w.1,
      window_writes s.len s.room c.args.at (g.F.RawFile.bytes s.file) (g.F.RawFile.bytes c.write_all_at.new.self) w.0
          s.whole s.within fits w.2,
    )

pub returns-in-Err-clause-behind : goal.returns-in-Err-clause-behind
returns-in-Err-clause-behind g c = let s = c.args.self.now in let w = c.in-Err.ensures.failed in
    let fits : c.args.at + length w.0 ≤ s.len = grind arith in
    window_behind s.len s.room c.args.at (g.F.RawFile.bytes s.file) (g.F.RawFile.bytes c.write_all_at.new.self) w.0 s.whole fits
    (grind arith) w.2
