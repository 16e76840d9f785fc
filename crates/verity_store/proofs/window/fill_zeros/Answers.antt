use Rattle.std.proofs.Common.{◌≡◌, ℕ, ◌-◌, length, take, replicate, arith, ◌∙◌}
use Rattle.std.proofs.lemmas.List.{take-replicate, length-replicate}
use Rattle.verity_store.proofs.WindowLemmas.{zeros_more, window_behind, window_whole}
use Rattle.verity_store.specs.RawFile.{HasLength}
use Rattle.verity_store.proofs.window.fill_zeros.Goals as goal

pub returns-in-Err-clause-behind : goal.returns-in-Err-clause-behind
returns-in-Err-clause-behind g c =
    let from = c.args.from in let to = c.args.to in let room = c.args.room in let at = c.loop-at.at in let count = c.min-count.result in
    let old = g.F.RawFile.bytes c.args.file.now in
    let mid = g.F.RawFile.bytes c.loop-at.file in
    let new = g.F.RawFile.bytes c.write_all_at.new.self in
    let before = c.loop-at.invariant in
    let w = c.in-Err.ensures.failed in
    let zeros : take count (replicate {A = ℕ} 4096 0) ≡ replicate count 0 = take-replicate count 4096 0 (omega arith) in
    let len : length w.0 ≡ count = w.1 ∙ (rw zeros (length-replicate count 0)) in
    let done : length (replicate {A = ℕ} (at - from) 0) ≡ at - from = length-replicate (at - from) 0 in
    let whole : HasLength mid room = window_whole room from old mid (replicate (at - from) 0) c.requires.whole (omega arith)
    before.filled in
    window_behind to room at mid new w.0 whole (omega arith) (omega arith) w.2
    ∙ window_behind to room from old mid (replicate (at - from) 0) c.requires.whole (omega arith) (omega arith) before.filled

pub loop-at-preserved : goal.loop-at-preserved
loop-at-preserved g c =
    let at = c.loop-at.at in let count = c.min-count.result in
    let old = g.F.RawFile.bytes c.args.file.now in
    let mid = g.F.RawFile.bytes c.loop-at.file in
    let new = g.F.RawFile.bytes c.write_all_at.new.self in
    let before = c.loop-at.invariant in
    let zeros : take count (replicate {A = ℕ} 4096 0) ≡ replicate count 0 = take-replicate count 4096 0 (omega arith) in
    let written = c.in-Ok.ensures.written in
    record {
      low = omega arith;
      high = omega arith;
      filled = zeros_more c.args.from at count c.args.room old mid new c.requires.whole before.low (omega arith) before.filled
          (rw zeros at written);
    }

pub returns-clause-behind : goal.returns-clause-behind
returns-clause-behind g c =
    let from = c.args.from in let at = c.loop-at.at in
    let old = g.F.RawFile.bytes c.args.file.now in
    let now = g.F.RawFile.bytes c.loop-at.file in
    let done : length (replicate {A = ℕ} (at - from) 0) ≡ at - from = length-replicate (at - from) 0 in
    let before = c.loop-at.invariant in
    window_behind c.args.to c.args.room from old now (replicate (at - from) 0) c.requires.whole (omega arith) (omega arith) before.filled
