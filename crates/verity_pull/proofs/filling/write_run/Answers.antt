use Rattle.std.proofs.Common.{◌≡◌, ℕ, ◌+◌, ◌-◌, ◌*◌, ◌<◌, List, [], inl, inr, length, take, drop, get_or, ap, subst, ◌∙◌, arith}
use Rattle.std.proofs.lemmas.Bool.{cases_lt}
use Rattle.std.proofs.lemmas.List.{get_or-set_same}
use Rattle.std.specs.Fork.{slice_chunk}
use Rattle.verity_store.specs.Stores.{IsOnlyWritten}
use Rattle.verity_chain.proofs.ChainLemmas.{ok_here}
use Rattle.verity_pull.proofs.StepLemmas.{only_written_then}
use Rattle.verity_pull.proofs.TakeLemmas.{within_more}
use Rattle.verity_pull.proofs.filling.write_run.Goals as goal

pub each-preserved : goal.each-preserved
each-preserved g c =
    let L = g.L.BlockStore in
    let n : ℕ = c.args.n in
    let size : ℕ = c.args.size in
    let j : ℕ = c.each.j in
    let run : List ℕ = c.args.run.now in
    let inv = c.each.invariant in
    let e = c.write.ensures in
    let l = c.each.local in
    let l' = c.write.new.self in
    let width : c.each.j * c.args.size + c.args.size - c.each.j * c.args.size ≡ c.args.size = omega arith in
    let there : c.args.n + c.each.j < length (L.content c.each.local) = omega (arith, inv.others.0, c.requires.there, c.each-test.true) in
    let written = ok_here c.write.result _ e.written c.if-is_err.ensures.value in
    let kept : IsOnlyWritten L c.each.local c.write.new.self =
    record {
      reads = e.reads;
      later = record {
        tells = e.tells;
        size = e.size;
        fixed = e.fixed;
        gave = e.gave;
        failures = e.failures;
        reads = omega (arith, e.reads);
        changes = omega (arith, e.counted);
        room = omega (arith, e.room);
      };
    } in
    record {
      written = λ told k upto. elim (cases_lt k c.each.j) [
        | inl lt ↦ e.others.1 (n + k) (λ z. omega (arith, z, lt)) ∙ inv.written told k lt
        | inr ge ↦
            let is : c.each.j ≡ k = omega arith in
            subst (λ m. get_or (L.content l') (n + m) [] ≡ slice_chunk run size m) is
            (ap (λ blocks. get_or blocks (n + j) []) (written (inv.keeps.later.tells ∙ told))
            ∙ get_or-set_same (L.content l) (n + j) (take (j * size + size - j * size) (drop (j * size) run)) [] there
            ∙ ap (λ m. take m (drop (j * size) run)) width)
      ];
      writes = omega (arith, inv.writes, e.counted);
      others = within_more n j (L.content c.args.local.now) (L.content l) (L.content l') inv.others e.others;
      keeps = only_written_then L _ _ _ inv.keeps kept;
    }
