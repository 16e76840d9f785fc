use Rattle.std.proofs.Common.{◌≡◌, ◌+◌, ◌≤◌, ℕ, List, [], ◌∷◌, length, sym, ap, ◌∙◌, subst, arith}
use Rattle.verity_slice.specs.declared.run.Run.{Run}
use Rattle.verity_portion.specs.Portion.{Portioned, bound_to, portion_of}
use Rattle.verity_portion.proofs.PastLaws.{portion_since, below_read}
use Rattle.verity_chain.specs.Chain.{given_by}
use Rattle.verity_report.specs.Report.{IsReportGiven}
use Rattle.verity_slice_report.specs.Runs.{runs_above}
use Rattle.verity_slice_report.proofs.ReadLemmas.{GaveFrom, slice_read}
use Rattle.verity_slice_report.proofs.sliced.read_slice.Goals as goal

pub check_all-requires-clause-data_store : goal.check_all-requires-clause-data_store
check_all-requires-clause-data_store g c = record {
  size = ap (λ (p : Portioned g.row.D.Denot). g.D.BlockStore.size p.store) c.new-data.ensures ∙ c.requires.data_store.size;
  blocks = omega (
    arith,
    c.requires.data_store.blocks,
    ap (λ (p : Portioned g.row.D.Denot). length (g.D.BlockStore.content p.store)) c.new-data.ensures,
  );
}

pub check_all-requires-clause-hash_store : goal.check_all-requires-clause-hash_store
check_all-requires-clause-hash_store g c = record {
  size = ap (λ (p : Portioned g.row.H.Denot). g.H.BlockStore.size p.store) c.new-hash.ensures ∙ c.requires.hash_store.size;
  tree = λ some. omega (
    arith,
    c.requires.hash_store.tree some,
    ap (λ (p : Portioned g.row.H.Denot). length (g.H.BlockStore.content p.store)) c.new-hash.ensures,
  );
}

pub returns-clause-read : goal.returns-clause-read
returns-clause-read g c =
    let D = g.D.BlockStore in
    let H = g.H.BlockStore in
    let t = c.args.tree.now in
    let run : Run = c.args.run in
    let image = c.args.data_store in
    let device = c.args.hash_store in
    let d = c.check_all.new.data_store in
    let h = c.check_all.new.hash_store in
    let e = c.in_ok-whole.ensures in
    let d_made : c.new-data.result ≡ portion_of D image (run ∷ []) = c.new-data.ensures
    ∙ ap (λ (runs : List Run). portion_of D image runs) c.in_ok-shown.ensures.items in
    let h_made : c.new-hash.result ≡ portion_of H device (runs_above t run) = c.new-hash.ensures
    ∙ ap (λ (runs : List Run). portion_of H device runs) c.in_ok-above.ensures in
    let d_since = portion_since D image (run ∷ []) d c.store-data_store.ensures.facts
    (e.data_keeps.later.fixed ∙ ap (λ (p : Portioned g.row.D.Denot). bound_to p.runs p.past) d_made) in
    let h_since = portion_since H device (runs_above t run) h c.store-hash_store.ensures.facts
    (e.hash_keeps.later.fixed ∙ ap (λ (p : Portioned g.row.H.Denot). bound_to p.runs p.past) h_made) in
    let d_read = below_read D image d d_since.1
    (e.data_keeps.content ∙ ap (λ (p : Portioned g.row.D.Denot). D.content p.store) d_made)
    (e.data_keeps.changes ∙ ap (λ (p : Portioned g.row.D.Denot). D.changes p.store) d_made)
    (e.data_keeps.room ∙ ap (λ (p : Portioned g.row.D.Denot). D.room p.store) d_made)
    (e.data_keeps.later.size ∙ ap (λ (p : Portioned g.row.D.Denot). D.size p.store) d_made)
    (omega (arith, e.data_keeps.later.failures, ap (λ (p : Portioned g.row.D.Denot). D.failures p.store) d_made)) in
    let h_read = below_read H device h h_since.1
    (e.hash_keeps.content ∙ ap (λ (p : Portioned g.row.H.Denot). H.content p.store) h_made)
    (e.hash_keeps.changes ∙ ap (λ (p : Portioned g.row.H.Denot). H.changes p.store) h_made)
    (e.hash_keeps.room ∙ ap (λ (p : Portioned g.row.H.Denot). H.room p.store) h_made)
    (e.hash_keeps.later.size ∙ ap (λ (p : Portioned g.row.H.Denot). H.size p.store) h_made)
    (omega (arith, e.hash_keeps.later.failures, ap (λ (p : Portioned g.row.H.Denot). H.failures p.store) h_made)) in
    let whole = c.in_ok-whole.whole in
    let Found : Portioned g.row.D.Denot → Portioned g.row.H.Denot → Type 0 = λ p q. IsReportGiven t
    (given_by t (GaveFrom D (length p.given) d) (GaveFrom H (length q.given) h)) whole.faults whole.unchecked
    (D.failures p.store + H.failures q.store) (D.failures d.store + H.failures h.store) in
    slice_read D H t c.requires.allowed run image device d h d_since.1 h_since.1 d_since.0 h_since.0 d_read h_read whole.faults
    whole.unchecked (subst (λ q. Found (portion_of D image (run ∷ [])) q) h_made (subst (λ p. Found p c.new-hash.result) d_made e.given))
