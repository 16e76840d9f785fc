use Rattle.std.proofs.Common.{◌≡◌, ℕ, ◌+◌, ◌<◌, ◌≤◌, max, List, [], Err, length, get_or, refl, sym, ap, ◌∙◌, subst, arith}
use Rattle.std.proofs.lemmas.Result.{err_from_is_err_and}
use Rattle.verity_geometry.specs.Geometry.{Shape, start_of, total_of}
use Rattle.verity_store.specs.Blocks.{resized}
use Rattle.verity_store.proofs.StoreLemmas.{later_then, only_read_same}
use Rattle.verity_build.proofs.Finishes.{length-resized}
use Rattle.verity_build.proofs.Refusals.{same_fault}
use Rattle.verity_slices.specs.Leaves.{GrowsBeside, KeepsOthers, WritesPart}
use Rattle.verity_slices.proofs.Steps.{grows_written, keeps_written}
use Rattle.verity_slices.proofs.slicing.write_slice.Goals as goal

pub returns-in_err-grow : goal.returns-in_err-grow
returns-in_err-grow g c =
    let p = err_from_is_err_and c.from_residual.result c.from_residual.ensures.1 in
    let grown = c.grow.ensures in
    rw (p.1, p.2) record {
      stored = tt;
      given = tt;
      grows = tt;
      kept = record { len = grown.len; others = λ q inside apart. grown.kept q inside };
      data_store = only_read_same g.D.BlockStore c.args.data_store.now;
      hash_store = grown.later;
      hash_reads = grown.reads;
      hash_given = grown.given;
      data_failed = λ is. let named = same_fault _ _ is in let by_hash = c.in_err-grow.ensures.which in cc;
      hash_failed = λ _. c.in_err-grow.ensures.failed;
      data_unfailed = tt;
      hash_unfailed = tt;
      hash_synced = tt;
    }

pub returns-in_err-write_run : goal.returns-in_err-write_run
returns-in_err-write_run g c =
    let H = g.H.BlockStore in
    let s : Shape = c.args.tree.now.geometry in
    let device = c.args.hash_store.now in
    let p = err_from_is_err_and c.from_residual-in_err-write_run.result c.from_residual-in_err-write_run.ensures.1 in
    let grown = c.grow.ensures in
    let wrote = c.write_run.ensures in
    rw (p.1, p.2) record {
      stored = tt;
      given = tt;
      grows = tt;
      kept = keeps_written H s c.args.start c.args.run (H.content device) c.grow.new.hash_store c.write_run.new.hash_store grown.len
          grown.kept wrote.writes;
      data_store = wrote.data_store;
      hash_store = later_then H device c.grow.new.hash_store c.write_run.new.hash_store grown.later wrote.writes.later;
      hash_reads = wrote.writes.reads ∙ grown.reads;
      hash_given = wrote.writes.given ∙ grown.given;
      data_failed = λ is. wrote.data_failed (c.in_err-write_run.was ∙ ap (λ which. Err which) (same_fault _ _ is));
      hash_failed = λ is. subst (λ n. n < H.failures c.write_run.new.hash_store) c.in_ok-grow.ensures.unfailed
          (wrote.hash_failed (c.in_err-write_run.was ∙ ap (λ which. Err which) (same_fault _ _ is)));
      data_unfailed = tt;
      hash_unfailed = tt;
      hash_synced = tt;
    }
