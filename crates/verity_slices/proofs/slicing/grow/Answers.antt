use Rattle.std.proofs.Common.{◌≡◌, ℕ, ◌+◌, ◌<◌, ◌≤◌, max, List, [], length, get_or, refl, sym, ap, ◌∙◌, subst, arith}
use Rattle.verity_store.specs.Blocks.{resized}
use Rattle.verity_store.proofs.BlockLemmas.{resized_same}
use Rattle.verity_store.proofs.StoreLemmas.{later_same}
use Rattle.verity_slices.proofs.Lengths.{later_cut, cut_failed, toward_longer, toward_kept}
use Rattle.verity_slices.proofs.slicing.grow.Goals as goal

pub returns-then-blocks-len : goal.returns-then-blocks-len
returns-then-blocks-len g c =
    let H = g.H.BlockStore in
    let device = c.args.hash_store.now in
    let old : List (List ℕ) = H.content device in
    let long : max (length old) c.args.blocks ≡ length old = omega arith in
    record {
      grown = sym (ap (λ m. resized (H.size device) m old) long ∙ resized_same (H.size device) old);
      len = omega arith;
      kept = λ q inside. refl;
      later = later_same H device;
      reads = refl;
      given = refl;
      failed = tt;
      which = tt;
      unfailed = refl;
    }
