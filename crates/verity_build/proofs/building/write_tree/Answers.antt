use Rattle.std.proofs.Common.{◌≡◌, ℕ, ◌+◌, ◌<◌, List, [], true, length, get_or, refl, sym, ap, ◌∙◌, subst, arith}
use Rattle.std.proofs.lemmas.Result.{err_from_is_err_and}
use Rattle.verity_digest.specs.Hash.{Salted, hashing, salted_digest}
use Rattle.verity_digest.specs.Tree.{Hashing, tree}
use Rattle.verity_geometry.specs.Geometry.{Shape, digests_per_block, levels_of}
use Rattle.verity_geometry.proofs.Shapes.{wide, some}
use Rattle.verity_store.proofs.StoreLemmas.{only_read_same, only_read_then}
use Rattle.verity_tree.specs.Opens.{opens}
use Rattle.verity_tree.proofs.Trees.{levels_of_opens}
use Rattle.verity_store.proofs.GivenLemmas.{goes_on_len}
use Rattle.verity_tree.specs.Ahead.{AreAhead, AreOfGiven, IsOfGiven}
use Rattle.verity_build.proofs.Givens.{given_none, given_more, given_all}
use Rattle.verity_tree.specs.Climb.{Comes}
use Rattle.verity_build.specs.Progress.{Growing, Grown, Settling, IsRight}
use Rattle.verity_build.specs.Device.{StaysRight, StaysStored}
use Rattle.verity_build.proofs.Refusals.{same_fault}
use Rattle.verity_tree.proofs.Ahead.{ahead_none, comes_now}
use Rattle.verity_build.proofs.Settles.{growing_empty, settling_from}
use Rattle.verity_build.proofs.Rightly.{right_empty}
use Rattle.verity_build.proofs.Turns.{come_right, come_stored}
use Rattle.verity_build.proofs.Writes.{writes_none, writes_then}
use Rattle.verity_build.proofs.building.write_tree.Goals as goal

pub loop-n-init : goal.loop-n-init
loop-n-init g c =
    let D = g.D.BlockStore in
    let H = g.H.BlockStore in
    let first = c.args.tree.now in
    let s : Shape = first.geometry in
    let h : Hashing = hashing first.hasher.salted s.hash_size in
    let image : List (List ℕ) = D.content c.args.data_store.now in
    let w = wide s first.shaped in
    record {
      growing = λ more. growing_empty (digests_per_block s) (opens first) first.root (omega arith) c.requires.empty;
      grown = λ none. let more = some s first.shaped in absurd (omega arith);
      salted = refl;
      geometry = refl;
      right = λ tells. subst (λ r. IsRight h image (opens first) r) (sym c.requires.rootless)
          (right_empty h image (opens first) c.requires.empty);
      given = given_none D c.args.data_store.now h s.blocks (opens first) first.root c.requires.empty c.requires.rootless;
      of_given = λ j low. absurd (omega (arith, low, c.new-leaves.ensures.taken, c.new-leaves.ensures.held));
      stored = λ td th l i there below. let zeros = (c.requires.empty l there).1 in absurd (omega arith);
      data_store = only_read_same D c.args.data_store.now;
      ahead = ahead_none D first.hasher.salted 0 c.args.data_store.now c.new-leaves.result.digests c.new-leaves.result.taken
          c.new-leaves.result.held (omega (arith, c.new-leaves.ensures.taken, c.new-leaves.ensures.held)) (omega arith);
      data_reads = omega (arith, c.new-leaves.ensures.taken, c.new-leaves.ensures.held);
      hash_store = writes_none H c.args.start c.args.hash_store.now;
      data_unfailed = refl;
      hash_unfailed = refl;
    }

pub next-requires-clause-ahead : goal.next-requires-clause-ahead
next-requires-clause-ahead g c =
    subst (λ x. AreAhead g.D.BlockStore x c.loop-n.n c.loop-n.data_store c.loop-n.leaves.digests c.loop-n.leaves.taken c.loop-n.leaves.held)
    (sym c.loop-n.invariant.salted) c.loop-n.invariant.ahead

pub write_done-requires-clause-come : goal.write_done-requires-clause-come
write_done-requires-clause-come g c =
    let s : Shape = c.args.tree.now.geometry in
    let now = c.loop-n.tree in
    let mid = c.take.new.self in
    let kept = c.loop-n.invariant in
    let n : ℕ = c.loop-n.n in
    let same = c.take.ensures.geometry ∙ c.in_ok-digest.ensures.geometry ∙ kept.geometry in
    let growing = kept.growing (omega (arith, c.loop-n-test.true, c.blocks-n-end.ensures.value)) in
    let comes = comes_now c.in_ok-digest.digest (opens now) (opens c.next.new.tree) (opens mid) now.root
    c.next.new.tree.root mid.root c.in_ok-digest.ensures.opens c.in_ok-digest.ensures.root c.take.ensures.comes in
    subst (λ t. Settling (digests_per_block t) (n + 1) t.blocks 0 (opens mid) mid.root) (sym same)
    (settling_from (digests_per_block s) n c.in_ok-digest.digest (opens now) (opens mid) now.root mid.root growing comes s.blocks)

pub loop-n-preserved : goal.loop-n-preserved
loop-n-preserved g c =
    let D = g.D.BlockStore in
    let H = g.H.BlockStore in
    let first = c.args.tree.now in
    let s : Shape = first.geometry in
    let salted : Salted = first.hasher.salted in
    let h : Hashing = hashing salted s.hash_size in
    let image : List (List ℕ) = D.content c.args.data_store.now in
    let now = c.loop-n.tree in
    let mid = c.take.new.self in
    let new = c.write_done.new.tree in
    let kept = c.loop-n.invariant in
    let next = c.in_ok-digest.ensures in
    let wrote = c.in-Ok.ensures in
    let n : ℕ = c.loop-n.n in
    let digest : List ℕ = c.in_ok-digest.digest in
    let block : List ℕ = get_or image n [] in
    let geometry = c.take.ensures.geometry ∙ next.geometry ∙ kept.geometry in
    let same_salted = c.take.ensures.salted ∙ next.salted ∙ kept.salted in
    let hashes : hashing mid.hasher.salted mid.geometry.hash_size ≡ h = λ i. hashing (same_salted i) (geometry i).hash_size in
    let below : n < s.blocks = omega (arith, c.loop-n-test.true, c.blocks-n-end.ensures.value) in
    let growing = kept.growing below in
    let levels : length (opens now) ≡ levels_of s = levels_of_opens now ∙ ap levels_of kept.geometry in
    let comes = comes_now digest (opens now) (opens c.next.new.tree) (opens mid) now.root c.next.new.tree.root
    mid.root next.opens next.root c.take.ensures.comes in
    let comes_right : D.tells c.args.data_store.now ≡ true →
    Comes 0 (salted_digest salted block) (opens now) (opens mid) now.root mid.root = λ tells.
    subst (λ d. Comes 0 d (opens now) (opens mid) now.root mid.root)
    (next.right (kept.data_store.later.tells ∙ tells)
    ∙ (λ i. salted_digest (kept.salted i) (get_or (kept.data_store.content i) n []))) comes in
    let mark : ℕ = length (D.given c.args.data_store.now) in
    let of_given = next.given mark (goes_on_len _ _ kept.data_store.later.gave)
    (subst (λ x. AreOfGiven D x mark n c.loop-n.data_store c.loop-n.leaves.digests c.loop-n.leaves.taken c.loop-n.leaves.held)
    (sym kept.salted) kept.of_given) in
    let one : IsOfGiven D salted mark n c.next.new.data_store digest =
    subst (λ x. IsOfGiven D x mark n c.next.new.data_store digest) kept.salted of_given.0 in
    let mid_right : D.tells c.args.data_store.now ≡ true → IsRight h image (opens mid) mid.root = λ tells.
    come_right salted s n block (opens now) (opens mid) now.root mid.root first.shaped first.sized levels growing
    (comes_right tells) image c.requires.blocks below refl (kept.right tells) in
    let stays_right : StaysRight h s.blocks (opens mid) mid.root (opens new) new.root =
    let P : ℕ → Type 0 = λ b. StaysRight h b (opens mid) mid.root (opens new) new.root in
    let Q : Hashing → Type 0 = λ x. StaysRight x mid.geometry.blocks (opens mid) mid.root (opens new) new.root in
    subst P (ap (λ t. t.blocks) geometry) (subst Q hashes wrote.right) in
    let stays_stored : H.tells c.args.hash_store.now ≡ true →
    StaysStored h s c.args.start (opens mid) mid.root (H.content c.loop-n.hash_store) (opens new)
    (H.content c.write_done.new.hash_store) = λ tells.
    let P : Shape → Type 0 = λ t. StaysStored h t c.args.start (opens mid) mid.root (H.content c.loop-n.hash_store)
    (opens new) (H.content c.write_done.new.hash_store) in
    let Q : Hashing → Type 0 = λ x. StaysStored x mid.geometry c.args.start (opens mid) mid.root
    (H.content c.loop-n.hash_store) (opens new) (H.content c.write_done.new.hash_store) in
    subst P geometry (subst Q hashes (wrote.stored (kept.hash_store.later.tells ∙ tells))) in
    record {
      growing = λ more. subst (λ t. Growing (digests_per_block t) (n + 1) (opens new) new.root) geometry
          (wrote.growing (omega (arith, ap (λ t. t.blocks) geometry)));
      grown = λ last. subst (λ t. Grown (digests_per_block t) (n + 1) (opens new) new.root) geometry
          (wrote.grown (last ∙ sym (ap (λ t. t.blocks) geometry)));
      salted = wrote.salted ∙ same_salted;
      geometry = wrote.geometry ∙ geometry;
      right = λ tells. stays_right image c.requires.blocks (mid_right tells);
      given = given_more D c.args.data_store.now h s.blocks c.loop-n.data_store c.next.new.data_store n salted digest (opens now)
          (opens new) now.root new.root one (next.read.later.size ∙ kept.data_store.later.size) next.read.later.gave below
          (λ image count here right. stays_right image count (come_right salted s n one.block (opens now) (opens mid) now.root mid.root
          first.shaped first.sized levels growing (subst (λ d. Comes 0 d (opens now) (opens mid) now.root mid.root) one.is comes) image
          count below here right)) kept.given;
      of_given = subst (λ x. AreOfGiven D x mark (n + 1) c.next.new.data_store c.next.new.self.digests c.next.new.self.taken
          c.next.new.self.held) kept.salted of_given.1;
      stored = λ td th. stays_stored th image c.requires.blocks (mid_right td)
          (come_stored salted s n block (opens now) (opens mid) now.root mid.root first.shaped first.sized levels growing
          (comes_right td) c.args.start (tree h image) (H.content c.loop-n.hash_store) (kept.stored td th));
      data_store = only_read_then D c.args.data_store.now c.loop-n.data_store c.next.new.data_store kept.data_store next.read;
      ahead = subst (λ x. AreAhead D x (n + 1) c.next.new.data_store c.next.new.self.digests c.next.new.self.taken
          c.next.new.self.held) kept.salted next.ahead;
      data_reads = omega (arith, next.reads, kept.data_reads);
      hash_store = writes_then H c.args.start c.args.hash_store.now c.loop-n.hash_store c.write_done.new.hash_store kept.hash_store
          wrote.from;
      data_unfailed = next.unfailed ∙ kept.data_unfailed;
      hash_unfailed = wrote.unfailed ∙ kept.hash_unfailed;
    }

pub returns-in_err-digest : goal.returns-in_err-digest
returns-in_err-digest g c =
    let D = g.D.BlockStore in
    let image = c.args.data_store.now in
    let kept = c.loop-n.invariant in
    let p = err_from_is_err_and c.from_residual.result c.from_residual.ensures.1 in
    let next = c.in_err-digest.ensures in
    rw (p.1, p.2) record {
      grown = tt;
      right = tt;
      given = tt;
      stored = tt;
      geometry = next.geometry ∙ kept.geometry;
      data_store = only_read_then D image c.loop-n.data_store c.next.new.data_store kept.data_store next.read;
      data_reads = tt;
      data_reads_most = omega (arith, next.reads_most, kept.data_reads, ap (λ (t : Shape). t.blocks) kept.geometry);
      hash_store = kept.hash_store;
      data_failed = λ _. subst (λ n. n < D.failures c.next.new.data_store) kept.data_unfailed next.failed;
      hash_failed = λ is. let named = same_fault _ _ is in let by_data = next.which in cc;
      data_unfailed = tt;
      hash_unfailed = tt;
    }

pub returns-in_default : goal.returns-in_default
returns-in_default g c =
    let D = g.D.BlockStore in
    let H = g.H.BlockStore in
    let image = c.args.data_store.now in
    let device = c.args.hash_store.now in
    let kept = c.loop-n.invariant in
    let next = c.in_ok-digest.ensures in
    let wrote = c.write_done.ensures in
    let geometry = c.take.ensures.geometry ∙ next.geometry ∙ kept.geometry in
    record {
      grown = tt;
      right = tt;
      given = tt;
      stored = tt;
      geometry = wrote.geometry ∙ geometry;
      data_store = only_read_then D image c.loop-n.data_store c.next.new.data_store kept.data_store next.read;
      data_reads = tt;
      data_reads_most = omega (arith, c.next.ensures.reads_most, kept.data_reads, ap (λ (t : Shape). t.blocks) kept.geometry);
      hash_store = writes_then H c.args.start device c.loop-n.hash_store c.write_done.new.hash_store kept.hash_store wrote.from;
      data_failed = λ is. cc;
      hash_failed = λ _. subst (λ n. n < H.failures c.write_done.new.hash_store) kept.hash_unfailed c.in_default.ensures.failed;
      data_unfailed = tt;
      hash_unfailed = tt;
    }

pub returns : goal.returns
returns g c =
    let D = g.D.BlockStore in
    let image = c.args.data_store.now in
    let s : Shape = c.args.tree.now.geometry in
    let now = c.loop-n.tree in
    let kept = c.loop-n.invariant in
    let all : c.loop-n.n ≡ s.blocks = omega (arith, c.loop-n-test.false, c.blocks-n-end.ensures.value) in
    let data_reads : D.reads c.loop-n.data_store ≡ D.reads image + s.blocks = omega (
      arith,
      kept.data_reads,
      kept.ahead.within,
      ap length kept.data_store.content,
    ) in
    record {
      grown = subst (λ n. Grown (digests_per_block s) n (opens now) now.root) all (kept.grown all);
      right = kept.right;
      given = given_all D image (hashing c.args.tree.now.hasher.salted s.hash_size) s.blocks c.loop-n.data_store c.loop-n.n (opens now)
          now.root all c.requires.blocks kept.given;
      stored = kept.stored;
      geometry = kept.geometry;
      data_store = kept.data_store;
      data_reads = data_reads;
      data_reads_most = omega (arith, data_reads);
      hash_store = kept.hash_store;
      data_failed = λ is. cc;
      hash_failed = λ is. cc;
      data_unfailed = kept.data_unfailed;
      hash_unfailed = kept.hash_unfailed;
    }
