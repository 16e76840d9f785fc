use Rattle.std.proofs.Common.{◌≡◌, ℕ, ◌+◌, ◌-◌, ◌*◌, ◌/◌, ◌<◌, ◌≤◌, inr, ◌++◌, List, [], length, take, get_or, true, refl, sym}
use Rattle.std.proofs.Common.{ap, ◌∙◌, subst, arith}
use Rattle.std.proofs.Math.Nat.{mul-le-mul_right}
use Rattle.std.proofs.lemmas.Nat.{div-add-mod'}
use Rattle.std.proofs.lemmas.List.{length-take-le}
use Rattle.std.proofs.lemmas.Result.{err_from_is_err_and}
use Rattle.std.specs.Fork.{slice_chunk}
use Rattle.verity_digest.specs.Hash.{Salted, hashing, salted_digest}
use Rattle.verity_digest.specs.Tree.{Hashing, tree}
use Rattle.verity_digest.proofs.Sha.{length-digest_of}
use Rattle.verity_geometry.specs.Geometry.{Shape, digests_per_block, total_of}
use Rattle.verity_geometry.proofs.Shapes.{wide, some}
use Rattle.verity_store.specs.Given.{run_of}
use Rattle.verity_store.specs.Stores.{IsLater}
use Rattle.verity_store.proofs.GivenLemmas.{goes_on_len}
use Rattle.verity_tree.specs.Opens.{opens}
use Rattle.verity_build.specs.Progress.{Growing, Grown, IsRight}
use Rattle.verity_build.specs.Device.{AreStored}
use Rattle.verity_build.proofs.Settles.{growing_empty}
use Rattle.verity_slices.specs.Leaves.{WritesPart}
use Rattle.verity_slices.specs.Taking.{AreDigests}
use Rattle.verity_slices.specs.Walked.{Walked}
use Rattle.verity_slices.proofs.Parts.{joins_none, joins_read, joins_write}
use Rattle.verity_slices.proofs.Walks.{walked_none, walked_more, walked_given, walked_level}
use Rattle.verity_slices.proofs.joining.join_tree.Goals as goal

pub loop-n-init : goal.loop-n-init
loop-n-init g c =
    let H = g.H.BlockStore in
    let first = c.args.tree.now in
    let s : Shape = first.geometry in
    let h : Hashing = hashing first.hasher.salted s.hash_size in
    let w = wide s first.shaped in
    let device = c.args.hash_store.now in
    record {
      within = omega arith;
      growing = λ more. growing_empty (digests_per_block s) (opens first) first.root (omega (arith, w)) c.requires.empty;
      grown = λ none. let more = some s first.shaped in absurd (omega (arith, none, more));
      walked = walked_none H device s c.args.start (c.args.start + total_of s) h (opens first) first.root c.requires.empty
          c.requires.rootless;
      salted = refl;
      geometry = refl;
      joins = joins_none H c.args.start (c.args.start + total_of s) device;
      reads = omega arith;
      unfailed = refl;
    }

pub returns-clause-given : goal.returns-clause-given
returns-clause-given g c =
    let H = g.H.BlockStore in
    let first = c.args.tree.now in
    let s : Shape = first.geometry in
    let h : Hashing = hashing first.hasher.salted s.hash_size in
    let kept = c.loop-n.invariant in
    let all : c.loop-n.n ≡ s.blocks = omega (arith, kept.within, c.loop-n-test.false, c.blocks-blocks.ensures.value) in
    walked_given H c.args.hash_store.now s c.args.start (c.args.start + total_of s) h c.loop-n.hash_store c.loop-n.n (opens c.loop-n.tree)
    c.loop-n.tree.root all kept.walked

pub returns-clause-right : goal.returns-clause-right
returns-clause-right g c = λ tells level stands.
    let H = g.H.BlockStore in
    let first = c.args.tree.now in
    let s : Shape = first.geometry in
    let h : Hashing = hashing first.hasher.salted s.hash_size in
    let kept = c.loop-n.invariant in
    let all : c.loop-n.n ≡ s.blocks = omega (arith, kept.within, c.loop-n-test.false, c.blocks-blocks.ensures.value) in
    walked_level H c.args.hash_store.now s c.args.start (c.args.start + total_of s) h c.loop-n.hash_store c.loop-n.n (opens c.loop-n.tree)
    c.loop-n.tree.root level all tells stands kept.walked

pub loop-n-preserved : goal.loop-n-preserved
loop-n-preserved g c =
    let H = g.H.BlockStore in
    let first = c.args.tree.now in
    let s : Shape = first.geometry in
    let salted : Salted = first.hasher.salted in
    let h : Hashing = hashing salted s.hash_size in
    let device = c.args.hash_store.now in
    let start : ℕ = c.args.start in
    let level : ℕ = start + total_of s in
    let now = c.loop-n.tree in
    let store = c.loop-n.hash_store in
    let read_store = c.read_run.new.self in
    let mid = c.digest_run.new.self in
    let new = c.take_all.new.tree in
    let new_store = c.take_all.new.hash_store in
    let kept = c.loop-n.invariant in
    let read = c.in_ok-read_run.ensures in
    let hashed = c.digest_run.ensures in
    let took = c.in_ok-take_all.ensures in
    let n : ℕ = c.loop-n.n in
    let count : ℕ = c.min-count.result in
    let size : ℕ = c.data_size-size.result in
    let run : List ℕ = c.read_run.new.out in
    let digests : List (List ℕ) = c.digest_run.new.out in
    let few : count ≤ 128 = omega (arith, c.min-count.ensures, c.min.ensures) in
    let many : length digests ≡ count = c.digest_run.auto.out ∙ length-take-le count _ few in
    let all : ℕ = length c.loop-n.buffer in
    let most : count ≤ all / size = omega (arith, c.min-count.ensures, c.min.ensures) in
    let fits : count * size ≤ all = omega (arith, div-add-mod' all size, mul-le-mul_right size most) in
    let long : length run ≡ count * size = c.read_run.auto.out ∙ length-take-le (count * size) c.loop-n.buffer fits in
    let sized : size ≡ s.data_size = c.data_size-size.ensures.value in
    let device_size : H.size device ≡ size = c.requires.hash_size ∙ sym c.requires.level_size ∙ sym sized in
    let store_size : H.size store ≡ size = kept.joins.later.size ∙ device_size in
    let base : start + c.total.result ≡ level = ap (λ t. start + t) c.total.ensures.value in
    let geometry = hashed.geometry ∙ kept.geometry in
    let same_salted = hashed.salted ∙ kept.salted in
    let hashes : hashing mid.hasher.salted mid.geometry.hash_size ≡ h = λ i. hashing (same_salted i) (geometry i).hash_size in
    let later : IsLater H store read_store =
    record {
      tells = read.tells;
      size = read.size;
      fixed = read.fixed;
      gave = read.gave;
      failures = read.failures;
      reads = read.counted_least;
      changes = omega (arith, read.changes);
      room = omega (arith, read.room);
    } in
    let writes : WritesPart H start level read_store new_store =
    subst (λ t. WritesPart H start (start + total_of t) read_store new_store) geometry took.writes in
    let right : (image : List (List ℕ)) → length image ≡ s.blocks → AreDigests h image n digests → IsRight h image (opens now) now.root
    → IsRight h image (opens new) new.root =
    λ image whole are was.
    subst (λ x. IsRight x image (opens new) new.root) hashes
    (took.right image (whole ∙ sym (ap (λ t. t.blocks) geometry)) (subst (λ x. AreDigests x image n digests) (sym hashes) are)
    (subst (λ x. IsRight x image (opens mid) mid.root) (sym hashes)
    (subst (λ r. IsRight h image (opens mid) r) (sym hashed.root) (subst (λ o. IsRight h image o now.root) (sym hashed.opens) was)))) in
    let stored : H.tells device ≡ true → (image : List (List ℕ)) → length image ≡ s.blocks → AreDigests h image n digests
    → IsRight h image (opens now) now.root → AreStored s start (tree h image) (opens now) (H.content store)
    → AreStored s start (tree h image) (opens new) (H.content new_store) =
    λ tells image whole are was stands.
    let P : Shape → Hashing → Type 0 = λ t x. AreStored t start (tree x image) (opens new) (H.content new_store) in
    let Q : Shape → Hashing → Type 0 = λ t x. AreStored t start (tree x image) (opens mid) (H.content read_store) in
    subst (λ t. P t h) geometry (subst (λ x. P mid.geometry x) hashes
    (took.stored (read.tells ∙ kept.joins.later.tells ∙ tells) image (whole ∙ sym (ap (λ t. t.blocks) geometry))
    (subst (λ x. AreDigests x image n digests) (sym hashes) are)
    (subst (λ x. IsRight x image (opens mid) mid.root) (sym hashes)
    (subst (λ r. IsRight h image (opens mid) r) (sym hashed.root) (subst (λ o. IsRight h image o now.root) (sym hashed.opens) was)))
    (subst (λ x. Q mid.geometry x) (sym hashes) (subst (λ t. Q t h) (sym geometry)
    (subst (λ o. AreStored s start (tree h image) o (H.content read_store)) (sym hashed.opens)
    (subst (λ b. AreStored s start (tree h image) (opens now) b) (sym read.content) stands)))))) in
    record {
      within = omega (arith, kept.within, c.min-count.ensures, c.blocks-blocks.ensures.value);
      growing = λ more. subst (λ t. Growing (digests_per_block t) (n + count) (opens new) new.root) geometry
          (subst (λ m. Growing (digests_per_block mid.geometry) (n + m) (opens new) new.root) many
          (took.growing (omega (arith, more, many, ap (λ t. t.blocks) geometry))));
      grown = λ last. subst (λ t. Grown (digests_per_block t) (n + count) (opens new) new.root) geometry
          (subst (λ m. Grown (digests_per_block mid.geometry) (n + m) (opens new) new.root) many
          (took.grown (omega (arith, last, many, ap (λ t. t.blocks) geometry))));
      walked = walked_more H device s start level h store read_store new_store n count size run digests (opens now) (opens new) now.root
          new.root many
          (λ j below. hashed.digests j (omega (arith, below, many, c.digest_run.auto.out))
          ∙ (λ i. salted_digest (kept.salted i) (slice_chunk run (ap (λ (t : Shape). t.data_size) kept.geometry i) j))
          ∙ ap (λ z. salted_digest salted (slice_chunk run z j)) (sym sized))
          device_size long
          (read.given ∙ (λ i. H.given store ++ run_of (base i + n) (store_size i) count run)) writes.given
          (goes_on_len _ _ kept.joins.later.gave)
          (λ tells j below.
          let at : level + (n + j) ≡ start + c.total.result + n + j = omega (arith, base) in
          ap (λ q. get_or (H.content device) q []) at
          ∙ sym (kept.joins.others (start + c.total.result + n + j) (inr (omega (arith, base))))
          ∙ read.right (kept.joins.later.tells ∙ tells) j below
          ∙ ap (λ z. slice_chunk run z j) store_size)
          right stored kept.walked;
      salted = took.salted ∙ same_salted;
      geometry = took.geometry ∙ geometry;
      joins = joins_write H start level device read_store new_store
          (joins_read H start level device store read_store kept.joins read.content read.room later) writes;
      reads = omega (arith, writes.reads, read.counted, kept.reads);
      unfailed = took.unfailed ∙ read.unfailed ∙ kept.unfailed;
    }

pub digest_run-requires : goal.digest_run-requires
digest_run-requires g c =
    let s : Shape = c.args.tree.now.geometry in
    let kept = c.loop-n.invariant in
    let count : ℕ = c.min-count.result in
    let size : ℕ = c.data_size-size.result in
    let few : count ≤ 128 = omega (arith, c.min-count.ensures, c.min.ensures) in
    let all : ℕ = length c.loop-n.buffer in
    let most : count ≤ all / size = omega (arith, c.min-count.ensures, c.min.ensures) in
    let fits : count * size ≤ all = omega (arith, div-add-mod' all size, mul-le-mul_right size most) in
    let long : length c.read_run.new.out ≡ count * size =
    c.read_run.auto.out ∙ length-take-le (count * size) c.loop-n.buffer fits in
    let sized : size ≡ c.loop-n.tree.geometry.data_size =
    c.data_size-size.ensures.value ∙ sym (ap (λ (t : Shape). t.data_size) kept.geometry) in
    long ∙ ap (λ z. count * z) sized
    ∙ sym (ap (λ m. m * c.loop-n.tree.geometry.data_size) (length-take-le count _ few))

pub take_all-requires-clause-sized : goal.take_all-requires-clause-sized
take_all-requires-clause-sized g c = λ j below.
    ap length (c.digest_run.ensures.digests j (omega (arith, below, c.digest_run.auto.out)))
    ∙ length-digest_of c.loop-n.tree.hasher.salted.algorithm _
    ∙ c.loop-n.tree.sized
    ∙ sym (ap (λ (t : Shape). t.digest_size) c.digest_run.ensures.geometry)

pub returns-in_err-take_all-clause-joins : goal.returns-in_err-take_all-clause-joins
returns-in_err-take_all-clause-joins g c =
    let H = g.H.BlockStore in
    let s : Shape = c.args.tree.now.geometry in
    let device = c.args.hash_store.now in
    let start : ℕ = c.args.start in
    let level : ℕ = start + total_of s in
    let store = c.loop-n.hash_store in
    let read_store = c.read_run.new.self in
    let new_store = c.take_all.new.hash_store in
    let kept = c.loop-n.invariant in
    let read = c.in_ok-read_run.ensures in
    let geometry = c.digest_run.ensures.geometry ∙ kept.geometry in
    let later : IsLater H store read_store =
    record {
      tells = read.tells;
      size = read.size;
      fixed = read.fixed;
      gave = read.gave;
      failures = read.failures;
      reads = read.counted_least;
      changes = omega (arith, read.changes);
      room = omega (arith, read.room);
    } in
    let writes : WritesPart H start level read_store new_store =
    subst (λ t. WritesPart H start (start + total_of t) read_store new_store) geometry c.take_all.ensures.writes in
    joins_write H start level device read_store new_store
    (joins_read H start level device store read_store kept.joins read.content read.room later) writes
