use Rattle.std.proofs.Common.{◌≡◌, ℕ, ◌+◌, ◌*◌, ◌<◌, ◌≤◌, ◌++◌, List, IfSome, length, take, drop, replicate, ap, ◌∙◌, sym}
use Rattle.std.proofs.Common.{subst, arith}
use Rattle.std.proofs.lemmas.List.{length-take-le, length-append}
use Rattle.std.proofs.lemmas.Option.{IfSome_then}
use Rattle.std.proofs.Math.Nat.{mul-le-mul_right}
use Rattle.std.specs.Fork.{slice_chunk}
use Rattle.verity_digest.proofs.Groups.{block_in_group}
use Rattle.verity_store.specs.Given.{GaveSince}
use Rattle.verity_chain.specs.Table.{Table, hashing_of}
use Rattle.verity_chain.specs.Stores.{hash_given}
use Rattle.verity_report.specs.Stores.{given_in}
use Rattle.verity_check.proofs.WalkLemmas.{given_in-more}
use Rattle.verity_check.proofs.RangeLemmas.{Explains-more}
use Rattle.verity_check.proofs.RunLemmas.{chunk_front, IsHashed, run_served, run_wrong}
use Rattle.verity_check.proofs.run.compare_run.Goals as goal

pub returns-clause-compared : goal.returns-clause-compared
returns-clause-compared g c =
    let D = g.D.BlockStore in
    let H = g.H.BlockStore in
    let t = c.args.tree.now in
    let n : ℕ = c.args.n in
    let marks = c.args.since.now in
    let named : ℕ = c.name_run-named.result.0 in
    let read : ℕ = c.read_together-read.result in
    let good : ℕ = c.agreeing-good.result in
    let part : List ℕ = c.read_together-read.new.out in
    let out : List ℕ = part ++ drop (c.name_run-named.result.0 * c.data_block_size-size.result) c.args.run.now in
    let z : ℕ = t.data_block_size in
    let s : ℕ = c.data_block_size-size.result in
    let ahead = c.read_together-read.ensures in
    let d = c.read_together-read.new.store in
    let h = c.name_run-named.new.hash_store in
    let given = given_in D H t marks d h in
    let digests = c.digest_run.new.out in
    let names = c.name_run-named.new.names in
    let size : c.data_block_size-size.result ≡ t.data_block_size = c.data_block_size-size.ensures.value
    ∙ ap (λ (x : Table). x.data_block_size) (c.table.ensures.value ∙ c.name_run-named.ensures.same) in
    let root : List ℕ = c.root-room_for_names.result in
    let all : length (take c.args.count (replicate 128 root)) ≡ c.args.count =
    length-take-le c.args.count (replicate 128 root) c.requires.few in
    let few : named ≤ c.args.count = subst (λ m. named ≤ m) all c.name_run-named.ensures.most in
    let fits : named * s ≤ length c.args.run.now =
    omega (arith, c.requires.run_whole, size, mul-le-mul_right z few, ap (λ m. named * m) size) in
    let long : length part ≡ named * z = c.read_together-read.auto.out ∙ length-take-le (named * s) c.args.run.now fits
    ∙ ap (λ m. named * m) size in
    let front : (j : ℕ) → j < read → slice_chunk part z j ≡ slice_chunk out z j =
    λ j lt. chunk_front part (drop (named * s) c.args.run.now) z j named (omega (arith, lt, ahead.most)) long in
    let low : c.read_together-read.result ≤ 128 = omega (arith, ahead.most, few, c.requires.few) in
    let made : length digests ≡ read = c.digest_run.auto.out ∙ length-take-le c.read_together-read.result _ low in
    let is : IsHashed D H t marks c.args.data_store.now d h n read out digests names = record {
      keeps = ahead.read;
      size = c.requires.data_store.size;
      room = omega (arith, long, mul-le-mul_right z ahead.most, length-append part (drop (named * s) c.args.run.now));
      below = omega (arith, ahead.most, few, c.requires.below);
      gave = λ j lt. subst (λ b. GaveSince (D.given d) marks.of_data (n + j) b) (front j lt)
          (subst (λ m. GaveSince (D.given d) marks.of_data (n + j) (slice_chunk part m j)) c.requires.data_store.size
          (ahead.given marks.of_data c.requires.data_since j lt));
      right = λ told j lt. ahead.right told j lt ∙ ap (λ m. slice_chunk part m j) c.requires.data_store.size ∙ front j lt;
      digest = λ j lt.
          let none : 0 + j ≡ j = omega arith in
          c.digest_run.ensures.digests j (omega (arith, lt, made, c.digest_run.auto.out))
          ∙ ap (λ tr. (hashing_of tr).digest (slice_chunk (take (read * s) out) s j)) c.name_run-named.ensures.same
          ∙ ap (hashing_of t).digest (block_in_group out s 0 j read 0 lt (omega arith) ∙ ap (slice_chunk out s) none
          ∙ ap (λ m. slice_chunk out m j) size);
      named = λ j lt. c.name_run-named.ensures.named j (omega (arith, lt, ahead.most));
    } in
    record {
      served = run_served D H t marks c.args.data_store.now d h n read out digests names is good
          (omega (arith, c.agreeing-good.ensures.most, made)) c.agreeing-good.ensures.same;
      wrong = λ lt. run_wrong D H t marks c.args.data_store.now d h n read out digests names is good lt
          (c.agreeing-good.ensures.differs (omega (arith, lt, made)));
      failed = ahead.failed;
      all = λ none. c.name_run-named.ensures.all none ∙ all;
      short = subst (λ m. IfSome c.name_run-named.result.1 (λ fault. named < m)) all c.name_run-named.ensures.short;
      err = IfSome_then c.name_run-named.result.1 c.name_run-named.ensures.err (λ fault.
          Explains-more t (hash_given H t marks.of_hash h) given (given_in-more D H t marks d h) ⊥
          (D.failures c.args.data_store.now < D.failures d) (H.failures c.args.hash_store.now < H.failures h)
          (H.failures c.args.hash_store.now < H.failures h) (λ x. absurd x) (λ x. x) (n + named) fault);
      memory = c.name_run-named.ensures.memory;
      good_of_read = omega (arith, c.agreeing-good.ensures.most, made);
      read_of_named = ahead.most;
      named_of_all = few;
    }

pub slice_bounds-read_together-end-2 : goal.slice_bounds-read_together-end-2
slice_bounds-read_together-end-2 g c =
    let named : ℕ = c.name_run-named.result.0 in
    let z : ℕ = c.args.tree.now.data_block_size in
    let s : ℕ = c.data_block_size-size.result in
    let size : c.data_block_size-size.result ≡ c.args.tree.now.data_block_size = c.data_block_size-size.ensures.value
    ∙ ap (λ (x : Table). x.data_block_size) (c.table.ensures.value ∙ c.name_run-named.ensures.same) in
    let root : List ℕ = c.root-room_for_names.result in
    let all : length (take c.args.count (replicate 128 root)) ≡ c.args.count =
    length-take-le c.args.count (replicate 128 root) c.requires.few in
    let few : named ≤ c.args.count = subst (λ m. named ≤ m) all c.name_run-named.ensures.most in
    let fits : named * s ≤ length c.args.run.now =
    omega (arith, c.requires.run_whole, size, mul-le-mul_right z few, ap (λ m. named * m) size) in
    sym (length-take-le (named * s) c.args.run.now fits)

pub read_together-read-requires-clause-sized : goal.read_together-read-requires-clause-sized
read_together-read-requires-clause-sized g c =
    let named : ℕ = c.name_run-named.result.0 in
    let z : ℕ = c.args.tree.now.data_block_size in
    let s : ℕ = c.data_block_size-size.result in
    let size : c.data_block_size-size.result ≡ c.args.tree.now.data_block_size = c.data_block_size-size.ensures.value
    ∙ ap (λ (x : Table). x.data_block_size) (c.table.ensures.value ∙ c.name_run-named.ensures.same) in
    let root : List ℕ = c.root-room_for_names.result in
    let all : length (take c.args.count (replicate 128 root)) ≡ c.args.count =
    length-take-le c.args.count (replicate 128 root) c.requires.few in
    let few : named ≤ c.args.count = subst (λ m. named ≤ m) all c.name_run-named.ensures.most in
    let fits : named * s ≤ length c.args.run.now =
    omega (arith, c.requires.run_whole, size, mul-le-mul_right z few, ap (λ m. named * m) size) in
    length-take-le (named * s) c.args.run.now fits ∙ ap (λ m. named * m) (size ∙ sym c.requires.data_store.size)

pub slice_bounds-digest_run-end-2 : goal.slice_bounds-digest_run-end-2
slice_bounds-digest_run-end-2 g c =
    let named : ℕ = c.name_run-named.result.0 in
    let z : ℕ = c.args.tree.now.data_block_size in
    let s : ℕ = c.data_block_size-size.result in
    let size : c.data_block_size-size.result ≡ c.args.tree.now.data_block_size = c.data_block_size-size.ensures.value
    ∙ ap (λ (x : Table). x.data_block_size) (c.table.ensures.value ∙ c.name_run-named.ensures.same) in
    let root : List ℕ = c.root-room_for_names.result in
    let all : length (take c.args.count (replicate 128 root)) ≡ c.args.count =
    length-take-le c.args.count (replicate 128 root) c.requires.few in
    let few : named ≤ c.args.count = subst (λ m. named ≤ m) all c.name_run-named.ensures.most in
    let fits : named * s ≤ length c.args.run.now =
    omega (arith, c.requires.run_whole, size, mul-le-mul_right z few, ap (λ m. named * m) size) in
    let read : ℕ = c.read_together-read.result in
    let part : List ℕ = c.read_together-read.new.out in
    let out : List ℕ = part ++ drop (c.name_run-named.result.0 * c.data_block_size-size.result) c.args.run.now in
    let long : length part ≡ named * s = c.read_together-read.auto.out ∙ length-take-le (named * s) c.args.run.now fits in
    let within : read * s ≤ length out =
    omega (arith, long, mul-le-mul_right s c.read_together-read.ensures.most, length-append part (drop (named * s) c.args.run.now)) in
    sym (length-take-le (read * s) out within)

pub digest_run-requires : goal.digest_run-requires
digest_run-requires g c =
    let named : ℕ = c.name_run-named.result.0 in
    let z : ℕ = c.args.tree.now.data_block_size in
    let s : ℕ = c.data_block_size-size.result in
    let size : c.data_block_size-size.result ≡ c.args.tree.now.data_block_size = c.data_block_size-size.ensures.value
    ∙ ap (λ (x : Table). x.data_block_size) (c.table.ensures.value ∙ c.name_run-named.ensures.same) in
    let root : List ℕ = c.root-room_for_names.result in
    let all : length (take c.args.count (replicate 128 root)) ≡ c.args.count =
    length-take-le c.args.count (replicate 128 root) c.requires.few in
    let few : named ≤ c.args.count = subst (λ m. named ≤ m) all c.name_run-named.ensures.most in
    let fits : named * s ≤ length c.args.run.now =
    omega (arith, c.requires.run_whole, size, mul-le-mul_right z few, ap (λ m. named * m) size) in
    let read : ℕ = c.read_together-read.result in
    let part : List ℕ = c.read_together-read.new.out in
    let out : List ℕ = part ++ drop (c.name_run-named.result.0 * c.data_block_size-size.result) c.args.run.now in
    let long : length part ≡ named * s = c.read_together-read.auto.out ∙ length-take-le (named * s) c.args.run.now fits in
    let within : read * s ≤ length out =
    omega (arith, long, mul-le-mul_right s c.read_together-read.ensures.most, length-append part (drop (named * s) c.args.run.now)) in
    let low : c.read_together-read.result ≤ 128 = omega (arith, c.read_together-read.ensures.most, few, c.requires.few) in
    length-take-le (read * s) out within ∙ sym (ap (λ m. m * s) (length-take-le c.read_together-read.result _ low))
