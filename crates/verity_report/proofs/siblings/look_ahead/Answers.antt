use Rattle.std.proofs.Common.{◌≡◌, ◌<◌, ◌≤◌, ◌+◌, ◌*◌, ℕ, List, [], Some, true, sym, ap, subst, ◌∙◌, length, get_or, drop, arith}
use Rattle.std.specs.Prelude.{Contains}
use Rattle.std.specs.Fork.{slice_chunk}
use Rattle.std.proofs.Math.Nat.{mul-le-mul_right}
use Rattle.std.proofs.lemmas.List.{length-take-le}
use Rattle.verity_profile.proofs.Bounds.{block_count_high}
use Rattle.verity_digest.proofs.Groups.{block_in_group}
use Rattle.verity_chain.specs.Table.{Table, height, hashing_of}
use Rattle.verity_chain.proofs.ChainLemmas.{Grows}
use Rattle.verity_report.specs.Stores.{listed_in}
use Rattle.verity_report.specs.Report.{place_of}
use Rattle.verity_report.specs.declared.finding.Finding.TheVariants.{Unread}
use Rattle.verity_report.specs.Descent.{Known, known, IsUnder, IsRun, IsSoFar}
use Rattle.verity_report.proofs.DescentLemmas.{run_more, run_above, data_more, name_good, unread_judged, so_far_later, under_fewer}
use Rattle.verity_report.proofs.OwnLemmas.{data_on}
use Rattle.verity_report.proofs.siblings.look_ahead.Goals as goal

pub slice_bounds-digest_run-end-2 : goal.slice_bounds-digest_run-end-2
slice_bounds-digest_run-end-2 g c =
    let z : ℕ = c.args.tree.now.data_block_size in
    let s : ℕ = c.data_block_size-size.result in
    let read : ℕ = c.read_ahead-read.result in
    let size : c.data_block_size-size.result ≡ c.args.tree.now.data_block_size =
    c.data_block_size-size.ensures.value ∙ ap (λ (x : Table). x.data_block_size) c.table.ensures.value in
    let fits : read * s ≤ length c.read_ahead-read.new.out =
    omega (arith, c.read_ahead-read.auto.out, c.requires.whole, mul-le-mul_right z c.read_ahead-read.ensures.most, ap (λ m. read * m) size)
    in
    sym (length-take-le (read * s) c.read_ahead-read.new.out fits)

pub digest_run-requires : goal.digest_run-requires
digest_run-requires g c =
    let z : ℕ = c.args.tree.now.data_block_size in
    let s : ℕ = c.data_block_size-size.result in
    let read : ℕ = c.read_ahead-read.result in
    let size : c.data_block_size-size.result ≡ c.args.tree.now.data_block_size =
    c.data_block_size-size.ensures.value ∙ ap (λ (x : Table). x.data_block_size) c.table.ensures.value in
    let fits : read * s ≤ length c.read_ahead-read.new.out =
    omega (arith, c.read_ahead-read.auto.out, c.requires.whole, mul-le-mul_right z c.read_ahead-read.ensures.most, ap (λ m. read * m) size)
    in
    let low : c.read_ahead-read.result ≤ 8 = omega (arith, c.read_ahead-read.ensures.most, c.requires.few) in
    length-take-le (read * s) c.read_ahead-read.new.out fits ∙ sym (ap (λ m. m * s) (length-take-le c.read_ahead-read.result _ low))

pub note_run-requires-clause-within : goal.note_run-requires-clause-within
note_run-requires-clause-within g c =
    let low : c.read_ahead-read.result ≤ 8 = omega (arith, c.read_ahead-read.ensures.most, c.requires.few) in
    let made : length c.digest_run.new.out ≡ c.read_ahead-read.result =
    c.digest_run.auto.out ∙ length-take-le c.read_ahead-read.result _ low in
    omega (
      arith,
      made,
      c.read_ahead-read.ensures.most,
      c.requires.within,
      block_count_high c.args.tree.now.data_blocks c.requires.allowed.blocks,
    )

pub note_run-requires-clause-under : goal.note_run-requires-clause-under
note_run-requires-clause-under g c =
    let rows = c.args.rows.now in
    let n = c.args.n in
    let low : c.read_ahead-read.result ≤ 8 = omega (arith, c.read_ahead-read.ensures.most, c.requires.few) in
    let made : length c.digest_run.new.out ≡ c.read_ahead-read.result =
    c.digest_run.auto.out ∙ length-take-le c.read_ahead-read.result _ low in
    subst (λ (x : Table). IsUnder x n (length c.digest_run.new.out) rows) (sym c.digest_run.ensures.same)
    (under_fewer c.args.tree.now n c.args.count (length c.digest_run.new.out) rows (omega (arith, made, c.read_ahead-read.ensures.most))
    c.requires.under)

pub overflow_add-n : goal.overflow_add-n
overflow_add-n g c =
    omega (arith, c.read_ahead-read.ensures.most, c.requires.within, block_count_high c.args.tree.now.data_blocks c.requires.allowed.blocks)

pub note-requires-clause-seen : goal.note-requires-clause-seen
note-requires-clause-seen g c =
    let low : c.read_ahead-read.result ≤ 8 = omega (arith, c.read_ahead-read.ensures.most, c.requires.few) in
    let made : length c.digest_run.new.out ≡ c.read_ahead-read.result =
    c.digest_run.auto.out ∙ length-take-le c.read_ahead-read.result _ low in
    omega (
      arith,
      made,
      c.in_ok-note_run.ensures.run.first,
      c.requires.under.next,
      c.read_ahead-read.ensures.most,
      c.requires.within,
      block_count_high c.args.tree.now.data_blocks c.requires.allowed.blocks,
    )

pub returns-clause-run : goal.returns-clause-run
returns-clause-run g c =
    let rows = c.args.rows.now in
    let mid = c.note_run.new.rows in
    let low : c.read_ahead-read.result ≤ 8 = omega (arith, c.read_ahead-read.ensures.most, c.requires.few) in
    let made : length c.digest_run.new.out ≡ c.read_ahead-read.result =
    c.digest_run.auto.out ∙ length-take-le c.read_ahead-read.result _ low in
    let run = subst (λ m. IsRun m rows mid) made c.in_ok-note_run.ensures.run in
    run_more c.read_ahead-read.result Unread (place_of 0 (c.args.n + c.read_ahead-read.result)) (known mid 0).block rows mid c.note.new.rows
    run c.in_ok-note.ensures.step

pub returns-then-read-count-clause-found : goal.returns-then-read-count-clause-found
returns-then-read-count-clause-found g c = λ mark marked gave base other d.
    let D = g.D.BlockStore in
    let t = c.args.tree.now in
    let n : ℕ = c.args.n in
    let s : ℕ = c.data_block_size-size.result in
    let z : ℕ = D.size c.args.data_store.now in
    let read : ℕ = c.read_ahead-read.result in
    let out : List ℕ = c.read_ahead-read.new.out in
    let ahead = c.read_ahead-read.ensures in
    let rows = c.args.rows.now in
    let mid = c.note_run.new.rows in
    let u = c.args.unchecked.now in
    let u' = c.note_run.new.unchecked in
    let digests = c.digest_run.new.out in
    let log = drop mark (D.given c.read_ahead-read.new.store) in
    let old = listed_in t (drop mark (D.given c.args.data_store.now)) gave in
    let new = listed_in t log gave in
    let more : Grows old new = data_on t (D.given c.args.data_store.now) (D.given c.read_ahead-read.new.store) gave mark
    ahead.read.later.gave in
    let size : c.data_block_size-size.result ≡ c.args.tree.now.data_block_size =
    c.data_block_size-size.ensures.value ∙ ap (λ (x : Table). x.data_block_size) c.table.ensures.value in
    let low : c.read_ahead-read.result ≤ 8 = omega (arith, c.read_ahead-read.ensures.most, c.requires.few) in
    let made : length c.digest_run.new.out ≡ c.read_ahead-read.result =
    c.digest_run.auto.out ∙ length-take-le c.read_ahead-read.result _ low in
    let none : (j : ℕ) → 0 + j ≡ j = λ j. omega arith in
    let blocks : (j : ℕ) → j < length digests
    → (get_or digests j [] ≡ (hashing_of t).digest (slice_chunk out z j)) × Contains log (n + j, slice_chunk out z j) = λ j lt.
    let under : j < read = omega (arith, lt, made) in (
      c.digest_run.ensures.digests j (omega (arith, lt, c.digest_run.auto.out))
          ∙ ap (hashing_of t).digest (block_in_group out s 0 j read 0 under (omega arith) ∙ ap (slice_chunk out s) (none j)
          ∙ ap (λ m. slice_chunk out m j) (size ∙ sym c.requires.store.size)),
      ahead.given mark marked j under,
    ) in
    let noted = subst (λ (x : Table). (data_gave hash_gave : List (ℕ × List ℕ)) (blocks : ℕ → List ℕ)
    → ((j : ℕ) → j < length digests → (get_or digests j [] ≡ (hashing_of x).digest (blocks j)) × Contains data_gave (n + j, blocks j))
    → (base now : ℕ) → IsSoFar x (listed_in x data_gave hash_gave) rows u base now
    → IsSoFar x (listed_in x data_gave hash_gave) mid u' base now)
    c.digest_run.ensures.same c.in_ok-note_run.ensures.found in
    let then : IsSoFar t new mid u' base (D.failures c.args.data_store.now + other) =
    noted log gave (slice_chunk out z) blocks base (D.failures c.args.data_store.now + other)
    (so_far_later t old new more rows u base (D.failures c.args.data_store.now + other) (D.failures c.args.data_store.now + other)
    (omega arith) d) in
    so_far_later t new new (λ r i y is. is) mid u' base (D.failures c.args.data_store.now + other)
    (D.failures c.read_ahead-read.new.store + other) (omega (arith, ahead.read.later.failures)) then

pub returns-clause-found : goal.returns-clause-found
returns-clause-found g c = λ mark marked gave base other d.
    let D = g.D.BlockStore in
    let t = c.args.tree.now in
    let n : ℕ = c.args.n in
    let s : ℕ = c.data_block_size-size.result in
    let z : ℕ = D.size c.args.data_store.now in
    let read : ℕ = c.read_ahead-read.result in
    let out : List ℕ = c.read_ahead-read.new.out in
    let ahead = c.read_ahead-read.ensures in
    let rows = c.args.rows.now in
    let mid = c.note_run.new.rows in
    let u = c.args.unchecked.now in
    let u' = c.note_run.new.unchecked in
    let digests = c.digest_run.new.out in
    let log = drop mark (D.given c.read_ahead-read.new.store) in
    let old = listed_in t (drop mark (D.given c.args.data_store.now)) gave in
    let new = listed_in t log gave in
    let more : Grows old new = data_on t (D.given c.args.data_store.now) (D.given c.read_ahead-read.new.store) gave mark
    ahead.read.later.gave in
    let size : c.data_block_size-size.result ≡ c.args.tree.now.data_block_size =
    c.data_block_size-size.ensures.value ∙ ap (λ (x : Table). x.data_block_size) c.table.ensures.value in
    let low : c.read_ahead-read.result ≤ 8 = omega (arith, c.read_ahead-read.ensures.most, c.requires.few) in
    let made : length c.digest_run.new.out ≡ c.read_ahead-read.result =
    c.digest_run.auto.out ∙ length-take-le c.read_ahead-read.result _ low in
    let none : (j : ℕ) → 0 + j ≡ j = λ j. omega arith in
    let blocks : (j : ℕ) → j < length digests
    → (get_or digests j [] ≡ (hashing_of t).digest (slice_chunk out z j)) × Contains log (n + j, slice_chunk out z j) = λ j lt.
    let under : j < read = omega (arith, lt, made) in (
      c.digest_run.ensures.digests j (omega (arith, lt, c.digest_run.auto.out))
          ∙ ap (hashing_of t).digest (block_in_group out s 0 j read 0 under (omega arith) ∙ ap (slice_chunk out s) (none j)
          ∙ ap (λ m. slice_chunk out m j) (size ∙ sym c.requires.store.size)),
      ahead.given mark marked j under,
    ) in
    let noted = subst (λ (x : Table). (data_gave hash_gave : List (ℕ × List ℕ)) (blocks : ℕ → List ℕ)
    → ((j : ℕ) → j < length digests → (get_or digests j [] ≡ (hashing_of x).digest (blocks j)) × Contains data_gave (n + j, blocks j))
    → (base now : ℕ) → IsSoFar x (listed_in x data_gave hash_gave) rows u base now
    → IsSoFar x (listed_in x data_gave hash_gave) mid u' base now)
    c.digest_run.ensures.same c.in_ok-note_run.ensures.found in
    let then : IsSoFar t new mid u' base (D.failures c.args.data_store.now + other) =
    noted log gave (slice_chunk out z) blocks base (D.failures c.args.data_store.now + other)
    (so_far_later t old new more rows u base (D.failures c.args.data_store.now + other) (D.failures c.args.data_store.now + other)
    (omega arith) d) in
    let last = c.note.new.rows in
    let run : IsRun c.read_ahead-read.result c.args.rows.now c.note_run.new.rows =
    subst (λ m. IsRun m rows mid) made c.in_ok-note_run.ensures.run in
    let few : c.read_ahead-read.result < c.args.count = omega (arith, ahead.most, c.if-read-count.false) in
    let good : 0 < height c.args.tree.now → (known c.note_run.new.rows 1).good ≡ true =
    λ some. ap (λ (k : Known). k.good) (run_above read 0 rows mid run) ∙ c.requires.good some in
    let name = name_good t (n + read) mid good in
    subst (λ v. IsSoFar t new last v base (D.failures c.read_ahead-read.new.store + other)) (sym c.in_ok-note.ensures.counted)
    (data_more t new n c.args.count read Unread (known mid 0).block [] rows mid last u' base
    (D.failures c.args.data_store.now + other) (D.failures c.read_ahead-read.new.store + other) (Some name.0) true c.requires.under run few
    c.in_ok-note.ensures.step name.1 (unread_judged t name.0 []) (λ checked. absurd checked) (omega (arith, ahead.read.later.failures))
    (λ e. omega (arith, ahead.failed few)) then)
