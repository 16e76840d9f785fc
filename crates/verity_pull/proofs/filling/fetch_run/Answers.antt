use Rattle.std.proofs.Common.{◌≡◌, ℕ, ◌+◌, ◌*◌, ◌<◌, List, [], length, get_or, refl, sym, ap, subst, ◌∙◌, arith}
use Rattle.std.specs.Fork.{slice_chunk}
use Rattle.std.proofs.lemmas.List.{length-take-le}
use Rattle.verity_store.specs.Given.{GaveSince}
use Rattle.verity_store.proofs.RunLemmas.{since_run}
use Rattle.verity_chain.specs.Table.{Table, hashing_of}
use Rattle.verity_chain.proofs.ChainLemmas.{ok_here}
use Rattle.verity_report.proofs.DescentLemmas.{ok_weaker}
use Rattle.verity_pull.specs.declared.fault.Role.TheVariants as role
use Rattle.verity_pull.proofs.StepLemmas.{ok_always, err_weaker, wrong_store}
use Rattle.verity_pull.proofs.RunLemmas.{length_chunk}
use Rattle.verity_pull.proofs.filling.fetch_run.Goals as goal

pub returns-clause-came : goal.returns-clause-came
returns-clause-came g c = ok_always c.write_run.result _ (λ mark marked j lt.
    let S = g.S.BlockStore in
    let n : ℕ = c.args.n in
    let count : ℕ = length c.args.names.now in
    let out : List ℕ = c.read_run.new.out in
    let s' = c.read_run.new.self in
    let e = c.read_run.ensures in
    let whole : length c.read_run.new.out ≡ length c.args.names.now * c.args.tree.now.data_block_size =
    c.read_run.auto.out ∙ c.requires.run in (
      subst (λ m. GaveSince (S.given s') mark (n + j) (slice_chunk out m j)) c.requires.same_size
          (subst (λ log. GaveSince log mark (n + j) (slice_chunk out (S.size c.args.source.now) j))
          (sym (ok_here c.read_run.result _ e.given c.if-is_err.ensures.value))
          (since_run (S.given c.args.source.now) mark n (S.size c.args.source.now) count out marked j lt)),
      length_chunk out c.args.tree.now.data_block_size j count whole lt ∙ sym c.requires.same_size ∙ sym e.size,
    ))

pub returns-clause-digests : goal.returns-clause-digests
returns-clause-digests g c = ok_always c.write_run.result _ (λ j lt.
    let t = c.args.tree.now in
    let out : List ℕ = c.read_run.new.out in
    let size : c.data_block_size-size.result ≡ c.args.tree.now.data_block_size =
    c.data_block_size-size.ensures.value ∙ ap (λ (x : Table). x.data_block_size) c.table.ensures.value in
    let made : length c.digest_run.new.out ≡ length c.args.names.now =
    c.digest_run.auto.out ∙ length-take-le (length c.args.names.now) _ c.requires.few in
    ap (λ m. (hashing_of t).digest (slice_chunk out m j)) (sym size)
    ∙ sym (c.digest_run.ensures.digests j (omega (arith, lt, made, c.digest_run.auto.out)))
    ∙ c.agreeing-right.ensures.same j (omega (arith, lt, c.if-right-count.false)))

pub returns-clause-written : goal.returns-clause-written
returns-clause-written g c =
    let out : List ℕ = c.read_run.new.out in
    let size : c.data_block_size-size.result ≡ c.args.tree.now.data_block_size =
    c.data_block_size-size.ensures.value ∙ ap (λ (x : Table). x.data_block_size) c.table.ensures.value in
    ok_weaker c.write_run.result _ _ (λ written told j lt. written told j lt ∙ ap (λ m. slice_chunk out m j) size)
    c.write_run.ensures.written

pub returns-clause-untouched : goal.returns-clause-untouched
returns-clause-untouched g c = err_weaker c.write_run.result _ _ (λ why is isnt. absurd (isnt is)) c.write_run.ensures.store

pub returns-clause-wrong : goal.returns-clause-wrong
returns-clause-wrong g c =
    err_weaker c.write_run.result _ _ (λ why is. wrong_store why role.LocalData _ is) c.write_run.ensures.store

pub returns-then-right-count-clause-wrong : goal.returns-then-right-count-clause-wrong
returns-then-right-count-clause-wrong g c = λ mark marked rows named.
    let S = g.S.BlockStore in
    let t = c.args.tree.now in
    let n : ℕ = c.args.n in
    let count : ℕ = length c.args.names.now in
    let j : ℕ = c.agreeing-right.result in
    let out : List ℕ = c.read_run.new.out in
    let s' = c.read_run.new.self in
    let e = c.read_run.ensures in
    let lt : c.agreeing-right.result < length c.args.names.now = omega (arith, c.if-right-count.true) in
    let size : c.data_block_size-size.result ≡ c.args.tree.now.data_block_size =
    c.data_block_size-size.ensures.value ∙ ap (λ (x : Table). x.data_block_size) c.table.ensures.value in
    let made : length c.digest_run.new.out ≡ length c.args.names.now =
    c.digest_run.auto.out ∙ length-take-le (length c.args.names.now) _ c.requires.few in
    let whole : length c.read_run.new.out ≡ length c.args.names.now * c.args.tree.now.data_block_size =
    c.read_run.auto.out ∙ c.requires.run in
    record {
      m = n + j;
      is = refl;
      from = omega arith;
      upto = omega (arith, lt);
      wrong = record {
        y = slice_chunk out t.data_block_size j;
        digest = get_or c.args.names.now j [];
        came = (
          subst (λ m. GaveSince (S.given s') mark (n + j) (slice_chunk out m j)) c.requires.same_size
              (subst (λ log. GaveSince log mark (n + j) (slice_chunk out (S.size c.args.source.now) j))
              (sym (ok_here c.read_run.result _ e.given c.if-is_err.ensures.value))
              (since_run (S.given c.args.source.now) mark n (S.size c.args.source.now) count out marked j lt)),
          length_chunk out c.args.tree.now.data_block_size j count whole lt ∙ sym c.requires.same_size ∙ sym e.size,
        );
        name = named j lt;
        differs = λ same.
            c.agreeing-right.ensures.differs (omega (arith, lt, made))
            (c.digest_run.ensures.digests j (omega (arith, lt, made, c.digest_run.auto.out))
            ∙ ap (λ m. (hashing_of t).digest (slice_chunk out m j)) size ∙ same);
      };
    }
