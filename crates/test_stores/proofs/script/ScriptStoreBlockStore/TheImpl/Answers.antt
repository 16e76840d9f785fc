use Rattle.std.proofs.Common.{refl, rules, arith}
use Rattle.std.proofs.lemmas.Bool.{false≢true}
use Rattle.test_stores.specs.Script.{next_block}
use Rattle.verity_store.proofs.BlockLemmas.{resized_not}
use Rattle.verity_store.proofs.GivenLemmas.{goes_on_same}
use Rattle.test_stores.proofs.ScriptLemmas.{read_tells, on_ok_always}
use Rattle.test_stores.proofs.script.ScriptStoreBlockStore.TheImpl.Goals as goal

pub read-tells : goal.read-tells
read-tells g c =
    let old = c.args.self.now in
    let new = c.new.self.now in
    let t = read_tells c.args.n (next_block old.answers) old new c.new.out.now c.result c.ensures.whole c.ensures.after
    c.ensures.gives c.ensures.fails in
    record {
      given = t.given;
      ungiven = t.ungiven;
      right = on_ok_always c.result _ (λ told. absurd (false≢true told));
      error = t.error;
      failed = t.failed;
      unfailed = t.unfailed;
      failures = t.failures;
      counted = t.counted;
      changes = t.changes;
      content = rw (t.blocks, t.size) refl;
      gave = t.gave;
      tells = refl;
      size = t.size;
      fixed = refl;
      room = refl;
    }

pub set_len-tells : goal.set_len-tells
set_len-tells g c =
    rw (c.ensures.after, c.ensures.refused) (record {
      done = tt;
      partly = resized_not _ _ _;
      blocks = λ whole. whole;
      error = search rules;
      failed = λ _. omega arith;
      refused = search rules;
      unfailed = tt;
      failures = omega arith;
      reads = refl;
      counted = refl;
      given = refl;
      gave = goes_on_same _;
      tells = refl;
      size = refl;
      fixed = refl;
      room = omega arith;
    })
