use Rattle.std.proofs.Common.{◌≡◌, ℕ, List, [], sym, length, arith, rules}
use Rattle.std.proofs.lemmas.List.Elements.{All-nil, All-same}
use Rattle.std.proofs.lemmas.List.Sorted.{All-permutation}
use Rattle.test_stores.specs.Script.{IsSized}
use Rattle.test_stores.proofs.script.ScriptStore.new.Goals as goal

pub invariant_of-result : goal.invariant_of-result
invariant_of-result g c =
    let IsWhole : ℕ × List ℕ → Type 0 = λ one. length one.1 ≡ c.args.size in
    record {
      profile = search rules;
      room = omega (arith, c.reverse.ensures.len, c.in-Ok.ensures.len, c.in-Ok.ensures.capacity, c.len.ensures);
      left_sized = All-permutation (IsSized c.args.size) c.args.answers.items c.reverse.new.self.items c.reverse.ensures.permutation
          (All-same (IsSized c.args.size) c.args.answers.items c.deref.result.now (sym c.deref.ensures.value)
          (c.are_sized.ensures.0 (search rules)));
      given_sized = All-same IsWhole c.in-Ok.given.items [] c.in-Ok.ensures.items (All-nil IsWhole);
    }
