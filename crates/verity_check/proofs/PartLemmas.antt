-- A data block of which a part is taken, as a run of one.
use Rattle.std.proofs.Common.{ℕ, ◌+◌, ◌<◌, ◌≡◌, List, [], length, take, sym, subst, arith}
use Rattle.std.proofs.lemmas.List.{take_all}
use Rattle.verity_store.specs.Blocks.{cut}
use Rattle.verity_chain.specs.Table.{Table}
use Rattle.verity_chain.specs.Chain.{Given, EndsChain}
use Rattle.verity_check.specs.Range.{Served}
use Rattle.verity_check.specs.Refusal.{Explains, RefusesOneOf}
use Rattle.verity_check.specs.declared.fault.CheckFault.{CheckFault}

module _ (t : Table) (given : Given) (n count : ℕ) (one : count ≡ 1) where
  -- a block at the end of a chain is one that was served
  pub served_one : (block : List ℕ) → n < t.data_blocks → length block ≡ t.data_block_size → EndsChain t given 0 n block
      → Served t given n (cut t.data_block_size count block)
  served_one block below len chain =
      let whole : take t.data_block_size block ≡ block = take_all t.data_block_size block (omega (arith, len)) in
      let served : Served t given n (cut t.data_block_size 1 block) =
      (below, subst (λ b. EndsChain t given 0 n b) (sym whole) chain, tt) in
      subst (λ m. Served t given n (cut t.data_block_size m block)) (sym one) served

  -- why it was refused is why one of the run was
  pub refuses_one : (p q : Type 0) (fault : CheckFault) → Explains t given p q n fault → RefusesOneOf t given p q n count fault
  refuses_one p q fault why =
      let here : n ≡ n + 0 = omega arith in
      let few : 0 < count = omega (arith, one) in
      ([], tt, few, subst (λ m. Explains t given p q m fault) here why)
