use Rattle.std.proofs.Common.{ℕ, ◌<◌, ◌≤◌, ltb, List, length, get_or, arith, rules, sym, ap, ◌∙◌}
use Rattle.std.proofs.lemmas.Bool.{ltb-true, lt-ltb}
use Rattle.std.proofs.lemmas.List.{get_or_default}
use Rattle.std.proofs.lemmas.List.Sorted.{IsPartitionPoint-from_clause}
use Rattle.verity_pending.specs.declared.child.Child.{Child}
use Rattle.verity_pending.specs.Slots.{nobody}
use Rattle.verity_pending.proofs.ChildLemmas.{IsFirstFrom, digest_here, digest_past, digest_apart}
use Rattle.verity_pending.proofs.children.digest_among.Goals as goal
use Rattle.verity_pending.proofs.children.digest_among.Goals.{else-at-named-via-then-at-named+else-named-at}
use Rattle.verity_pending.proofs.children.digest_among.Goals.{else-at-named-via-else-at-named}

pub returns-then-named-at : goal.returns-then-named-at
returns-then-named-at c =
    let named : List Child = c.args.named.now in
    let n : ℕ = c.args.number in
    let at : ℕ = c.partition_point-at.result in
    let below : at < length named = (let inside = c.if-at-named.true in omega arith) in
    let parted : IsFirstFrom n named at =
    IsPartitionPoint-from_clause (λ child. ltb child.number n) named at c.partition_point-at.ensures.partitioned
    (λ i j d le inside t. let high = ltb-true (get_or named j d).number n t in
    let order = c.requires.rising i j d le inside in lt-ltb (get_or named i d).number n (omega arith))
    (λ a r f' called. search rules) in
    ap (λ child. child.digest) (get_or_default named at c.index-named-at-then-named-at.result nobody below)
    ∙ sym (digest_here named c.args.common n at parted below
    (sym (ap (λ child. child.number) (get_or_default named at c.index-named-at.result nobody below)) ∙ c.if-named-at.true))

pub returns : goal.returns
returns c =
    let named : List Child = c.args.named.now in
    let n : ℕ = c.args.number in
    let at : ℕ = c.partition_point-at.result in
    let parted : IsFirstFrom n named at =
    IsPartitionPoint-from_clause (λ child. ltb child.number n) named at c.partition_point-at.ensures.partitioned
    (λ i j d le inside t. let high = ltb-true (get_or named j d).number n t in
    let order = c.requires.rising i j d le inside in lt-ltb (get_or named i d).number n (omega arith))
    (λ a r f' called. search rules) in
    elim c.else-at-named.branch [
      | else-at-named-via-then-at-named+else-named-at w ↦
          let below : at < length named = (let inside = w.if-at-named.true in omega arith) in
          sym (digest_apart named c.args.common n at parted c.requires.rising below
          (λ is. w.if-named-at.false (ap (λ child. child.number) (get_or_default named at w.index-named-at.result nobody below) ∙ is)))
      | else-at-named-via-else-at-named w ↦
          let past : length named ≤ at = (let outside = w.if-at-named.false in omega arith) in
          sym (digest_past named c.args.common n at parted past)
    ]
