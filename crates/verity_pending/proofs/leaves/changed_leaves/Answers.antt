use Rattle.std.proofs.Common.{◌≡◌, ℕ, ◌≤◌, ◌++◌, ltb, List, length, map, take, drop, get_or, arith, rules, subst, sym, ap, ◌∙◌}
use Rattle.std.specs.List.Sorted.{IsNonDecreasingBy}
use Rattle.std.proofs.lemmas.Bool.{ltb-true, lt-ltb}
use Rattle.std.proofs.lemmas.List.{take_at, length-map}
use Rattle.std.proofs.lemmas.List.Sorted.{IsPartitionPoint-from_clause}
use Rattle.verity_digest.specs.Hash.{Salted, salted_digest}
use Rattle.verity_pending.specs.declared.child.Child.{Child}
use Rattle.verity_pending.specs.Children.{spread}
use Rattle.verity_pending.specs.Leaves.{unhashed, numbers_in, changed_numbers, hashed_leaf}
use Rattle.verity_pending.proofs.Applied.{KeysRise, KeysRise-ordered}
use Rattle.verity_pending.proofs.ChildLemmas.{IsFirstFrom}
use Rattle.verity_pending.proofs.LeafLemmas.{written_leaves, hashed_unhashed, written_rise, leaves_spread, before_is, length_changed}
use Rattle.verity_pending.proofs.LeafLemmas.{count_written, leaf_hashes_most}
use Rattle.verity_pending.proofs.leaves.changed_leaves.Goals as goal
use Rattle.verity_pending.proofs.leaves.changed_leaves.Goals.{then-others, else-others}

made_whole : (salted : Salted) (es : List (ℕ × List ℕ)) (zero : List ℕ) (items new old : List Child) (len : ℕ) → length new ≡ len →
    new ≡ map (λ child. hashed_leaf salted es zero child.number) old → old ≡ map unhashed (numbers_in es) →
    take len (new ++ drop (length new) items) ≡ written_leaves salted es zero
made_whole salted es zero items new old len long made is =
    take_at new (drop (length new) items) len long ∙ made ∙ ap (map (λ child. hashed_leaf salted es zero child.number)) is
    ∙ hashed_unhashed salted es zero (numbers_in es)

unhashed_long : (es : List (ℕ × List ℕ)) (items : List Child) (len : ℕ) → len ≡ length items → items ≡ map unhashed (numbers_in es) →
    length es ≡ len
unhashed_long es items len long is =
    let a = ap length is in
    let b = length-map (numbers_in es) unhashed in
    let c = length-map es (λ e. e.0) in
    omega arith

pub spread-all-requires-clause-rising : goal.spread-all-requires-clause-rising
spread-all-requires-clause-rising g c =
    let salted : Salted = c.args.hasher.now.salted in
    let es : List (ℕ × List ℕ) = c.args.written.now.entries in
    let zero : List ℕ = c.args.zero.now in
    let rise : KeysRise 0 es = KeysRise-ordered es c.len-ordered.ensures.ordered in
    let named : List Child = written_leaves salted es zero in
    let whole = made_whole salted es zero c.in_ok-leaves.leaves.items c.digest_leaves.new.leaves c.deref_mut-2.result.now
    c.in_ok-leaves.leaves.len (omega (arith, c.digest_leaves.auto.leaves, c.deref_mut-2.ensures.len)) c.digest_leaves.ensures.made
    (c.deref_mut-2.ensures.value ∙ c.in_ok-leaves.ensures) in
    subst (IsNonDecreasingBy (λ (child : Child). child.number)) (sym whole) (written_rise salted es zero rise)

pub returns-clause-leaves : goal.returns-clause-leaves
returns-clause-leaves g c =
    let salted : Salted = c.args.hasher.now.salted in
    let es : List (ℕ × List ℕ) = c.args.written.now.entries in
    let zero : List ℕ = c.args.zero.now in
    let rise : KeysRise 0 es = KeysRise-ordered es c.len-ordered.ensures.ordered in
    let named : List Child = written_leaves salted es zero in
    let whole = made_whole salted es zero c.in_ok-leaves.leaves.items c.digest_leaves.new.leaves c.deref_mut-2.result.now
    c.in_ok-leaves.leaves.len (omega (arith, c.digest_leaves.auto.leaves, c.deref_mut-2.ensures.len)) c.digest_leaves.ensures.made
    (c.deref_mut-2.ensures.value ∙ c.in_ok-leaves.ensures) in
    let least : ℕ = c.args.least in
    let working : ℕ = c.args.working in
    let before : ℕ = c.partition_point-before.result in
    let seen : c.deref.result.now ≡ named = c.deref.ensures.value ∙ whole in
    let rising : IsNonDecreasingBy (λ child. child.number) c.deref.result.now =
    subst (IsNonDecreasingBy (λ (child : Child). child.number)) (sym seen) (written_rise salted es zero rise) in
    let parted : IsFirstFrom least named before = subst (λ (cs : List Child). IsFirstFrom least cs before) seen
    (IsPartitionPoint-from_clause (λ child. ltb child.number least) c.deref.result.now before c.partition_point-before.ensures.partitioned
    (λ i j d le inside t. let high = ltb-true (get_or c.deref.result.now j d).number least t in
    let order = rising i j d le inside in lt-ltb (get_or c.deref.result.now i d).number least (omega arith))
    (λ a r f' called. search rules)) in
    let long : length es ≡ c.in_ok-leaves.leaves.len = unhashed_long es c.in_ok-leaves.leaves.items c.in_ok-leaves.leaves.len
    c.in_ok-leaves.leaves.ok.0 c.in_ok-leaves.ensures in
    let fits : before ≤ length es = (let bound = c.partition_point-before.ensures.bound in let n = c.deref.ensures.len in omega arith) in
    let all = length_changed es least working before (before_is salted es zero least before fits parted) in
    let common : List ℕ = c.zero_digest-common.result in
    c.spread-all.ensures
    ∙ ap (λ cs. take before cs ++ spread cs common least working) whole
    ∙ leaves_spread salted es zero common least working before rise c.requires.behind parted
    (λ some. c.zero_digest-common.ensures.digest (lt-ltb _ _ (let n = c.len-2.ensures in omega arith))
    ∙ ap (λ s. salted_digest s zero) c.digest_leaves.ensures.salted)

pub returns-clause-count : goal.returns-clause-count
returns-clause-count g c =
    let salted : Salted = c.args.hasher.now.salted in
    let es : List (ℕ × List ℕ) = c.args.written.now.entries in
    let zero : List ℕ = c.args.zero.now in
    let rise : KeysRise 0 es = KeysRise-ordered es c.len-ordered.ensures.ordered in
    let named : List Child = written_leaves salted es zero in
    let whole = made_whole salted es zero c.in_ok-leaves.leaves.items c.digest_leaves.new.leaves c.deref_mut-2.result.now
    c.in_ok-leaves.leaves.len (omega (arith, c.digest_leaves.auto.leaves, c.deref_mut-2.ensures.len)) c.digest_leaves.ensures.made
    (c.deref_mut-2.ensures.value ∙ c.in_ok-leaves.ensures) in
    let least : ℕ = c.args.least in
    let working : ℕ = c.args.working in
    let before : ℕ = c.partition_point-before.result in
    let seen : c.deref.result.now ≡ named = c.deref.ensures.value ∙ whole in
    let rising : IsNonDecreasingBy (λ child. child.number) c.deref.result.now =
    subst (IsNonDecreasingBy (λ (child : Child). child.number)) (sym seen) (written_rise salted es zero rise) in
    let parted : IsFirstFrom least named before = subst (λ (cs : List Child). IsFirstFrom least cs before) seen
    (IsPartitionPoint-from_clause (λ child. ltb child.number least) c.deref.result.now before c.partition_point-before.ensures.partitioned
    (λ i j d le inside t. let high = ltb-true (get_or c.deref.result.now j d).number least t in
    let order = rising i j d le inside in lt-ltb (get_or c.deref.result.now i d).number least (omega arith))
    (λ a r f' called. search rules)) in
    let long : length es ≡ c.in_ok-leaves.leaves.len = unhashed_long es c.in_ok-leaves.leaves.items c.in_ok-leaves.leaves.len
    c.in_ok-leaves.leaves.ok.0 c.in_ok-leaves.ensures in
    let fits : before ≤ length es = (let bound = c.partition_point-before.ensures.bound in let n = c.deref.ensures.len in omega arith) in
    let all = length_changed es least working before (before_is salted es zero least before fits parted) in
    let count = count_written es least working rise c.requires.behind in
    let n = c.len-2.ensures in
    let hashed = c.len-hashed.ensures in
    elim c.if-others.branch [
      | then-others w ↦ let some = w.if-others.true in w.result-is ∙ omega arith
      | else-others w ↦ let none = w.if-others.false in w.result-is ∙ omega arith
    ]

pub returns-clause-most : goal.returns-clause-most
returns-clause-most g c =
    let es : List (ℕ × List ℕ) = c.args.written.now.entries in
    let numbers : List ℕ = changed_numbers es c.args.least c.args.working in
    let count = returns-clause-count g c in
    let long = ap length (returns-clause-leaves g c) ∙ length-map numbers (hashed_leaf c.args.hasher.now.salted es c.args.zero.now) in
    let most = leaf_hashes_most es numbers in
    omega arith
