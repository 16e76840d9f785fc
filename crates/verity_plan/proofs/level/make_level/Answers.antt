use Rattle.std.proofs.Common.{◌≡◌, ℕ, ◌+◌, ◌<◌, ◌≤◌, ◌++◌, ◌∷◌, List, [], length, take, map, get_or, arith, subst, sym, ap, ◌∙◌}
use Rattle.std.proofs.lemmas.List.{take_all, map_more, append_assoc, take_more}
use Rattle.std.proofs.lemmas.List.Elements.{Contains-get_or}
use Rattle.verity_digest.specs.Tree.{Hashing, pack}
use Rattle.verity_digest.specs.Hash.{hashing, size_of}
use Rattle.verity_store.proofs.StoreLemmas.{only_read_then}
use Rattle.verity_pending.specs.declared.child.Child.{Child}
use Rattle.verity_pending.specs.Slots.{AreSized, nobody}
use Rattle.verity_plan.specs.Level.{Holds, IsLevel, IsOldBlock, IsOldOf}
use Rattle.verity_pending.specs.Plan.{Planned, nothing_planned, numbers_of, places, ArePlanned, made_blocks, made_digests}
use Rattle.verity_plan.proofs.SeenLemmas.{shows_before, gives_then, gives_more}
use Rattle.verity_plan.proofs.Pushes.{each_push, map_push}
use Rattle.verity_plan.proofs.level.make_level.Goals as goal

pub make_block-requires-clause-level : goal.make_block-requires-clause-level
make_block-requires-clause-level g c =
    let inv = c.loop-index.invariant in
    let P : ℕ → ℕ → ℕ → Type 0 = IsLevel c.args.level.now in
    let store = c.loop-index.hash_store in
    let a = subst (λ (n : ℕ). P n (g.H.BlockStore.size c.args.hash_store.now) (size_of c.args.hasher.now.salted.algorithm))
    (sym (ap length inv.read_only.content)) c.requires.level in
    let b = subst (λ (n : ℕ). P (length (g.H.BlockStore.content store)) n (size_of c.args.hasher.now.salted.algorithm))
    (sym inv.read_only.later.size) a in
    subst (λ (n : ℕ). P (length (g.H.BlockStore.content store)) (g.H.BlockStore.size store) n)
    (sym (ap (λ s. size_of s.algorithm) inv.salted)) b

pub make_block-requires-clause-sized : goal.make_block-requires-clause-sized
make_block-requires-clause-sized g c = let inv = c.loop-index.invariant in let size = c.requires.sized in
    omega (arith, inv.read_only.later.size)

pub loop-index-preserved : goal.loop-index-preserved
loop-index-preserved g c =
    let inv = c.loop-index.invariant in
    let one = c.in_ok-make_block.ensures in
    let level = c.args.level.now in
    let at : ℕ = c.loop-index.index-index in
    let numbers : List ℕ = c.args.numbers.now in
    let i : ℕ = get_or numbers at 0 in
    let below : at < length numbers = omega arith in
    let planned = one.planned in
    let next = one.next in
    let len : length c.loop-index.block ≡ length c.args.block.now = omega arith in
    let more : take (at + 1) numbers ≡ take at numbers ++ i ∷ [] = take_more numbers at 0 below in
    record {
      made = λ content shown old new count holds renews.
          let h : Hashing = hashing c.args.hasher.now.salted (length c.args.block.now) in
          let here : Hashing = hashing c.loop-index.hasher.salted (length c.loop-index.block) in
          let same : here ≡ h = λ j. hashing (inv.salted j) (len j) in
          let held_here : Holds here old level.old content = subst (λ (x : Hashing). Holds x old level.old content) (sym same) holds in
          let was = shows_before g.H.BlockStore c.loop-index.hash_store c.make_block.new.hash_store content one.read_only shown in
          let before = inv.made content was old new count holds renews in
          let r = one.made content shown old new count held_here renews in
          let block_of : ℕ → Planned = λ n. record { at = level.start + n; block = get_or (pack h new) n [] } in
          let child_of : ℕ → Child = λ n. record { number = n; digest = h.digest (get_or (pack h new) n []) } in (
            r.0
                ∙ (λ j. before.0 j ++ made_blocks (same j) new level.start (i ∷ []))
                ∙ append_assoc c.args.plan.now.items (made_blocks h new level.start (take at numbers)) (block_of i ∷ [])
                ∙ ap (λ ms. c.args.plan.now.items ++ ms) (sym (map_more block_of numbers at 0 below)),
            r.1
                ∙ (λ j. before.1 j ++ made_digests (same j) new (i ∷ []))
                ∙ sym (map_more child_of numbers at 0 below),
          );
      numbers =
          ap numbers_of next.added
          ∙ map_push (λ x. x.number) c.loop-index.next.items (record { number = i; digest = next.digest })
          ∙ ap (λ ns. ns ++ i ∷ []) inv.numbers
          ∙ sym more;
      next_sized = subst (AreSized level.digest_size) (sym next.added)
          (each_push (λ x. length x.digest ≡ level.digest_size) nobody c.loop-index.next.items
          (record { number = i; digest = next.digest }) inv.next_sized next.sized);
      places =
          ap places planned.added
          ∙ map_push (λ m. m.at) c.loop-index.plan.items (record { at = level.start + i; block = planned.block })
          ∙ ap (λ ps. ps ++ (level.start + i) ∷ []) inv.places
          ∙ append_assoc (places c.args.plan.now.items) (map (λ n. level.start + n) (take at numbers)) ((level.start + i) ∷ [])
          ∙ ap (λ ps. places c.args.plan.now.items ++ ps) (sym (map_more (λ n. level.start + n) numbers at 0 below));
      planned = λ sized. subst (ArePlanned (length c.args.block.now)) (sym planned.added)
          (each_push (λ m. length m.block ≡ length c.args.block.now) nothing_planned c.loop-index.plan.items
          (record { at = level.start + i; block = planned.block }) (inv.planned sized) (planned.sized ∙ len));
      salted = one.salted ∙ inv.salted;
      hashed = omega arith;
      unfailed = one.fails ∙ inv.unfailed;
      reads = omega arith;
      gives = gives_then (IsOldOf level numbers) _ _ _ inv.gives
          (gives_more (IsOldBlock level i) (IsOldOf level numbers) _ _ (λ n is. (i, Contains-get_or numbers at 0 below, is)) one.gives);
      read_only = only_read_then g.H.BlockStore _ _ _ inv.read_only one.read_only;
    }

all : (ns : List ℕ) (at : ℕ) → length ns ≤ at → take at ns ≡ ns
all ns at le = take_all at ns le

pub returns-clause-made : goal.returns-clause-made
returns-clause-made g c = λ content shown old new count holds renews.
    let h : Hashing = hashing c.args.hasher.now.salted (length c.args.block.now) in
    let whole : take c.loop-index.index-index c.args.numbers.now ≡ c.args.numbers.now =
    all c.args.numbers.now c.loop-index.index-index (omega arith) in
    let made = c.loop-index.invariant.made content shown old new count holds renews in (
      made.0 ∙ ap (λ ts. c.args.plan.now.items ++ made_blocks h new c.args.level.now.start ts) whole,
      made.1
          ∙ ap (λ ts. made_digests h new ts) whole,
    )

pub returns-clause-numbers : goal.returns-clause-numbers
returns-clause-numbers g c = c.loop-index.invariant.numbers ∙ all c.args.numbers.now c.loop-index.index-index (omega arith)

pub returns-clause-places : goal.returns-clause-places
returns-clause-places g c = c.loop-index.invariant.places
    ∙ ap (λ ns. places c.args.plan.now.items ++ map (λ i. c.args.level.now.start + i) ns)
    (all c.args.numbers.now c.loop-index.index-index (omega arith))

pub returns-in_err-make_block-clause-gives : goal.returns-in_err-make_block-clause-gives
returns-in_err-make_block-clause-gives g c =
    let inv = c.loop-index.invariant in
    let level = c.args.level.now in
    let numbers : List ℕ = c.args.numbers.now in
    let at : ℕ = c.loop-index.index-index in
    let below : at < length numbers = omega arith in
    gives_then (IsOldOf level numbers) _ _ _ inv.gives
    (gives_more (IsOldBlock level (get_or numbers at 0)) (IsOldOf level numbers) _ _ (λ n is. (
      get_or numbers at 0,
      Contains-get_or numbers at 0 below,
      is,
    )) c.in_err-make_block.ensures.gives)
