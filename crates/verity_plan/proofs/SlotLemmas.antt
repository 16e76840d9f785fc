-- Lemmas on the slots of hash blocks.
use Rattle.std.proofs.Common.{◌≡◌, ℕ, ◌+◌, ◌-◌, ◌*◌, ◌/◌, ◌%◌, ◌<◌, ◌≤◌, List, [], ◌++◌, length, take, drop, get_or, set, ⊎_elim}
use Rattle.std.proofs.Common.{refl, sym, ap, ◌∙◌, subst, arith}
use Rattle.std.proofs.Math.Nat.{mul-le-mul_right, add-mul, div-add-mod'}
use Rattle.std.proofs.lemmas.Bool.{cases_lt, cases_eq}
use Rattle.std.proofs.lemmas.List.{length-append, length-take, drop-drop, get_or-set_same, get_or-set_other, length-set, drop_at}
use Rattle.std.proofs.lemmas.List.{append_assoc}
use Rattle.verity_store.specs.Blocks.{cut}
use Rattle.verity_store.proofs.BlockLemmas.{cut-put}
use Rattle.verity_pending.specs.declared.child.Child.{Child}
use Rattle.verity_pending.specs.Slots.{slots, child_at, FillsSlots}

-- a block that is written at a place
abbrev pub written_over : ℕ → List ℕ → List ℕ → List ℕ
written_over at part bytes = take at bytes ++ (part ++ drop (at + length part) bytes)

pub slots-written_over : (d : ℕ) (part bytes : List ℕ) (slot k : ℕ) → length part ≡ d → slot < k → k * d ≤ length bytes →
    slots d k (written_over (slot * d) part bytes) ≡ set (slots d k bytes) slot part
slots-written_over d part bytes slot k len below fits =
    let P : ℕ → Type 0 = λ size. k * size ≤ length bytes →
    cut size k (take (slot * size) bytes ++ (part ++ drop (slot * size + length part) bytes)) ≡ set (cut size k bytes) slot part in
    subst P len (cut-put part k slot bytes below) fits

pub drop-written_over : (d : ℕ) (part bytes : List ℕ) (slot k : ℕ) → length part ≡ d → slot < k → slot * d + d ≤ length bytes →
    drop (k * d) (written_over (slot * d) part bytes) ≡ drop (k * d) bytes
drop-written_over d part bytes slot k len below fits =
    let wide : (slot + 1) * d ≤ k * d = mul-le-mul_right d (omega arith) in
    let a : ℕ = slot * d in
    let front : length (take a bytes ++ part) ≡ a + d = rw (length-append, length-take) (omega arith) in
    let end : a + length part ≡ a + d = omega arith in
    let at : k * d ≡ a + d + (k * d - (a + d)) = omega (arith, add-mul slot 1 d) in
    ap (λ n. drop n (written_over a part bytes)) at
    ∙ sym (drop-drop (k * d - (a + d)) (a + d) (written_over a part bytes))
    ∙ ap (λ bs. drop (k * d - (a + d)) (drop (a + d) bs)) (sym (append_assoc (take a bytes) part (drop (a + length part) bytes)))
    ∙ ap (λ bs. drop (k * d - (a + d)) bs) (drop_at (take a bytes ++ part) (drop (a + length part) bytes) (a + d) front)
    ∙ ap (λ n. drop (k * d - (a + d)) (drop n bytes)) end
    ∙ drop-drop (k * d - (a + d)) (a + d) bytes
    ∙ ap (λ n. drop n bytes) (sym at)

-- two numbers of one block with one slot are one
same_number : (m n k p : ℕ) → m / k ≡ p → n / k ≡ p → m % k ≡ n % k → m ≡ n
same_number m n k p a b c =
    let f = div-add-mod' m k in
    let g = div-add-mod' n k in
    sym f ∙ (λ i. a i * k + c i) ∙ sym (ap (λ q. q * k + n % k) b) ∙ g

pub FillsSlots-none : (k : ℕ) (children : List Child) (a : ℕ) (ss : List (List ℕ)) → FillsSlots k children a a ss ss
FillsSlots-none k children a ss = record {
  len = refl;
  set = λ named are c low high p at each. absurd (omega arith);
  kept = λ r free. refl;
}

pub FillsSlots-more : (k : ℕ) (children : List Child) (a b : ℕ) (old now new : List (List ℕ)) → a ≤ b → b < length children →
    FillsSlots k children a b old now
    → (child_at children b).number % k < length old → new ≡ set now ((child_at children b).number % k) (child_at children b).digest
    → FillsSlots k children a (b + 1) old new
FillsSlots-more k children a b old now new le inside before fits is =
    let last : Child = child_at children b in
    let s : ℕ = last.number % k in
    let there : s < length now = (let l = before.len in omega arith) in
    record {
      len = ap length is ∙ length-set now s last.digest ∙ before.len;
      set = λ named are c low high p at each.
          let here : get_or new s [] ≡ named last.number = ap (λ ss. get_or ss s []) is ∙ get_or-set_same now s last.digest [] there
          ∙ are.each b inside in
          let m : ℕ = (child_at children c).number in
          ⊎_elim
          (λ same. let number : m ≡ last.number = same_number m last.number k p at (each b le (omega arith)) same in
          (λ i. get_or new (same i) []) ∙ here ∙ ap named (sym number))
          (λ apart.
          let earlier : c < b = ⊎_elim (λ l. l) (λ g. let e : c ≡ b = omega arith in
          absurd (apart (ap (λ x. (child_at children x).number % k) e))) (cases_lt c b) in
          ap (λ ss. get_or ss (m % k) []) is ∙ get_or-set_other now s (m % k) last.digest [] apart
          ∙ before.set named are c low earlier p at (λ d l h. each d l (omega arith)))
          (cases_eq (m % k) s);
      kept = λ r free.
          let apart : r ≡ s → ⊥ = λ e. free b le (omega arith) (sym e) in
          ap (λ ss. get_or ss r []) is ∙ get_or-set_other now s r last.digest [] apart ∙ before.kept r (λ c l h. free c l (omega arith));
    }
