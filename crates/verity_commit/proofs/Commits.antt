-- What a commit of two staged stores makes of the devices that hold what stands below.
use Rattle.std.proofs.Common.{◌≡◌, ℕ, List, ⊎_elim, inl, inr, sym, ap, ◌∙◌, subst}
use Rattle.std.specs.List.{concat}
use Rattle.verity_store.specs.declared.store.BlockStore as store
use Rattle.verity_disks.specs.Disks.{Contents, LeavesOnly}
use Rattle.verity_journal.specs.Journal.{Pair, Suits, IsOldOrNew, made_pair}
use Rattle.verity_stage.specs.Stage.{Stage, bytes_below, plan_of}
use Rattle.verity_commit.specs.Committing.{IsOneOf}

abbrev pub both : List ℕ → List ℕ → Pair
both a b = (a, b)

pair_same : (a b x y : List ℕ) → a ≡ b → x ≡ y → both a x ≡ both b y
pair_same a b x y one two = ap (λ (l : List ℕ). both l x) one ∙ ap (λ (l : List ℕ). both b l) two

pub weaker : {D : Type 0} (moment : D → ℕ) (left_since : D → ℕ → Contents → Type 0) (old new : D) (P Q : Contents → Type 0)
    → ((c : Contents) → P c → Q c) → LeavesOnly moment left_since old new P → LeavesOnly moment left_since old new Q
weaker moment left_since old new P Q f only = record {
  later = only.later;
  each = λ c left. f c (only.each c left);
  before = λ t c early left. ⊎_elim inl (λ p. inr (f c p)) (only.before t c early left);
}

abbrev pub below : {D H : Type 0} → store.Ghosts D → store.Ghosts H → D → H → Pair
below data_facts hash_facts data_store hash_store =
    both (bytes_below (data_facts.fixed data_store)) (bytes_below (hash_facts.fixed hash_store))

abbrev pub held : {D H : Type 0} → store.Ghosts D → store.Ghosts H → D → H → Pair
held data_facts hash_facts data_store hash_store = both (concat (data_facts.content data_store)) (concat (hash_facts.content hash_store))

-- two staged stores before a commit (d, h) and after it (e, i), and as they were looked at then (f, j)
module _ {D H : Type 0} (data_facts : store.Ghosts D) (hash_facts : store.Ghosts H) (on_data : D → Stage) (on_hash : H → Stage)
    (names : List ℕ) (first : Pair) (d e f : D) (h i j : H)
    (holds : first ≡ below data_facts hash_facts d h) (data_fixed : data_facts.fixed e ≡ data_facts.fixed d)
    (hash_fixed : hash_facts.fixed i ≡ hash_facts.fixed h) (data_same : f ≡ e) (hash_same : j ≡ i)
    (made : made_pair (plan_of names (on_data f) (on_hash j)) (below data_facts hash_facts f j) ≡ held data_facts hash_facts f j) where
  here : first ≡ below data_facts hash_facts f j
  here = holds ∙ pair_same (bytes_below (data_facts.fixed d)) (bytes_below (data_facts.fixed f)) (bytes_below (hash_facts.fixed h))
      (bytes_below (hash_facts.fixed j)) (sym (ap (λ s. bytes_below (data_facts.fixed s)) data_same ∙ ap bytes_below data_fixed))
      (sym (ap (λ s. bytes_below (hash_facts.fixed s)) hash_same ∙ ap bytes_below hash_fixed))

  pub makes : made_pair (plan_of names (on_data f) (on_hash j)) first ≡ held data_facts hash_facts e i
  makes = ap (made_pair (plan_of names (on_data f) (on_hash j))) here ∙ made
      ∙ pair_same (concat (data_facts.content f)) (concat (data_facts.content e)) (concat (hash_facts.content j))
      (concat (hash_facts.content i)) (ap (λ s. concat (data_facts.content s)) data_same)
      (ap (λ s. concat (hash_facts.content s)) hash_same)

  pub suits_here : Suits (plan_of names (on_data f) (on_hash j)) (below data_facts hash_facts f j)
      → Suits (plan_of names (on_data f) (on_hash j)) first
  suits_here suits = subst (Suits (plan_of names (on_data f) (on_hash j))) (sym here) suits

  pub one_of : (c : Contents) → IsOldOrNew (plan_of names (on_data f) (on_hash j)) first c
      → IsOneOf names first (held data_facts hash_facts e i) c
  one_of c is_one = record { volume = ⊎_elim inl (λ is. inr (is ∙ makes)) is_one.volume; named = is_one.named }
