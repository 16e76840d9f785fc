-- What a stop leaves of devices that are settled.
use Rattle.std.proofs.Common.{◌≡◌, inl, ℕ, List, [], ◌∷◌, ◌++◌, take, drop, Option, None, Some, sym, ap, ◌∙◌}
use Rattle.std.proofs.lemmas.List.{take-append-drop}
use Rattle.verity_disks.specs.declared.disks.Device.TheVariants.{Data, Hash, Journal}
use Rattle.verity_disks.specs.Disks.{Contents, IsDurable}
use Rattle.verity_journal.specs.Plan.{Plan}
use Rattle.verity_journal.specs.Journal.{head, IsOldOrNew, plan_of, under, pair_of}

none_some : (p : Plan) → ◌≡◌ {A = Option Plan} None (Some p) → ⊥
none_some p e = cc

-- behind a closed gate stands no plan
shut : (journal : List ℕ) → take 13 journal ≡ head ++ 0 ∷ [] → plan_of journal ≡ None
shut journal e =
    let split : journal ≡ (head ++ 0 ∷ []) ++ drop 13 journal =
    sym (take-append-drop 13 journal) ∙ ap (λ (l : List ℕ). l ++ drop 13 journal) e in
    ap plan_of split

-- the volume that is read, and no plan
pub at_rest : (plan : Plan) (seen : Contents) (may_leave : Contents → Type 0) → IsDurable seen may_leave
    → take 13 (seen Journal) ≡ head ++ 0 ∷ [] → (c : Contents) → may_leave c → IsOldOrNew plan (pair_of seen) c
at_rest plan seen may_leave durable closed c left =
    let none : plan_of (c Journal) ≡ None = ap plan_of (durable Journal c left) ∙ shut (seen Journal) closed in
    record {
      volume = inl (ap (λ (o : Option Plan). under o (pair_of c)) none ∙ (λ i. (durable Data c left i, durable Hash c left i)));
      named = λ p e. absurd (none_some p (sym none ∙ e));
    }
