-- Lemmas on the writes of a plan.
use Rattle.std.proofs.Common.{◌≡◌, ℕ, ◌+◌, ◌<◌, List, [], length, get_or, set, ⊎_elim, sym, ap, ◌∙◌, arith}
use Rattle.std.proofs.lemmas.Bool.{cases_lt, cases_eq}
use Rattle.std.proofs.lemmas.List.{get_or-set_same, get_or-set_other}
use Rattle.verity_store.specs.Blocks.{ChangesAt}
use Rattle.verity_pending.specs.Plan.{Planned, planned_at}
use Rattle.verity_pending.specs.Written.{AreWritten, OnlyPlanned}

pub AreWritten-more : (n : ℕ) (plan : List Planned) (now new : List (List ℕ)) → n < length plan →
    (planned_at plan n).at < length now → AreWritten n plan now
    → new ≡ set now (planned_at plan n).at (planned_at plan n).block → AreWritten (n + 1) plan new
AreWritten-more n plan now new below inside written is = λ want each c less.
    let q : ℕ = (planned_at plan n).at in
    let block : List ℕ = (planned_at plan n).block in
    let p : ℕ = (planned_at plan c).at in
    ap (λ blocks. get_or blocks p []) is
    ∙ ⊎_elim
    (λ same. ap (λ a. get_or (set now q block) a []) same ∙ get_or-set_same now q block [] inside ∙ each n below ∙ ap want (sym same))
    (λ apart.
    let earlier : c < n = ⊎_elim (λ l. l) (λ g. let e : c ≡ n = omega arith in absurd (apart (ap (λ x. (planned_at plan x).at) e)))
    (cases_lt c n) in
    get_or-set_other now q p block [] apart ∙ written want each c earlier)
    (cases_eq p q)

pub OnlyPlanned-more : (n : ℕ) (plan : List Planned) (old now new : List (List ℕ)) → OnlyPlanned n plan old now →
    ChangesAt (planned_at plan n).at now new → OnlyPlanned (n + 1) plan old new
OnlyPlanned-more n plan old now new others one = λ q free.
    one.1 q (λ e. free n (omega arith) (sym e)) ∙ others q (λ c below. free c (omega arith))
