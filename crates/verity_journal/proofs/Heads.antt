-- How a journal is known by its head.
use Rattle.std.proofs.Common.{◌≡◌, ◌≢◌, inl, inr, refl, ℕ, ◌≤◌, List, [], ◌∷◌, ◌++◌, length, take, drop, Bool, eqb}
use Rattle.std.proofs.Common.{true, false, Option, None, Some, if◌then◌else◌, sym, ap, ◌∙◌, arith, ◌==◌, get_or}
use Rattle.std.proofs.lemmas.Bool.Decides.{Decides-eqb}
use Rattle.std.proofs.lemmas.List.{append-nil, drop_more, length-append, take-append-drop}
use Rattle.std.proofs.lemmas.Slice.Eq.{starts_is}
use Rattle.std.specs.Cmp.Lexicographic.{pointwise}
use Rattle.std.specs.Prelude.{IsTrue}
use Rattle.verity_journal.specs.declared.head.Gate.TheVariants as gate
use Rattle.verity_journal.specs.Plan.{Plan}
use Rattle.verity_journal.specs.Journal.{and_then, behind, gated_plan, head, plan_of, IsBegun, IsClosed, IsOpened, IsJournal, Says}
use Rattle.verity_journal.proofs.Parses.{two_some, was_given, was_some}

-- what is found behind a beginning stands there
pub behind_was : (beginning bytes rest : List ℕ) → behind beginning bytes ≡ Some rest → bytes ≡ beginning ++ rest
behind_was [] bytes rest e = two_some bytes rest e
behind_was (b ∷ beginning) [] rest e = cc
behind_was (b ∷ beginning) (byte ∷ bytes) rest e =
    let same = was_given (byte == b) (behind beginning bytes) rest e in
    let first : byte ≡ b = (Decides-eqb byte b).0 same.0 in
    let later = behind_was beginning bytes rest same.1 in
    λ i. first i ∷ later i

-- where bytes don't begin so, nothing is found
pub not_behind : (bytes : List ℕ) → ((rest : List ℕ) → bytes ≢ head ++ rest) → behind head bytes ≡ None
not_behind bytes none = go (behind head bytes) refl
  where
    go : (o : Option (List ℕ)) → behind head bytes ≡ o → behind head bytes ≡ None
    go None e = e
    go (Some rest) e = absurd (none rest (behind_was head bytes rest e))

-- a plan stands behind a head and a gate
pub opened_behind : (journal : List ℕ) (plan : Plan) → plan_of journal ≡ Some plan →
    (gate : ℕ) × (rest : List ℕ) × (journal ≡ head ++ gate ∷ rest)
opened_behind journal plan e =
    let there = was_some (behind head journal) gated_plan plan e in
    go there.0 there.2 (behind_was head journal there.0 there.1)
  where
    go : (gated : List ℕ) → gated_plan gated ≡ Some plan → journal ≡ head ++ gated →
        (gate : ℕ) × (rest : List ℕ) × (journal ≡ head ++ gate ∷ rest)
    go [] none is = cc
    go (gate ∷ rest) some is = (gate, rest, is)

-- behind so few bytes stands no plan
pub few_none : (journal : List ℕ) → length journal ≤ 13 → plan_of journal ≡ None
few_none journal few = go (behind head journal) refl
  where
    either : (b : Bool) → ◌≡◌ {A = Option Plan} (if b then None else None) None
    either true = refl
    either false = refl

    short : (gated : List ℕ) → length gated ≤ 1 → gated_plan gated ≡ None
    short [] long = refl
    short (gate ∷ []) long = either (gate == 0)
    short (gate ∷ byte ∷ rest) long = absurd (omega (arith, long))

    go : (o : Option (List ℕ)) → behind head journal ≡ o → plan_of journal ≡ None
    go None e = ap (λ (t : Option (List ℕ)). and_then t gated_plan) e
    go (Some gated) e =
        ap (λ (t : Option (List ℕ)). and_then t gated_plan) e
        ∙ short gated (omega (arith, few, ap length (behind_was head journal gated e), length-append head gated))

-- a closed gate, by its first bytes
pub split_closed : (bytes : List ℕ) → take 13 bytes ≡ head ++ 0 ∷ [] → IsClosed bytes
split_closed bytes first = (drop 13 bytes, sym (take-append-drop 13 bytes) ∙ ap (λ (l : List ℕ). l ++ drop 13 bytes) first)

-- a gate behind a head, and what stands behind it
pub split_gated : (bytes : List ℕ) → 13 ≤ length bytes → take 12 bytes ≡ head → (gate : ℕ) × (bytes ≡ head ++ gate ∷ drop 13 bytes)
split_gated bytes long first =
    (get_or bytes 12 0, sym (take-append-drop 12 bytes) ∙ (λ i. first i ++ drop_more bytes 12 0 (omega (arith, long)) i))

-- what stands behind a head that is found
pub says_closed : (bytes gated : List ℕ) → bytes ≡ head ++ gated → 1 ≤ length gated → get_or gated 0 0 ≡ 0 → IsClosed bytes
says_closed bytes [] is long shut = absurd (omega (arith, long))
says_closed bytes (gate ∷ rest) is long shut = (rest, is ∙ ap (λ (n : ℕ). head ++ n ∷ rest) shut)

pub says_opened : (bytes gated : List ℕ) → bytes ≡ head ++ gated → 1 ≤ length gated → get_or gated 0 0 ≢ 0 → IsOpened bytes
says_opened bytes [] is long opened = absurd (omega (arith, long))
says_opened bytes (gate ∷ rest) is long opened = (gate, rest, is, opened)

pub says_begun : (bytes gated : List ℕ) → bytes ≡ head ++ gated → length gated ≡ 0 → IsBegun bytes
says_begun bytes [] is none = ([], sym (append-nil bytes ∙ is))
says_begun bytes (gate ∷ rest) is none = absurd (omega (arith, none))

-- a beginning of the head, by what `starts_with` says
pub begun_is : (bytes : List ℕ) (r : Bool) → r ≡ pointwise eqb bytes (take (length bytes) head) → (IsTrue r → IsBegun bytes) ×
    (IsBegun bytes → IsTrue r)
begun_is bytes r e =
    let both = starts_is Decides-eqb head bytes r e in
    (λ yes. (drop (length bytes) head, both.0 yes), λ begun. both.1 begun.0 begun.1)

-- where bytes don't begin with a head, it is a beginning or no journal
pub says_foreign : (bytes : List ℕ) → behind head bytes ≡ None → ¬ IsBegun bytes → Says bytes gate.Foreign
says_foreign bytes none begun = (
  begun,
  λ closed. cc_of (sym none ∙ ap (behind head) closed.1),
  λ opened. cc_of (sym none ∙ ap (behind head) opened.2),
)
  where
    cc_of : {rest : List ℕ} → ◌≡◌ {A = Option (List ℕ)} None (Some rest) → ⊥
    cc_of e = cc

no_plan : (bytes : List ℕ) (plan : Plan) → plan_of bytes ≡ None → plan_of bytes ≡ Some plan → ⊥
no_plan bytes plan none some = absurd (clash (sym none ∙ some))
  where
    clash : ◌≡◌ {A = Option Plan} None (Some plan) → ⊥
    clash e = cc

-- no journal, by what its first bytes say
pub foreign_none : (bytes : List ℕ) → plan_of bytes ≡ None → Says bytes gate.Foreign → ¬ IsJournal bytes
foreign_none bytes none says (inl begun) = says.0 begun
foreign_none bytes none says (inr (inl closed)) = says.1 closed
foreign_none bytes none says (inr (inr (plan, e))) = no_plan bytes plan none e

-- an open gate without its plan
pub unplanned_none : (bytes : List ℕ) → plan_of bytes ≡ None → IsOpened bytes → ¬ IsJournal bytes
unplanned_none bytes none (gate, rest, is, opened) (inl (more, begun)) =
    omega (arith, ap length begun, length-append bytes more, ap length is, length-append head (gate ∷ rest))
unplanned_none bytes none (gate, rest, is, opened) (inr (inl (closed, e))) =
    opened (sym (ap (λ (l : List ℕ). get_or l 12 0) is) ∙ ap (λ (l : List ℕ). get_or l 12 0) e)
unplanned_none bytes none opened (inr (inr (plan, e))) = no_plan bytes plan none e
