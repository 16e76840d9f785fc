-- What is read of a spelled plan is that plan.
use Rattle.std.proofs.Common.{◌≡◌, refl, ℕ, suc, ◌+◌, ◌<◌, ◌≤◌, ◌^◌, List, [], ◌∷◌, ◌++◌, length, take, drop, Bool, true, Option}
use Rattle.std.proofs.Common.{None, Some, if◌then◌else◌, length-append, ap, ◌∙◌, arith}
use Rattle.std.proofs.lemmas.Bool.{le-leb}
use Rattle.std.proofs.lemmas.List.{append_assoc, take_at, drop_at}
use Rattle.std.proofs.lemmas.Nat.{from_le_bytes-to_le_bytes_8}
use Rattle.std.specs.Int.{w64, from_le_bytes}
use Rattle.std.specs.Prelude.{nat_le}
use Rattle.verity_journal.specs.Plan.{Side, Plan, Fit, IsSide, IsSmall}
use Rattle.verity_journal.specs.Journal.{number, spelled_change, spelled_changes, spelled_side, spelled, read_number, read_bytes}
use Rattle.verity_journal.specs.Journal.{and_then, read_change, read_changes, read_side, read_plan}

length-number : (n : ℕ) → length (number n) ≡ 8
unfolding number
length-number n = refl

number_read : (n : ℕ) → n < 2 ^ 64 → from_le_bytes w64 (number n) ≡ n
unfolding number
number_read n h = from_le_bytes-to_le_bytes_8 n h

given : {A : Type 0} (b : Bool) (x y : A) → b ≡ true → (if b then x else y) ≡ x
given b x y e = ap (λ (t : Bool). if t then x else y) e

some : {A B : Type 0} (o : Option A) (a : A) (f : A → Option B) → o ≡ Some a → and_then o f ≡ f a
some o a f e = ap (λ (t : Option _). and_then t f) e

read_number-number : (n : ℕ) (rest : List ℕ) → n < 2 ^ 64 → read_number (number n ++ rest) ≡ Some (n, rest)
read_number-number n rest h =
    let bytes = number n ++ rest in
    let front : from_le_bytes w64 (take 8 bytes) ≡ n =
    ap (λ (l : List ℕ). from_le_bytes w64 l) (take_at (number n) rest 8 (length-number n)) ∙ number_read n h in
    let back : drop 8 bytes ≡ rest = drop_at (number n) rest 8 (length-number n) in
    given (nat_le 8 (length bytes)) _ None (le-leb 8 (length bytes) (omega (arith, length-append (number n) rest, length-number n)))
    ∙ (λ i. Some (front i, back i))

read_bytes-bytes : (new rest : List ℕ) → read_bytes (length new) (new ++ rest) ≡ Some (new, rest)
read_bytes-bytes new rest =
    let bytes = new ++ rest in
    let front : take (length new) bytes ≡ new = take_at new rest (length new) refl in
    let back : drop (length new) bytes ≡ rest = drop_at new rest (length new) refl in
    given (nat_le (length new) (length bytes)) _ None (le-leb (length new) (length bytes) (omega (arith, length-append new rest)))
    ∙ (λ i. Some (front i, back i))

change_split : (change : ℕ × List ℕ) (rest : List ℕ) →
    spelled_change change ++ rest ≡ number change.0 ++ (number (length change.1) ++ (change.1 ++ rest))
change_split change rest = append_assoc (number change.0) _ rest
    ∙ ap (λ (l : List ℕ). number change.0 ++ l) (append_assoc (number (length change.1)) change.1 rest)

read_change-spelled : (len : ℕ) → len < 2 ^ 64 → (change : ℕ × List ℕ) (rest : List ℕ) → change.0 + length change.1 ≤ len →
    read_change len (spelled_change change ++ rest) ≡ Some (change, rest)
read_change-spelled len small change rest fit =
    ap (λ (l : List ℕ). read_change len l) (change_split change rest)
    ∙ some _ (change.0, number (length change.1) ++ (change.1 ++ rest)) _ (read_number-number change.0 _ (omega (arith, fit)))
    ∙ some _ (length change.1, change.1 ++ rest) _ (read_number-number (length change.1) _ (omega (arith, fit)))
    ∙ some _ (change.1, rest) _ (read_bytes-bytes change.1 rest)
    ∙ given (nat_le (change.0 + length change.1) len) _ None (le-leb _ len fit)

read_changes-spelled : (len : ℕ) → len < 2 ^ 64 → (changes : List (ℕ × List ℕ)) (rest : List ℕ) → Fit len changes →
    read_changes len (length changes) (spelled_changes changes ++ rest) ≡ Some (changes, rest)
read_changes-spelled len small [] rest fit = refl
read_changes-spelled len small (change ∷ changes) rest fit =
    let behind = spelled_changes changes ++ rest in
    ap (λ (l : List ℕ). read_changes len (suc (length changes)) l) (append_assoc (spelled_change change) (spelled_changes changes) rest)
    ∙ some _ (change, behind) _ (read_change-spelled len small change behind fit.0)
    ∙ some _ (changes, rest) _ (read_changes-spelled len small changes rest fit.1)

side_split : (side : Side) (rest : List ℕ) →
    spelled_side side ++ rest ≡ number side.keep ++
    (number side.len ++ (number (length side.changes) ++ (spelled_changes side.changes ++ rest)))
side_split side rest =
    append_assoc (number side.keep) _ rest
    ∙ ap (λ (l : List ℕ). number side.keep ++ l) (append_assoc (number side.len) _ rest
    ∙ ap (λ (l : List ℕ). number side.len ++ l) (append_assoc (number (length side.changes)) (spelled_changes side.changes) rest))

read_side-spelled : (side : Side) → IsSide side → IsSmall side → (rest : List ℕ) → read_side (spelled_side side ++ rest) ≡ Some (side, rest)
read_side-spelled side is small rest =
    ap read_side (side_split side rest)
    ∙ some _ (side.keep, number side.len ++ (number (length side.changes) ++ (spelled_changes side.changes ++ rest))) _
    (read_number-number side.keep _ (omega (arith, is.kept, small.len)))
    ∙ some _ (side.len, number (length side.changes) ++ (spelled_changes side.changes ++ rest)) _
    (read_number-number side.len _ (omega (arith, small.len)))
    ∙ some _ (length side.changes, spelled_changes side.changes ++ rest) _
    (read_number-number (length side.changes) _ (omega (arith, small.count)))
    ∙ given (nat_le side.keep side.len) _ None (le-leb side.keep side.len is.kept)
    ∙ some _ (side.changes, rest) _ (read_changes-spelled side.len small.len side.changes rest is.fit)

plan_split : (plan : Plan) (rest : List ℕ) →
    spelled plan ++ rest ≡ number (length plan.names) ++
    (plan.names ++ (spelled_side plan.on_data ++ (spelled_side plan.on_hash ++ rest)))
plan_split plan rest =
    append_assoc (number (length plan.names)) _ rest
    ∙ ap (λ (l : List ℕ). number (length plan.names) ++ l) (append_assoc plan.names _ rest
    ∙ ap (λ (l : List ℕ). plan.names ++ l) (append_assoc (spelled_side plan.on_data) (spelled_side plan.on_hash) rest))

-- a plan is read as it was spelled, whatever stands behind it
pub read_plan-spelled : (plan : Plan) → IsSide plan.on_data → IsSide plan.on_hash → IsSmall plan.on_data → IsSmall plan.on_hash →
    length plan.names < 2 ^ 64 → (rest : List ℕ) → read_plan (spelled plan ++ rest) ≡ Some plan
read_plan-spelled plan is_data is_hash small_data small_hash small_names rest =
    let behind = spelled_side plan.on_data ++ (spelled_side plan.on_hash ++ rest) in
    ap read_plan (plan_split plan rest)
    ∙ some _ (length plan.names, plan.names ++ behind) _ (read_number-number (length plan.names) _ small_names)
    ∙ some _ (plan.names, behind) _ (read_bytes-bytes plan.names behind)
    ∙ some _ (plan.on_data, spelled_side plan.on_hash ++ rest) _ (read_side-spelled plan.on_data is_data small_data _)
    ∙ some _ (plan.on_hash, rest) _ (read_side-spelled plan.on_hash is_hash small_hash rest)

pub four : (o a b c d x y z w : List ℕ) → x ≡ o ++ a → y ≡ x ++ b → z ≡ y ++ c → w ≡ z ++ d → w ≡ o ++ (a ++ (b ++ (c ++ d)))
four o a b c d x y z w first second third fourth =
    fourth ∙ ap (λ (l : List ℕ). l ++ d) (third ∙ ap (λ (l : List ℕ). l ++ c) (second ∙ ap (λ (l : List ℕ). l ++ b) first))
    ∙ append_assoc ((o ++ a) ++ b) c d ∙ append_assoc (o ++ a) b (c ++ d) ∙ append_assoc o a (b ++ (c ++ d))

pub side_is : (side : Side) (o x y z w : List ℕ) (keep len count : ℕ) (changes : List (ℕ × List ℕ)) → keep ≡ side.keep →
    len ≡ side.len → count ≡ length side.changes → changes ≡ side.changes
    → x ≡ o ++ number keep → y ≡ x ++ number len → z ≡ y ++ number count → w ≡ z ++ spelled_changes changes → w ≡ o ++ spelled_side side
side_is side o x y z w keep len count changes k l n c first second third fourth =
    four o (number side.keep) (number side.len) (number (length side.changes)) (spelled_changes side.changes) x y z w
    (first ∙ ap (λ (j : ℕ). o ++ number j) k) (second ∙ ap (λ (j : ℕ). x ++ number j) l) (third ∙ ap (λ (j : ℕ). y ++ number j) n)
    (fourth ∙ ap (λ (s : List (ℕ × List ℕ)). z ++ spelled_changes s) c)
