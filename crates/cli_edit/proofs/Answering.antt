-- Answers to the lines of a script, one after the other.
use Rattle.std.proofs.Common.{◌≡◌, ℕ, ◌+◌, Bool, true, false, ◌||◌, List, [], ◌∷◌, ◌++◌, Option}
use Rattle.std.proofs.Common.{refl, sym, ap, subst, ◌∙◌, append-nil}
use Rattle.std.proofs.Common.{arith, Result, Ok, Err, IfOk}
use Rattle.std.proofs.KnownBytes.{Appends-nil, Appends-trans}
use Rattle.std.proofs.lemmas.Grind.{flat_map-append}
use Rattle.std.proofs.lemmas.List.{length-append}
use Rattle.std.proofs.lemmas.List.Folds.{list_any-append}
use Rattle.std.specs.List.{list_any}
use Rattle.std.specs.Io.KnownBytes.{Appends}
use Rattle.cli_volume.specs.declared.lines.Devices.{Devices}
use Rattle.verity_superblock.specs.Superblock.{Volume}
use Rattle.cli_edit.specs.Printed.{Answered, answer_line, is_refusal, status_for, AreAnswers}
use Rattle.cli_edit.specs.Printed.{Done, Committed, BadLine, Refused}
use Rattle.cli_volume.specs.Kept.{LeftLine, AsBefore, Holding, Unknown, IsLeft}
use Rattle.cli_edit.specs.declared.script.Answer.{Answer}
use Rattle.cli_edit.specs.declared.script.Answer.TheVariants as reply
use Rattle.cli_edit.specs.Keeping.{left_after, AreKeptAnswers, IsAnswer, answered_by, left_by}

-- nothing was printed
no_answer : (on : Devices) (out : Option (List ℕ)) → AreAnswers on out out 0 0
no_answer on out = record { answers = []; each = refl; printed = Appends-nil out; status = refl }

or_none : (b : Bool) → (b || false) ≡ b
or_none true = refl
or_none false = refl

-- a line was printed
pub one_answer : (on : Devices) (old new : Option (List ℕ)) (answer : Answered) → Appends old new (answer_line on answer)
    → AreAnswers on old new 1 (status_for (is_refusal answer))
one_answer on old new answer p = record {
  answers = answer ∷ [];
  each = refl;
  printed = let P : List ℕ → Type 0 = λ bytes. Appends old new bytes in subst P (sym (append-nil (answer_line on answer))) p;
  status = ap status_for (sym (or_none (is_refusal answer)));
}

-- one line was printed, and what it leaves of the line that is kept
pub one_kept : {C : Type 0} (holds : C → Volume → List ℕ → Type 0) (a b : C) (on : Devices) (old new : Option (List ℕ)) (answer : Answered)
    (status : ℕ) → IsAnswer on old new answer status → IsLeft holds a b (left_after AsBefore (answer ∷ []))
    → AreKeptAnswers holds a b on old new 1 status
one_kept holds a b on old new answer status is kept = record {
  answered = record {
    answers = answer ∷ [];
    each = refl;
    printed = let P : List ℕ → Type 0 = λ bytes. Appends old new bytes in
        subst P (sym (append-nil (answer_line on answer))) is.printed;
    status = is.status ∙ ap status_for (sym (or_none (is_refusal answer)));
  };
  kept = kept;
}

-- the answer that is printed, where it is this one
pub answered_as : (on : Devices) (old new : Option (List ℕ)) (volume : Volume) (answer is : Answer) (status : ℕ) → answer ≡ is
    → IsAnswer on old new (answered_by volume is) status → IsAnswer on old new (answered_by volume answer) status
answered_as on old new volume answer is status same printed =
    let P : Answer → Type 0 = λ (a : Answer). IsAnswer on old new (answered_by volume a) status in subst P (sym same) printed

-- a line was answered, and what it leaves of the line that is kept
pub answer_kept : {C : Type 0} (holds : C → Volume → List ℕ → Type 0) (a b : C) (on : Devices) (old new : Option (List ℕ)) (volume : Volume)
    (answer : Answer) (status : ℕ) → IsAnswer on old new (answered_by volume answer) status → IsLeft holds a b (left_by volume answer)
    → AreKeptAnswers holds a b on old new 1 status
answer_kept holds a b on old new volume reply.Done status is left = one_kept holds a b on old new Done status is left
answer_kept holds a b on old new volume (reply.Committed committed) status is left =
    one_kept holds a b on old new (Committed volume committed.root) status is left
answer_kept holds a b on old new volume (reply.Refused fault) status is left = one_kept holds a b on old new (Refused fault) status is left

-- nothing was printed, and the line stays
pub none_kept : {C : Type 0} (holds : C → Volume → List ℕ → Type 0) (a : C) (on : Devices) (out : Option (List ℕ))
    → AreKeptAnswers holds a a on out out 0 0
unfolding no_answer
none_kept holds a on out = record { answered = no_answer on out; kept = refl }

-- a line that is none was answered, where it was
pub bad_kept : {C T E : Type 0} (holds : C → Volume → List ℕ → Type 0) (a : C) (on : Devices) (old new : Option (List ℕ)) (count : ℕ)
    (status : T → ℕ) (done : Result T E) → count ≡ 1 → IfOk done (λ told. IsAnswer on old new BadLine (status told))
    → IfOk done (λ told. AreKeptAnswers holds a a on old new count (status told))
bad_kept holds a on old new count status (Ok told) one is =
    let P : ℕ → Type 0 = λ n. AreKeptAnswers holds a a on old new n (status told) in
    subst P (sym one) (one_kept holds a a on old new BadLine (status told) is refl)
bad_kept holds a on old new count status (Err e) one is = tt

-- a line was answered, where it was
pub told_kept : {C T E : Type 0} (holds : C → Volume → List ℕ → Type 0) (a b : C) (on : Devices) (old new : Option (List ℕ))
    (volume : Volume) (answer : Answer) (count : ℕ) (status : T → ℕ) (done : Result T E) → count ≡ 1
    → IsLeft holds a b (left_by volume answer) → IfOk done (λ told. IsAnswer on old new (answered_by volume answer) (status told))
    → IfOk done (λ told. AreKeptAnswers holds a b on old new count (status told))
told_kept holds a b on old new volume answer count status (Ok told) one left is =
    let P : ℕ → Type 0 = λ n. AreKeptAnswers holds a b on old new n (status told) in
    subst P (sym one) (answer_kept holds a b on old new volume answer (status told) is left)
told_kept holds a b on old new volume answer count status (Err e) one left is = tt

-- what is left of the line by the one and then by the other
abbrev over : LeftLine → LeftLine → LeftLine
over left AsBefore = left
over left (Holding volume root) = Holding volume root
over left Unknown = Unknown

over_held : (left : LeftLine) (volume : Volume) (root : List ℕ) (then : LeftLine) → over (Holding volume root) then
    ≡ over left (over (Holding volume root) then)
over_held left volume root AsBefore = refl
over_held left volume root (Holding other hash) = refl
over_held left volume root Unknown = refl

over_unknown : (left then : LeftLine) → over Unknown then ≡ over left (over Unknown then)
over_unknown left AsBefore = refl
over_unknown left (Holding other hash) = refl
over_unknown left Unknown = refl

kept_over : (left : LeftLine) (answers : List Answered) → left_after left answers ≡ over left (left_after AsBefore answers)
kept_over left [] = refl
kept_over left (Done ∷ answers) = kept_over left answers
kept_over left (Committed volume root ∷ answers) = kept_over (Holding volume root) answers
    ∙ over_held left volume root (left_after AsBefore answers) ∙ ap (over left) (sym (kept_over (Holding volume root) answers))
kept_over left (BadLine ∷ answers) = kept_over left answers
kept_over left (Refused fault ∷ answers) = kept_over Unknown answers ∙ over_unknown left (left_after AsBefore answers)
    ∙ ap (over left) (sym (kept_over Unknown answers))

kept_append : (left : LeftLine) (xs ys : List Answered) → left_after left (xs ++ ys) ≡ left_after (left_after left xs) ys
kept_append left [] ys = refl
kept_append left (Done ∷ xs) ys = kept_append left xs ys
kept_append left (Committed volume root ∷ xs) ys = kept_append (Holding volume root) xs ys
kept_append left (BadLine ∷ xs) ys = kept_append left xs ys
kept_append left (Refused fault ∷ xs) ys = kept_append Unknown xs ys

over_kept : {C : Type 0} (holds : C → Volume → List ℕ → Type 0) (a b c : C) (first then : LeftLine) → IsLeft holds a b first
    → IsLeft holds b c then → IsLeft holds a c (over first then)
over_kept holds a b c first AsBefore one same = let P : _ → Type 0 = λ (x : _). IsLeft holds a x first in subst P (sym same) one
over_kept holds a b c first (Holding volume root) one two = two
over_kept holds a b c first Unknown one two = two

-- lines were printed, and then others
joined : {C : Type 0} (holds : C → Volume → List ℕ → Type 0) (i j k : C) (on : Devices) (a b c : Option (List ℕ)) (m n s t u : ℕ)
    (x : AreKeptAnswers holds i j on a b m s) (y : AreKeptAnswers holds j k on b c n t)
    → u ≡ status_for (list_any is_refusal x.answered.answers || list_any is_refusal y.answered.answers)
    → AreKeptAnswers holds i k on a c (m + n) u
joined holds i j k on a b c m n s t u x y e =
    let xs = x.answered.answers in let ys = y.answered.answers in
    record {
      answered = record {
        answers = xs ++ ys;
        each = omega (arith, length-append xs ys, x.answered.each, y.answered.each);
        printed = let P : List ℕ → Type 0 = λ bytes. Appends a c bytes in
            subst P (sym (flat_map-append (answer_line on) xs ys)) (Appends-trans a b c _ _ x.answered.printed y.answered.printed);
        status = e ∙ ap status_for (sym (list_any-append is_refusal xs ys));
      };
      kept = let P : LeftLine → Type 0 = λ left. IsLeft holds i k left in
          subst P (sym (kept_append AsBefore xs ys ∙ kept_over (left_after AsBefore xs) ys))
          (over_kept holds i j k (left_after AsBefore xs) (left_after AsBefore ys) x.kept y.kept);
    }

or_refused : (p q : Bool) → 1 ≡ status_for q → status_for (p || q) ≡ 1
or_refused true q e = refl
or_refused false q e = sym e

or_done : (p q : Bool) → 0 ≡ status_for q → status_for (p || q) ≡ status_for p
or_done true q e = refl
or_done false q e = sym e

-- the last of them was a refusal
then_refused : {C : Type 0} (holds : C → Volume → List ℕ → Type 0) (i j k : C) (on : Devices) (a b c : Option (List ℕ)) (m n s : ℕ)
    → AreKeptAnswers holds i j on a b m s → AreKeptAnswers holds j k on b c n 1 → AreKeptAnswers holds i k on a c (m + n) 1
then_refused holds i j k on a b c m n s x y = joined holds i j k on a b c m n s 1 1 x y
    (sym (or_refused (list_any is_refusal x.answered.answers) (list_any is_refusal y.answered.answers) y.answered.status))

-- none of the last was
then_done : {C : Type 0} (holds : C → Volume → List ℕ → Type 0) (i j k : C) (on : Devices) (a b c : Option (List ℕ)) (m n s : ℕ)
    → AreKeptAnswers holds i j on a b m s → AreKeptAnswers holds j k on b c n 0 → AreKeptAnswers holds i k on a c (m + n) s
then_done holds i j k on a b c m n s x y = joined holds i j k on a b c m n s 0 s x y
    (x.answered.status
    ∙ sym (or_done (list_any is_refusal x.answered.answers) (list_any is_refusal y.answered.answers) y.answered.status))

-- so many lines were answered, and with those that are left these are all
pub record Answering {C : Type 0} (holds : C → Volume → List ℕ → Type 0) (i j : C) (on : Devices) (old new : Option (List ℕ))
    (all left status : ℕ) : Type 0 where
  pub count : ℕ
  pub answered : AreKeptAnswers holds i j on old new count status
  pub rest : count + left ≡ all

-- before the first
pub none_answered : {C : Type 0} (holds : C → Volume → List ℕ → Type 0) (i : C) (on : Devices) (out : Option (List ℕ)) (all : ℕ)
    → Answering holds i i on out out all all 0
none_answered holds i on out all = record { count = 0; answered = none_kept holds i on out; rest = omega arith }

-- so many more were answered, and the last of them was a refusal
pub more_refused : {C : Type 0} (holds : C → Volume → List ℕ → Type 0) (i j k : C) (on : Devices) (a b c : Option (List ℕ))
    (all before after n s : ℕ) → Answering holds i j on a b all before s → before ≡ n + after
    → AreKeptAnswers holds j k on b c n 1 → Answering holds i k on a c all after 1
more_refused holds i j k on a b c all before after n s x e y = record {
  count = x.count + n;
  answered = then_refused holds i j k on a b c x.count n s x.answered y;
  rest = omega (arith, x.rest, e);
}

-- so many more were answered, and none of them was
pub more_done : {C : Type 0} (holds : C → Volume → List ℕ → Type 0) (i j k : C) (on : Devices) (a b c : Option (List ℕ))
    (all before after n s : ℕ) → Answering holds i j on a b all before s → before ≡ n + after
    → AreKeptAnswers holds j k on b c n 0 → Answering holds i k on a c all after s
more_done holds i j k on a b c all before after n s x e y = record {
  count = x.count + n;
  answered = then_done holds i j k on a b c x.count n s x.answered y;
  rest = omega (arith, x.rest, e);
}

-- none is left
pub all_answered : {C : Type 0} (holds : C → Volume → List ℕ → Type 0) (i j : C) (on : Devices) (a b : Option (List ℕ)) (all s : ℕ)
    → Answering holds i j on a b all 0 s → AreKeptAnswers holds i j on a b all s
all_answered holds i j on a b all s x = let P : ℕ → Type 0 = λ n. AreKeptAnswers holds i j on a b n s in
    subst P (omega (arith, x.rest)) x.answered
