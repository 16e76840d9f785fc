-- How changes are read one after the other.
use Rattle.std.proofs.Common.{◌≡◌, refl, ℕ, zero, suc, ◌+◌, ◌≤◌, List, [], ◌∷◌, ◌++◌, length, take, length-take, Bool, true, false}
use Rattle.std.proofs.Common.{if◌then◌else◌, Option, None, Some, sym, ap, subst, ◌∙◌, arith}
use Rattle.std.proofs.lemmas.Bool.{le-leb, leb-true}
use Rattle.std.proofs.lemmas.List.{append_assoc, append-nil}
use Rattle.std.specs.Prelude.{nat_le}
use Rattle.verity_journal.specs.Plan.{Side, Plan, IsSide, Fit}
use Rattle.verity_journal.specs.Journal.{and_then, read_number, read_bytes, read_change, read_changes, read_side, read_plan}

abbrev Changes : Type 0
Changes = List (ℕ × List ℕ)

abbrev Read : Type 0
Read = Option (Changes × List ℕ)

-- what is read of all, where so many are read and so many are left
abbrev pub behind : Changes → Read → Read
behind done left = and_then left (λ r. Some (done ++ r.0, r.1))

more : (done : Changes) (change : ℕ × List ℕ) (left : Read) →
    behind done (and_then left (λ rest. Some (change ∷ rest.0, rest.1))) ≡ behind (done ++ change ∷ []) left
more done change None = refl
more done change (Some r) = ap (λ (l : Changes). Some (l, r.1)) (sym (append_assoc done (change ∷ []) r.0))

some : {A B : Type 0} (o : Option A) (a : A) (f : A → Option B) → o ≡ Some a → and_then o f ≡ f a
some o a f e = ap (λ (t : Option _). and_then t f) e

given : {A : Type 0} (b : Bool) (x y : A) → b ≡ true → (if b then x else y) ≡ x
given b x y e = ap (λ (t : Bool). if t then x else y) e

none : {A B : Type 0} (o : Option A) (f : A → Option B) → o ≡ None → and_then o f ≡ None
none o f e = ap (λ (t : Option _). and_then t f) e

pub parse_more : (whole : Read) (len left next : ℕ) (done all : Changes) (old new : List ℕ) (change : ℕ × List ℕ) →
    left ≡ suc next → whole ≡ behind done (read_changes len left old)
    → read_change len old ≡ Some (change, new) → all ≡ done ++ change ∷ [] → whole ≡ behind all (read_changes len next new)
parse_more whole len left next done all old new change is so_far reads added =
    so_far ∙ ap (λ (n : ℕ). behind done (read_changes len n old)) is
    ∙ ap (behind done) (some (read_change len old) (change, new) _ reads)
    ∙ more done change (read_changes len next new)
    ∙ ap (λ (l : Changes). behind l (read_changes len next new)) (sym added)

pub parse_none : (whole : Read) (len left next : ℕ) (done : Changes) (old : List ℕ) → left ≡ suc next →
    whole ≡ behind done (read_changes len left old) → read_change len old ≡ None → whole ≡ None
parse_none whole len left next done old is so_far reads =
    so_far ∙ ap (λ (n : ℕ). behind done (read_changes len n old)) is ∙ ap (behind done) (none (read_change len old) _ reads)

pub parse_end : (whole : Read) (len left : ℕ) (done : Changes) (old : List ℕ) → left ≡ 0 →
    whole ≡ behind done (read_changes len left old) → whole ≡ Some (done, old)
parse_end whole len left done old is so_far =
    so_far ∙ ap (λ (n : ℕ). behind done (read_changes len n old)) is ∙ ap (λ (l : Changes). Some (l, old)) (append-nil done)

pub parse_start : (len count : ℕ) (old : List ℕ) → read_changes len count old ≡ behind [] (read_changes len count old)
parse_start len count old = go (read_changes len count old)
  where
    go : (r : Read) → r ≡ behind [] r
    go None = refl
    go (Some r) = refl

pub side_reads : (side : Side) (keep len count : ℕ) (changes : Changes) (a b c d e : List ℕ) →
    side ≡ record { keep = keep; len = len; changes = changes } → read_number a ≡ Some (keep, b) → read_number b ≡ Some (len, c)
    → read_number c ≡ Some (count, d) → keep ≤ len → read_changes len count d ≡ Some (changes, e) → read_side a ≡ Some (side, e)
side_reads side keep len count changes a b c d e is first second third below reads =
    some (read_number a) (keep, b) _ first ∙ some (read_number b) (len, c) _ second ∙ some (read_number c) (count, d) _ third
    ∙ given (nat_le keep len) _ None (le-leb keep len below) ∙ some (read_changes len count d) (changes, e) _ reads
    ∙ ap (λ (s : Side). Some (s, e)) (sym is)

-- what is read of an option that is there
pub was_some : {A B : Type 0} (o : Option A) (f : A → Option B) (y : B) → and_then o f ≡ Some y → (x : A) × (o ≡ Some x) × (f x ≡ Some y)
was_some None f y e = cc
was_some (Some x) f y e = (x, refl, e)

pub was_given : {B : Type 0} (b : Bool) (o : Option B) (y : B) → (if b then o else None) ≡ Some y → (b ≡ true) × (o ≡ Some y)
was_given true o y e = (refl, e)
was_given false o y e = cc

pub two_some : {A : Type 0} (x y : A) → Some x ≡ Some y → x ≡ y
two_some x y e = cc

change_fits : (len : ℕ) (bytes : List ℕ) (change : ℕ × List ℕ) (rest : List ℕ) → read_change len bytes ≡ Some (change, rest) →
    change.0 + length change.1 ≤ len
change_fits len bytes change rest e =
    let at = was_some (read_number bytes) _ _ e in
    let size = was_some (read_number at.0.1) _ _ at.2 in
    let new = was_some (read_bytes size.0.0 size.0.1) _ _ size.2 in
    let bound = was_given (nat_le (at.0.0 + size.0.0) len) _ _ new.2 in
    let taken = was_given (nat_le size.0.0 (length size.0.1)) _ _ new.1 in
    let is = two_some _ _ bound.1 in
    let got = two_some _ _ taken.1 in
    let long : length (take size.0.0 size.0.1) ≡ size.0.0 = simp length-take (omega (arith, leb-true size.0.0 (length size.0.1) taken.0)) in
    let at_is : at.0.0 ≡ change.0 = ap (λ (p : (ℕ × List ℕ) × List ℕ). p.0.0) is in
    let new_is : length new.0.0 ≡ length change.1 = ap (λ (p : (ℕ × List ℕ) × List ℕ). length p.0.1) is in
    let got_is : length (take size.0.0 size.0.1) ≡ length new.0.0 = ap (λ (p : List ℕ × List ℕ). length p.0) got in
    omega (arith, leb-true (at.0.0 + size.0.0) len bound.0, at_is, new_is, got_is, long)

changes_fit : (len count : ℕ) (bytes : List ℕ) (changes : Changes) (rest : List ℕ) →
    read_changes len count bytes ≡ Some (changes, rest) → Fit len changes
changes_fit len zero bytes changes rest e = subst (λ (l : Changes). Fit len l) (ap (λ (p : Changes × List ℕ). p.0) (two_some _ _ e)) tt
changes_fit len (suc count) bytes changes rest e =
    let first = was_some (read_change len bytes) _ _ e in
    let left = was_some (read_changes len count first.0.1) _ _ first.2 in
    let is = ap (λ (p : Changes × List ℕ). p.0) (two_some _ _ left.2) in
    subst (λ (l : Changes). Fit len l) is (
      change_fits len bytes first.0.0 first.0.1 first.1,
      changes_fit len count first.0.1 left.0.0 left.0.1 left.1,
    )

side_fits : (bytes : List ℕ) (side : Side) (rest : List ℕ) → read_side bytes ≡ Some (side, rest) → IsSide side
side_fits bytes side rest e =
    let keep = was_some (read_number bytes) _ _ e in
    let len = was_some (read_number keep.0.1) _ _ keep.2 in
    let count = was_some (read_number len.0.1) _ _ len.2 in
    let bound = was_given (nat_le keep.0.0 len.0.0) _ _ count.2 in
    let changes = was_some (read_changes len.0.0 count.0.0 count.0.1) _ _ bound.1 in
    let is = ap (λ (p : Side × List ℕ). p.0) (two_some _ _ changes.2) in
    subst IsSide is (record {
      kept = leb-true keep.0.0 len.0.0 bound.0;
      fit = changes_fit len.0.0 count.0.0 count.0.1 changes.0.0
          changes.0.1 changes.1;
    })

-- a plan that was read fits
pub plan_fits : (bytes : List ℕ) (plan : Plan) → read_plan bytes ≡ Some plan → IsSide plan.on_data × IsSide plan.on_hash
plan_fits bytes plan e =
    let size = was_some (read_number bytes) _ _ e in
    let names = was_some (read_bytes size.0.0 size.0.1) _ _ size.2 in
    let on_data = was_some (read_side names.0.1) _ _ names.2 in
    let on_hash = was_some (read_side on_data.0.1) _ _ on_data.2 in
    let is = two_some _ _ on_hash.2 in (
      subst IsSide (ap (λ (p : Plan). p.on_data) is) (side_fits names.0.1 on_data.0.0 on_data.0.1 on_data.1),
      subst IsSide (ap (λ (p : Plan). p.on_hash) is) (side_fits on_data.0.1 on_hash.0.0 on_hash.0.1 on_hash.1),
    )
