-- Fields of a head, one more at a time.
use Rattle.std.proofs.Common.{refl, ◌≡◌, ℕ, ◌+◌, ◌<◌, List, length, arith, subst}
use Rattle.std.proofs.Common.{sym, ap, ◌∙◌, below_more, get_or, slice_get, Some, inl, inr}
use Rattle.std.proofs.lemmas.Option.{slice_get-get_or, get_or_from_slice_get, slice_get_within}
use Rattle.httparse.specs.declared.spans.HeaderSpan.{HeaderSpan}
use Rattle.httparse.specs.Spans.{span_bytes}
use Rattle.remote_http.specs.declared.fields.Found.{Found}
use Rattle.remote_http.specs.declared.fields.Found.TheVariants.{Never, Once, Often}
use Rattle.remote_http.specs.Fields.{HasField, HasValue, HasNone, HasPlainBody, IsSameName}
use Rattle.std.specs.Prelude.{codes}
use Rattle.remote_http.specs.Found.{IsFoundBelow, IsFound}

-- one more field, which hasn't this name
pub found_same : (buf : List ℕ) (fields : List HeaderSpan) (name : List ℕ) (n : ℕ) (found : Found)
    → IsFoundBelow buf fields name n found → ¬ (HasField buf fields name n) → IsFoundBelow buf fields name (n + 1) found
found_same buf fields name n Never before other = below_more _ _ before other
found_same buf fields name n (Once k) before other =
    (omega arith, before.1, below_more (λ j. HasField buf fields name j → j ≡ k) n before.2 (λ has. absurd (other has)))
found_same buf fields name n Often before other = before

-- one more, which is the first of this name
pub found_first : (buf : List ℕ) (fields : List HeaderSpan) (name : List ℕ) (n : ℕ)
    → IsFoundBelow buf fields name n Never → HasField buf fields name n → IsFoundBelow buf fields name (n + 1) (Once n)
found_first buf fields name n before here =
    let same : n ≡ n = omega arith in
    (omega arith, here, below_more (λ j. HasField buf fields name j → j ≡ n) n (λ j below has. absurd (before j below has)) (λ has. same))

-- one more, behind another of this name
pub found_often : (buf : List ℕ) (fields : List HeaderSpan) (name : List ℕ) (n : ℕ) (found : Found) → ¬ (found ≡ Never)
    → IsFoundBelow buf fields name n found → HasField buf fields name n → IsFound buf fields name Often
found_often buf fields name n Never some before here = absurd (some refl)
found_often buf fields name n (Once k) some before here = (k, n, before.0, before.1, here)
found_often buf fields name n Often some before here = before

-- the field that was looked at has this name,
pub has_name : (buf : List ℕ) (fields : List HeaderSpan) (name text : List ℕ) (k : ℕ) (d : HeaderSpan) → k < length fields
    → text ≡ span_bytes buf (get_or fields k d).name → IsSameName text name → HasField buf fields name k
has_name buf fields name text k d within is same =
    (get_or fields k d, slice_get-get_or fields k d within, subst (λ t. IsSameName t name) is same)

-- or another
pub has_other : (buf : List ℕ) (fields : List HeaderSpan) (name text : List ℕ) (k : ℕ) (d : HeaderSpan) → k < length fields
    → text ≡ span_bytes buf (get_or fields k d).name → ¬ (IsSameName text name) → ¬ (HasField buf fields name k)
has_other buf fields name text k d within is other (h, at, same) =
    let this : get_or fields k d ≡ h = get_or_from_slice_get fields k h d at in
    other (subst (λ t. IsSameName t name) (sym (is ∙ ap (λ (f : HeaderSpan). span_bytes buf f.name) this)) same)

-- the one field that was found has this value
pub has_value : (buf : List ℕ) (fields : List HeaderSpan) (name text value : List ℕ) (k : ℕ) (d : HeaderSpan)
    → IsFound buf fields name (Once k) → text ≡ span_bytes buf (get_or fields k d).value → text ≡ value
    → HasValue buf fields name value
has_value buf fields name text value k d found is same =
    let h : HeaderSpan = found.1.0 in
    let this : get_or fields k d ≡ h = get_or_from_slice_get fields k h d found.1.1 in (
      k,
      h,
      found.1.1,
      found.1.2,
      sym (is ∙ ap (λ (f : HeaderSpan). span_bytes buf f.value) this) ∙ same,
      λ j has. found.2 j (slice_get_within fields j has.0 has.1) has,
    )

-- none was found
pub has_none : (buf : List ℕ) (fields : List HeaderSpan) (name : List ℕ) → IsFound buf fields name Never → HasNone buf fields name
has_none buf fields name found = λ j has. found j (slice_get_within fields j has.0 has.1) has

-- some was found
pub not_none : (buf : List ℕ) (fields : List HeaderSpan) (name : List ℕ) (found : Found) → ¬ (found ≡ Never)
    → IsFound buf fields name found → ¬ (HasNone buf fields name)
not_none buf fields name Never some is none = some refl
not_none buf fields name (Once k) some is none = none k is.1
not_none buf fields name Often some is none = none is.0 is.3

-- and several, or the one that was found has another value
pub not_one : (buf : List ℕ) (fields : List HeaderSpan) (name value : List ℕ) → IsFound buf fields name Often
    → ¬ (HasValue buf fields name value)
not_one buf fields name value often one = omega (arith, often.2, one.5 often.0 often.3, one.5 often.1 often.4)

pub not_value : (buf : List ℕ) (fields : List HeaderSpan) (name text value : List ℕ) (k : ℕ) (d : HeaderSpan)
    → IsFound buf fields name (Once k) → text ≡ span_bytes buf (get_or fields k d).value → ¬ (text ≡ value)
    → ¬ (HasValue buf fields name value)
not_value buf fields name text value k d found is other one =
    let same : k ≡ one.0 = one.5 k found.1 in
    let here : slice_get fields k ≡ Some one.1 = ap (λ j. slice_get fields j) same ∙ one.2 in
    let this : get_or fields k d ≡ one.1 = get_or_from_slice_get fields k one.1 d here in
    other (is ∙ ap (λ (f : HeaderSpan). span_bytes buf f.value) this ∙ one.4)

pub not_there : (buf : List ℕ) (fields : List HeaderSpan) (name value : List ℕ) → IsFound buf fields name Never
    → ¬ (HasValue buf fields name value)
not_there buf fields name value none one = none one.0 (slice_get_within fields one.0 one.1 one.2) (one.1, one.2, one.3)

-- a coding that isn't `identity`, and several codings, are no plain body
pub not_plain : (buf : List ℕ) (fields : List HeaderSpan) (text : List ℕ) (k : ℕ) (d : HeaderSpan)
    → IsFound buf fields (codes "content-encoding") (Once k) → text ≡ span_bytes buf (get_or fields k d).value
    → ¬ (text ≡ codes "identity") → ¬ (HasPlainBody buf fields)
not_plain buf fields text k d found is other (inl none) = none k found.1
not_plain buf fields text k d found is other (inr one) =
    not_value buf fields (codes "content-encoding") text (codes "identity") k d found is other one

pub not_plain_often : (buf : List ℕ) (fields : List HeaderSpan) → IsFound buf fields (codes "content-encoding") Often
    → ¬ (HasPlainBody buf fields)
not_plain_often buf fields often (inl none) = none often.0 often.3
not_plain_often buf fields often (inr one) = not_one buf fields (codes "content-encoding") (codes "identity") often one
