-- What was checked of spans, as a fact of the head that was read.
use Rattle.std.proofs.Common.{refl, ◌≡◌, ◌⊎◌, ℕ, ◌+◌, ◌-◌, Option, List, [], ◌++◌, length, take, drop, None, Some}
use Rattle.std.proofs.Common.{subst, sym, ap, ◌∙◌, map, append_assoc, inl, inr}
use Rattle.std.specs.List.{slice_get}
use Rattle.std.specs.Prelude.{codes, option_map}
use Rattle.std.specs.Io.KnownBytes.{Consumes, Keeps}
use Rattle.std.proofs.KnownBytes.{Consumes-trans, Consumes-kept, Consumes-nil}
use Rattle.std.proofs.lemmas.Option.{slice_get-map, none-some, same_Some}
use Rattle.std.proofs.lemmas.List.{take_rest}
use Rattle.httparse.specs.declared.spans.HeaderSpan.{HeaderSpan}
use Rattle.httparse.specs.declared.spans.ResponseSpans.{ResponseSpans}
use Rattle.httparse.specs.Grammar.{ResponseHead, Field, print_response}
use Rattle.httparse.specs.Spans.{span_bytes, header_bytes, name_and_value, IsResponseOf}
use Rattle.remote_http.specs.Fields.{HasValue, HasNone, HasPlainBody, IsSameName}
use Rattle.remote_http.specs.Ranges.{States, Lacks, GivesRange, content_range, content_length}

-- an element whose image is known
from_image : {X Y : Type 0} (f : X → Y) (o : Option X) (y : Y) → option_map f o ≡ Some y → (x : X) × (o ≡ Some x) × (f x ≡ y)
from_image f None y is = absurd (none-some _ is)
from_image f (Some x) y is = (x, refl, same_Some _ _ is)

-- of two lists with the same images, what stands in one at an index has its image in the other
same_there : {X Y Z : Type 0} (f : X → Z) (g : Y → Z) (xs : List X) (ys : List Y) (k : ℕ) (y : Y) → map f xs ≡ map g ys
    → slice_get ys k ≡ Some y → (x : X) × (slice_get xs k ≡ Some x) × (f x ≡ g y)
same_there f g xs ys k y same there =
    from_image f (slice_get xs k) (g y)
    (sym (slice_get-map f xs k) ∙ ap (λ zs. slice_get zs k) same ∙ slice_get-map g ys k ∙ ap (option_map g) there)

-- a field of the head has the name that its spans cover
covered_name : (buf : List ℕ) (h : HeaderSpan) (f : Field) (name : List ℕ) → header_bytes buf h ≡ name_and_value f
    → IsSameName f.name name → IsSameName (span_bytes buf h.name) name
covered_name buf h f name both is = subst (λ n. IsSameName n name) (sym (ap (λ (p : List ℕ × List ℕ). p.0) both)) is

-- the one field that spans cover is the one field of the head
pub states : (buf : List ℕ) (spans : List HeaderSpan) (head : ResponseHead) (name value : List ℕ)
    → map (header_bytes buf) spans ≡ map name_and_value head.fields → HasValue buf spans name value → States head name value
states buf spans head name value same found =
    let k = found.0 in
    let at = same_there name_and_value (header_bytes buf) head.fields spans k found.1 (sym same) found.2 in
    let f : Field = at.0 in (
      k,
      f,
      at.1,
      subst (λ n. IsSameName n name) (sym (ap (λ (p : List ℕ × List ℕ). p.0) at.2)) found.3,
      ap (λ (p : List ℕ × List ℕ). p.1) at.2 ∙ found.4,
      λ j g there is.
          let by = same_there (header_bytes buf) name_and_value spans head.fields j g same there in
          found.5 j (by.0, by.1, covered_name buf by.0 g name by.2 is),
    )

-- none that spans cover is none of the head
pub lacks : (buf : List ℕ) (spans : List HeaderSpan) (head : ResponseHead) (name : List ℕ)
    → map (header_bytes buf) spans ≡ map name_and_value head.fields → HasNone buf spans name → Lacks head name
lacks buf spans head name same none =
    λ j g there is.
    let by = same_there (header_bytes buf) name_and_value spans head.fields j g same there in
    none j (by.0, by.1, covered_name buf by.0 g name by.2 is)

pub plain : (buf : List ℕ) (spans : List HeaderSpan) (head : ResponseHead)
    → map (header_bytes buf) spans ≡ map name_and_value head.fields → HasPlainBody buf spans
    → Lacks head (codes "content-encoding") ⊎ States head (codes "content-encoding") (codes "identity")
plain buf spans head same found =
    elim found [
      | inl none ↦ inl (lacks buf spans head (codes "content-encoding") same none)
      | inr one ↦ inr (states buf spans head (codes "content-encoding") (codes "identity") same one)
    ]

-- the head that was read in pieces, and the body behind it
pub gives : (a b c : Option (List ℕ)) (said : List ℕ) (headers : List HeaderSpan) (spans : ResponseSpans)
    (first last total : ℕ) (out rest : List ℕ)
    → Consumes a b said → IsResponseOf said headers spans → spans.code ≡ 206
    → HasValue said (take spans.headers headers) (codes "content-range") (content_range first last total)
    → HasValue said (take spans.headers headers) (codes "content-length") (content_length (length out))
    → HasNone said (take spans.headers headers) (codes "transfer-encoding")
    → HasPlainBody said (take spans.headers headers)
    → last ≡ first + (length out - 1)
    → out ≡ take (length said - spans.len) (drop spans.len said) ++ rest → Consumes b c rest
    → GivesRange a c first out total
gives a b c said headers spans first last total out rest before of code range count whole form is_last all behind =
    let h : ResponseHead = of.0 in
    let at = of.1 in
    let all_said : said ++ rest ≡ print_response h ++ out =
    ap (λ (xs : List ℕ). xs ++ rest) at.reads.1 ∙ append_assoc (print_response h) (drop spans.len said) rest
    ∙ ap (λ (xs : List ℕ). print_response h ++ xs)
    (ap (λ (xs : List ℕ). xs ++ rest) (sym (take_rest said spans.len)) ∙ sym all) in
    record {
      head = h;
      is_head = at.reads.0;
      partial = sym at.code ∙ code;
      range = subst (λ n. States h (codes "content-range") (content_range first n total)) is_last
          (states said (take spans.headers headers) h (codes "content-range") (content_range first last total) at.fields range);
      counted = states said (take spans.headers headers) h (codes "content-length") (content_length (length out)) at.fields count;
      whole = lacks said (take spans.headers headers) h (codes "transfer-encoding") at.fields whole;
      plain = plain said (take spans.headers headers) h at.fields form;
      gave = subst (Consumes a c) all_said (Consumes-trans a b c said rest before behind);
    }

-- what was read before was not written
pub kept_first : (a b c : Option (List ℕ)) (bs : List ℕ) → Keeps a b → Consumes b c bs → Consumes a c bs
kept_first a b c bs kept now = Consumes-trans a b c [] bs (Consumes-kept a a b [] (Consumes-nil a) kept) now
