-- Fields of a head, by where they stand in its bytes.
use Rattle.std.specs.Prelude.{◌≡◌, ◌⊎◌, ℕ, List, map, Some, slice_get, codes}
use Rattle.std.specs.Char.{to_ascii_lowercase}
use Rattle.httparse.specs.declared.spans.HeaderSpan.{HeaderSpan}
use Rattle.httparse.specs.Spans.{span_bytes}

-- two names are one, however they are capitalized
abbrev pub IsSameName : List ℕ → List ℕ → Type 0
IsSameName a b = map to_ascii_lowercase a ≡ map to_ascii_lowercase b

-- the field at an index has this name
abbrev pub HasField : (buf : List ℕ) → List HeaderSpan → (name : List ℕ) → ℕ → Type 0
HasField buf fields name k = (h : HeaderSpan) × (slice_get fields k ≡ Some h) × IsSameName (span_bytes buf h.name) name

-- the one field of this name has this value
abbrev pub HasValue : (buf : List ℕ) → List HeaderSpan → (name value : List ℕ) → Type 0
HasValue buf fields name value = (k : ℕ) × (h : HeaderSpan) × (slice_get fields k ≡ Some h) × IsSameName (span_bytes buf h.name) name
    × (span_bytes buf h.value ≡ value) × ((j : ℕ) → HasField buf fields name j → j ≡ k)

-- no field has this name
abbrev pub HasNone : (buf : List ℕ) → List HeaderSpan → (name : List ℕ) → Type 0
HasNone buf fields name = (j : ℕ) → ¬ (HasField buf fields name j)

-- the bytes of the body are in no other coding
abbrev pub HasPlainBody : (buf : List ℕ) → List HeaderSpan → Type 0
HasPlainBody buf fields = HasNone buf fields (codes "content-encoding")
    ⊎ HasValue buf fields (codes "content-encoding") (codes "identity")
