-- What a server gives for a response to a request for a range.
use Rattle.std.specs.Prelude.{◌≡◌, ◌⊎◌, ℕ, ◌+◌, ◌-◌, List, ◌++◌, length, Some, slice_get, codes, Option}
use Rattle.std.specs.Fmt.{decimal}
use Rattle.std.specs.Io.KnownBytes.{Consumes}
use Rattle.httparse.specs.Grammar.{ResponseHead, IsResponseHead, Field, field_value, print_response, status_code}
use Rattle.remote_http.specs.Fields.{IsSameName}

-- what a range of so many bytes in all is called
abbrev pub content_range : (first last total : ℕ) → List ℕ
content_range first last total = codes "bytes " ++ (decimal first ++ (codes "-" ++ (decimal last ++ (codes "/" ++ decimal total))))

abbrev pub content_length : ℕ → List ℕ
content_length len = decimal len

-- the head has exactly one field of this name, and that has this value
abbrev pub States : ResponseHead → (name value : List ℕ) → Type 0
States head name value = (k : ℕ) × (f : Field) × (slice_get head.fields k ≡ Some f) × IsSameName f.name name × (field_value f ≡ value)
    × ((j : ℕ) (g : Field) → slice_get head.fields j ≡ Some g → IsSameName g.name name → j ≡ k)

-- it has none of this name
abbrev pub Lacks : ResponseHead → (name : List ℕ) → Type 0
Lacks head name = (j : ℕ) (g : Field) → slice_get head.fields j ≡ Some g → ¬ (IsSameName g.name name)

-- The server gave a head of HTTP/1 and then these bytes, and no more: its status is 206; exactly one field says that they are those from
-- `first` on of so many in all, and exactly one how many they are; and they are neither in chunks nor coded.
pub record GivesRange (old new : Option (List ℕ)) (first : ℕ) (out : List ℕ) (total : ℕ) : Type 0 where
  pub head : ResponseHead
  pub is_head : IsResponseHead head
  pub partial : status_code head ≡ 206
  pub range : States head (codes "content-range") (content_range first (first + (length out - 1)) total)
  pub counted : States head (codes "content-length") (content_length (length out))
  pub whole : Lacks head (codes "transfer-encoding")
  pub plain : Lacks head (codes "content-encoding") ⊎ States head (codes "content-encoding") (codes "identity")
  pub gave : Consumes old new (print_response head ++ out)
