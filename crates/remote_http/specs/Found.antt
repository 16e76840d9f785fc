-- How often a field was found in a head.
use Rattle.std.specs.Prelude.{◌≡◌, ℕ, ◌<◌, List, length}
use Rattle.httparse.specs.declared.spans.HeaderSpan.{HeaderSpan}
use Rattle.remote_http.specs.declared.fields.Found.{Found}
use Rattle.remote_http.specs.declared.fields.Found.TheVariants.{Never, Once, Often}
use Rattle.remote_http.specs.Fields.{HasField}

-- none of the first n fields has this name, or the one at an index alone has it, or several have
abbrev pub IsFoundBelow : (buf : List ℕ) → List HeaderSpan → (name : List ℕ) → ℕ → Found → Type 0
IsFoundBelow buf fields name n Never = (j : ℕ) → j < n → ¬ (HasField buf fields name j)
IsFoundBelow buf fields name n (Once k) = (k < n) × HasField buf fields name k × ((j : ℕ) → j < n → HasField buf fields name j → j ≡ k)
IsFoundBelow buf fields name n Often = (j : ℕ) × (k : ℕ) × (j < k) × HasField buf fields name j × HasField buf fields name k

-- the same of all
abbrev pub IsFound : (buf : List ℕ) → List HeaderSpan → (name : List ℕ) → Found → Type 0
IsFound buf fields name found = IsFoundBelow buf fields name (length fields) found
