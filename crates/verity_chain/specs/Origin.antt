-- What was true of a store at some moment. The facts of a store of the type S are S.BlockStore.
use Rattle.std.specs.Prelude.{ℕ, ◌≤◌, ◌≡◌, Bool, if◌then◌else◌, List, [], ◌∷◌, ◌++◌, length, map}
use Rattle.verity_store.specs.Given.{GoesOn}
use Rattle.verity_store.specs.declared.store.BlockStore as store

pub record StoreFacts : Type 0 where
  pub content : List (List ℕ)
  pub given : List (ℕ × List ℕ)
  pub fixed : List (ℕ × List ℕ)
  pub tells : Bool
  pub size : ℕ
  pub failures : ℕ
  pub reads : ℕ
  pub changes : ℕ
  pub room : ℕ

-- what is true of a store now
abbrev pub facts_of : {S : Type 0} → store.Ghosts S → S → StoreFacts
facts_of facts s = record {
  content = facts.content s;
  given = facts.given s;
  fixed = facts.fixed s;
  tells = facts.tells s;
  size = facts.size s;
  failures = facts.failures s;
  reads = facts.reads s;
  changes = facts.changes s;
  room = facts.room s;
}

-- since that moment the store was only read
pub record IsReadSince {S : Type 0} (facts : store.Ghosts S) (was : StoreFacts) (s : S) : Type 0 where
  pub content : facts.content s ≡ was.content
  pub changes : facts.changes s ≡ was.changes
  pub fixed : facts.fixed s ≡ was.fixed
  pub tells : facts.tells s ≡ was.tells
  pub size : facts.size s ≡ was.size
  pub room : facts.room s ≡ was.room
  pub gave : GoesOn was.given (facts.given s)
  pub failures : was.failures ≤ facts.failures s
  pub reads : was.reads ≤ facts.reads s

-- the same in numbers and lists of bytes, as a store is bound to them
abbrev pub rows_of : StoreFacts → List (ℕ × List ℕ)
rows_of was = (was.size, []) ∷ ((if was.tells then 1 else 0), []) ∷ (was.failures, []) ∷ (was.reads, []) ∷ (was.room, [])
    ∷ (was.changes, []) ∷ (length was.content, []) ∷ (length was.given, [])
    ∷ map (λ block. (0, block)) was.content ++ (was.given ++ was.fixed)
