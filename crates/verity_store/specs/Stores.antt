-- What calls leave of a store's facts. In a clause, the facts of a store of the type `S` are `S.BlockStore`.
use Rattle.std.specs.Prelude.{◌≡◌, ℕ, ◌<◌, ◌≤◌, Result, Ok, Err}
use Rattle.verity_store.specs.Given.{GoesOn}
use Rattle.verity_store.specs.declared.store.BlockStore as store

-- what every call leaves, and so any run of calls
pub record IsLater {S : Type 0} (facts : store.Ghosts S) (old new : S) : Type 0 where
  pub tells : facts.tells new ≡ facts.tells old
  pub size : facts.size new ≡ facts.size old
  pub fixed : facts.fixed new ≡ facts.fixed old
  pub gave : GoesOn (facts.given old) (facts.given new)
  pub failures : facts.failures old ≤ facts.failures new
  pub reads : facts.reads old ≤ facts.reads new
  pub changes : facts.changes old ≤ facts.changes new
  pub room : facts.room old ≤ facts.room new

-- the same, the count of reads aside
pub record StaysStore {S : Type 0} (facts : store.Ghosts S) (old new : S) : Type 0 where
  pub tells : facts.tells new ≡ facts.tells old
  pub size : facts.size new ≡ facts.size old
  pub fixed : facts.fixed new ≡ facts.fixed old
  pub gave : GoesOn (facts.given old) (facts.given new)
  pub failures : facts.failures old ≤ facts.failures new
  pub changes : facts.changes old ≤ facts.changes new
  pub room : facts.room old ≤ facts.room new

-- what reads and syncs leave
pub record IsOnlyRead {S : Type 0} (facts : store.Ghosts S) (old new : S) : Type 0 where
  pub content : facts.content new ≡ facts.content old
  pub changes : facts.changes new ≡ facts.changes old
  pub room : facts.room new ≡ facts.room old
  pub later : IsLater facts old new

-- what writes and changes of the length leave
pub record IsOnlyWritten {S : Type 0} (facts : store.Ghosts S) (old new : S) : Type 0 where
  pub reads : facts.reads new ≡ facts.reads old
  pub later : IsLater facts old new

-- what syncs and calls that make room leave
pub record IsKept {S : Type 0} (facts : store.Ghosts S) (old new : S) : Type 0 where
  pub content : facts.content new ≡ facts.content old
  pub changes : facts.changes new ≡ facts.changes old
  pub reads : facts.reads new ≡ facts.reads old
  pub later : IsLater facts old new

-- of a run of calls that ends at the first fault, and the failures counted before and after it: it answers a fault where
-- the store failed, and passes no failure over
abbrev pub TellsFailure : {T E : Type 0} → Result T E → ℕ → ℕ → Type 0
TellsFailure (Ok done) old new = new ≡ old
TellsFailure (Err fault) old new = old < new
