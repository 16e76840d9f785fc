-- What follows of what a call answers.
use Rattle.std.proofs.Common.{◌≡◌, ℕ, List, Option, Result, Ok, Err, IfOk, IfErr, OnOk, OnErr, subst}
use Rattle.verity_store.specs.declared.store.BlockStore as store
use Rattle.verity_superblock.specs.Line.{TableLine}
use Rattle.verity_moved.specs.Moved.{Moving}
use Rattle.verity_chain.specs.Table.{Table}
use Rattle.verity_pull.specs.Done.{IsDone}
use Rattle.verity_pull.specs.declared.either.Counts.{Counts}
use Rattle.cli_pull.specs.Printed.{IsDoneBy}
use Rattle.cli_pull.specs.declared.line.Asked.{Asked}

-- where a fact of an answer follows of another
pub if_ok : {T E : Type 0} (P Q : T → Type 0) (answer : Result T E) → ((x : T) → P x → Q x) → IfOk answer P → IfOk answer Q
if_ok P Q (Ok x) follows p = follows x p
if_ok P Q (Err e) follows p = tt

pub on_ok : {T E P Q : Type 0} (answer : Result T E) → (P → Q) → OnOk answer P → OnOk answer Q
on_ok (Ok x) follows p = follows p
on_ok (Err e) follows p = tt

pub on_err : {T E P : Type 0} (answer : Result T E) → P → OnErr answer P
on_err (Ok x) p = tt
on_err (Err e) p = p

pub on_err_then : {T E P Q : Type 0} (answer : Result T E) → (P → Q) → OnErr answer P → OnErr answer Q
on_err_then (Ok x) follows p = p
on_err_then (Err e) follows p = follows p

pub if_err : {T E P : Type 0} (Q : E → Type 0) (answer : Result T E) → ((e : E) → P → Q e) → OnErr answer P → IfErr answer Q
if_err Q (Ok x) follows p = tt
if_err Q (Err e) follows p = follows e p

-- what was done by a line was done by the same line
pub done_by : {D : Type 0} (facts : store.Ghosts D) (moving : store.Ghosts (Moving D)) (asked : Asked) (t u : TableLine)
    (l l' k k' s h : D) (counts : Counts) → t ≡ u → IsDoneBy facts moving asked t l l' k k' s h counts
    → IsDoneBy facts moving asked u l l' k k' s h counts
done_by facts moving asked t u l l' k k' s h counts same done =
    subst (λ line. IsDoneBy facts moving asked line l l' k k' s h counts) same done

-- and so it is with the same superblock, from the same source
pub done_from : {L K S H : Type 0} (local_data : store.Ghosts L) (local_hash : store.Ghosts K) (source_data : store.Ghosts S)
    (source_hash : store.Ghosts H) (t : Table) (block other : List ℕ) (l l' : L) (k k' : K) (s s' : S) (h u h' : H)
    (root : Option (List ℕ)) (counts : Counts) → block ≡ other → h ≡ u
    → IsDone local_data local_hash source_data source_hash t block l l' k k' s s' h h' root counts
    → IsDone local_data local_hash source_data source_hash t other l l' k k' s s' u h' root counts
done_from local_data local_hash source_data source_hash t block other l l' k k' s s' h u h' root counts same seen done =
    subst (λ from. IsDone local_data local_hash source_data source_hash t other l l' k k' s s' from h' root counts) seen
    (subst (λ laid. IsDone local_data local_hash source_data source_hash t laid l l' k k' s s' h h' root counts) same done)
